-- `write_low`: the number's bytes that are passed are stored, the highest of them first.
use Rattle.std.specs.Prelude.{◌≡◌, ◌++◌, length, take, drop}
use Rattle.std.specs.Int.{bytes_high_first}
use Rattle.bits.proofs.pen.write_low.Given as goal

abbrev pub invariant-loop-i : goal.invariant-loop-i
invariant-loop-i l = l.bytes ≡ take l.i (bytes_high_first (length l.initial.bytes) l.x) ++ drop l.i l.initial.bytes
