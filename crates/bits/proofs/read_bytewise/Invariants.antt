-- `bits::read_bytewise` meets its contract: the bytes passed are a window.
use Rattle.std.specs.Prelude.{◌*◌, ◌≡◌}
use Rattle.plain.specs.Bits.{field_at}
use Rattle.bits.proofs.read_bytewise.Given as goal

abbrev pub invariant-loop-byte : goal.invariant-loop-byte
invariant-loop-byte l = l.window ≡ field_at l.bytes (8 * l.start) (8 * l.byte-index)
