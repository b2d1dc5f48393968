-- `lotstrip_text::text::write_digits` meets its contract: after each turn one digit more stands before the end.
use Rattle.std.specs.Prelude.{length}
use Rattle.lotstrip_text.proofs.Digits.{WritingDigits}
use Rattle.lotstrip_text.proofs.text.write_digits.Given as goal

abbrev pub invariant-loop-done : goal.invariant-loop-done
invariant-loop-done l = WritingDigits l.initial.digits (length l.initial.digits) l.n l.left l.done l.digits
