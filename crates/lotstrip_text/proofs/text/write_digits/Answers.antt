-- `lotstrip_text::text::write_digits` meets its contract: after each turn one digit more stands before the end.
use Rattle.plain.specs.Library.{arith}
use Rattle.lotstrip_text.proofs.Digits.{digits_start, digits_next, digits_end}
use Rattle.lotstrip_text.proofs.text.write_digits.Goals as goal

pub loop-done-init : goal.loop-done-init
loop-done-init c = digits_start _ _ _ (omega arith) (omega arith)

pub loop-done-preserved : goal.loop-done-preserved
loop-done-preserved c = digits_next c.loop-done.invariant (omega (arith, c.requires)) (omega (arith, c.requires))

pub returns : goal.returns
returns c = digits_end c.loop-done.invariant (omega (arith, c.requires)) c.requires
