-- `bits::pen::write_low` meets its contract: what is stored are the number's low bytes.
use Rattle.std.specs.Prelude.{refl}
use Rattle.plain.specs.Library.{arith}
use Rattle.bits.proofs.Wrote.{low_turn, low_done}
use Rattle.bits.proofs.pen.write_low.Goals as goal

pub loop-i-init : goal.loop-i-init
loop-i-init c = refl

pub loop-i-preserved : goal.loop-i-preserved
loop-i-preserved c = low_turn _ _ _ _ _ c.loop-i-test.true (omega arith) c.loop-i.invariant

pub returns : goal.returns
returns c = low_done _ _ _ _ _ c.loop-i-test.false c.loop-i.auto.i-end refl c.loop-i.invariant
