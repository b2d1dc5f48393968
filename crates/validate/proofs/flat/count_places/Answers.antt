-- `validate::flat::count_places` meets its contract. The loop's invariant: the places of the nodes before x are counted. The measure is the number of nodes left.
use Rattle.plain.specs.Library.{arith}
use Rattle.validate.proofs.Flattening.{counted_start, counted_on, counted_done}
use Rattle.validate.proofs.flat.count_places.Goals as goal

pub loop-x-init : goal.loop-x-init
loop-x-init c = counted_start _ _ _ _

pub overflow_sub-size : goal.overflow_sub-size
overflow_sub-size c = omega (arith, c.requires.ascends _ c.loop-x-test.true)

pub overflow_add-total : goal.overflow_add-total
overflow_add-total c =
    omega (arith, c.requires.low _ c.loop-x-test.true, (counted_on _ _ _ _ c.loop-x.invariant c.loop-x-test.true (c.requires.ascends _ c.loop-x-test.true) c.pick-total.ensures).low)

-- one node more
pub loop-x-preserved : goal.loop-x-preserved
loop-x-preserved c =
    counted_on _ _ _ _ c.loop-x.invariant c.loop-x-test.true (c.requires.ascends _ c.loop-x-test.true) c.pick-total.ensures

pub returns : goal.returns
returns c = counted_done _ _ _ _ c.loop-x.invariant c.loop-x-test.false
