-- `nearest::backwards::drain` meets its contract. The loop's invariant is `Draining`; the measure is how many lots can still be taken.
use Rattle.std.specs.Prelude.{◌-◌, length}
use Rattle.shape.specs.Stores.{words}
use Rattle.nearest.specs.Backwards.{Draining}
use Rattle.nearest.proofs.backwards.drain.Given as goal

abbrev pub invariant-loop-head : goal.invariant-loop-head
invariant-loop-head l = Draining (words l.store) l.goal l.initial.work l.work l.head l.tail

abbrev pub decreases-loop-head : goal.decreases-loop-head
decreases-loop-head l = length l.store.nodes.now - l.head
