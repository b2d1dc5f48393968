-- `nearest::forwards::write_way` meets its contract. The loop's invariant is `Going`.
use Rattle.shape.specs.Stores.{words}
use Rattle.nearest.proofs.Nearing.{Going}
use Rattle.nearest.proofs.forwards.write_way.Given as goal

abbrev pub invariant-loop-i : goal.invariant-loop-i
invariant-loop-i l = Going (words l.store) l.work l.goal l.left l.from l.initial.chain l.i l.lot l.chain
