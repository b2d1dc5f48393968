-- `nearest::backwards::seed` meets its contract.
use Rattle.plain.specs.Library.{length-set, arith}
use Rattle.nearest.proofs.backwards.seed.Goals as goal

pub bounds-work-node_capacity : goal.bounds-work-node_capacity
bounds-work-node_capacity c = simp length-set (omega arith)
