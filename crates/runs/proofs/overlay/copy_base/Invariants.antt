-- `runs::overlay::copy_base` meets its contract. The invariant is `Copying`.
use Rattle.runs.proofs.Starting.{Copying}
use Rattle.runs.proofs.overlay.copy_base.Given as goal

abbrev pub invariant-loop-at : goal.invariant-loop-at
invariant-loop-at l = Copying l.initial.axis l.axis l.layout.edge_capacity l.layout.node_capacity l.layout.counts l.live l.node l.at l.at-end
