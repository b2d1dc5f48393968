-- `runs::overlay::drain` meets its contract. The invariant is `Draining`; the measure is the length of what is to come of the ring.
use Rattle.std.specs.Prelude.{length}
use Rattle.runs.proofs.Draining.{Draining, to_come}
use Rattle.runs.proofs.overlay.drain.Given as goal

abbrev pub invariant-loop-next : goal.invariant-loop-next
invariant-loop-next l = Draining l.initial.axis l.axis l.layout.edge_capacity l.layout.node_capacity l.layout.counts l.live l.node l.ends.last l.next

abbrev pub decreases-loop-next : goal.decreases-loop-next
decreases-loop-next l = length (to_come l.initial.axis l.layout.edge_capacity l.layout.counts l.ends.last l.next)
