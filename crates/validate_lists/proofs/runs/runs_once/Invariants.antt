-- `validate_lists::runs::runs_once` meets its contract. The loop's invariant: the nodes before x are right, and only their entries are marked.
use Rattle.std.specs.Prelude.{length}
use Rattle.validate_lists.proofs.Once.{Listing}
use Rattle.validate_lists.proofs.runs.runs_once.Given as goal

abbrev pub invariant-loop-x : goal.invariant-loop-x
invariant-loop-x l = Listing l.side.axis.now l.side.layout.edge_capacity l.side.layout.node_capacity l.side.layout.counts.edges.base l.side.layout.counts.edges.bound (length l.initial.seen) l.x l.seen
