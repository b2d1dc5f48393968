-- `validate_lists::walks::walks_right` meets its contract. The loop's invariant: the walks of the nodes from x on decide, the entries of those before are marked. The measure
-- is the number of nodes left.
use Rattle.validate_lists.proofs.Walking.{Walking}
use Rattle.validate_lists.proofs.walks.walks_right.Given as goal

abbrev pub invariant-loop-x : goal.invariant-loop-x
invariant-loop-x l = Walking l.side.axis.now l.side.layout.edge_capacity l.side.layout.node_capacity l.side.layout.counts l.side.live_nodes.now l.side.live_edges.now l.x l.seen
