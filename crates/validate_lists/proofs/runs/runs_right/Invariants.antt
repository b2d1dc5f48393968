-- `validate_lists::runs::runs_right` meets its contract. The loop's invariant: the runs of the nodes from x on decide, the entries of those before are marked.
use Rattle.std.specs.Prelude.{◌≡◌}
use Rattle.plain.specs.Lists.{distinct, from}
use Rattle.liveness.specs.Flags.{live_flags}
use Rattle.marks.specs.Marks.{marked}
use Rattle.validate_lists.proofs.Running.{tests_of, entries_of, runs_from}
use Rattle.validate_lists.proofs.runs.runs_right.Given as goal

abbrev pub invariant-loop-x : goal.invariant-loop-x
invariant-loop-x l =
    tests_of l.side.axis.now l.side.layout.edge_capacity l.side.layout.node_capacity l.side.layout.counts.edges.bound (live_flags l.side.live_nodes.now l.node_bound) (live_flags l.side.live_edges.now l.side.layout.counts.edges.bound)
    (distinct (entries_of l.side.axis.now l.side.layout.edge_capacity l.side.layout.node_capacity (from 0 l.node_bound))) (from 0 l.node_bound)
    ≡ runs_from l.side.axis.now l.side.layout.edge_capacity l.side.layout.node_capacity l.node_bound l.side.layout.counts.edges.bound (live_flags l.side.live_nodes.now l.node_bound) (live_flags l.side.live_edges.now l.side.layout.counts.edges.bound) (marked l.seen) l.x
