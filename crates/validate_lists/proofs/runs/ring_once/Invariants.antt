-- `validate_lists::runs::ring_once` meets its contract. The loop's invariant: the entries from e on are still to be followed, those before are marked.
use Rattle.std.specs.Prelude.{◌*◌, true}
use Rattle.liveness.specs.Flags.{live_flags}
use Rattle.shape.specs.Columns.{cell}
use Rattle.validate_lists.specs.Runs.{run_test}
use Rattle.validate_lists.proofs.Once.{Circling}
use Rattle.validate_lists.proofs.runs.ring_once.Given as goal

abbrev pub invariant-loop : goal.invariant-loop
invariant-loop l =
    Circling (run_test l.side.axis.now true l.node l.side.layout.counts.edges.bound l.live (live_flags l.side.live_edges.now l.side.layout.counts.edges.bound)) (cell l.side.axis.now (2 * l.side.layout.edge_capacity)) l.last l.count l.first l.initial.seen l.seen l.counter l.e
