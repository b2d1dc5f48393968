-- `validate_lists::runs::chain_right` meets its contract. The loop's invariant: the entries from e on are still to be followed, those before are marked.
use Rattle.std.specs.Prelude.{◌*◌}
use denote.Param.{number}
use Rattle.liveness.specs.Flags.{live_flags}
use Rattle.shape.specs.Columns.{cell}
use Rattle.validate_lists.specs.Runs.{run_test}
use Rattle.validate_lists.specs.contracts.runs.chain_right.{OWN-type}
use Rattle.validate_lists.proofs.Running.{Chaining}
use Rattle.validate_lists.proofs.runs.chain_right.Given as goal

abbrev pub invariant-loop : goal.invariant-loop
invariant-loop g l =
    Chaining (run_test l.side.axis.now (OWN-type (number g.row.OWN)) l.node l.side.layout.counts.edges.bound l.live (live_flags l.side.live_edges.now l.side.layout.counts.edges.bound)) (cell l.side.axis.now (3 * l.side.layout.edge_capacity)) l.count l.first l.tail l.initial.seen l.seen l.counter l.e l.last
