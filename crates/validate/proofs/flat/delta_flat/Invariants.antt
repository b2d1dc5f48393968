-- `validate::flat::delta_flat` meets its contract. The loop's invariant: the edges of the delta before e whose end has no run are linked, and their links marked, none
-- twice. The measure is the number of edges left.
use Rattle.shape.specs.Columns.{next_at}
use Rattle.validate_words.specs.Climbs.{Linked}
use Rattle.validate.specs.Flat.{at_base}
use Rattle.validate.proofs.Flattening.{Marking}
use Rattle.validate.proofs.flat.delta_flat.Given as goal

abbrev pub invariant-loop-e : goal.invariant-loop-e
invariant-loop-e l =
    Marking (next_at l.axis l.layout.edge_capacity) (at_base l.axis l.layout.edge_capacity l.layout.node_capacity) (Linked l.axis l.layout.edge_capacity l.base l.bound) l.base l.bound l.e l.initial.seen l.seen
