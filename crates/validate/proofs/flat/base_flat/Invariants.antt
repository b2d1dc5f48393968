-- `validate::flat::base_flat` meets its contract. The loop's invariant: the entries before i whose end has no run are placed, marked, none twice, and counted. The measure
-- is the number of entries left.
use Rattle.plain.specs.Lists.{from, count}
use Rattle.shape.specs.Columns.{adjacency_at}
use Rattle.validate.specs.Flat.{place_shown, EntryPlaced}
use Rattle.validate_words.specs.Laws.Passing.{Counting}
use Rattle.validate.proofs.Flattening.{Marking}
use Rattle.validate.proofs.flat.base_flat.Given as goal

abbrev pub invariant-loop-i : goal.invariant-loop-i
invariant-loop-i l =
    Marking (adjacency_at l.axis l.layout.edge_capacity) (place_shown l.axis l.layout.edge_capacity l.layout.node_capacity) (λ k. EntryPlaced l.axis l.layout.edge_capacity l.layout.node_capacity l.layout.counts.nodes.base k (adjacency_at l.axis l.layout.edge_capacity k)) 0 l.base l.i l.initial.seen l.seen
    × Counting (place_shown l.axis l.layout.edge_capacity l.layout.node_capacity) l.base (count (place_shown l.axis l.layout.edge_capacity l.layout.node_capacity) (from 0 l.base)) l.i l.placed
