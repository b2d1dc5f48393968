-- `nearest::backwards::expand_lot` meets its contract. The loop's invariant is `Expanding`, of the entries that are listed.
use Rattle.std.specs.Prelude.{length}
use Rattle.plain.specs.declared.TraversalDirection.TheVariants.{Incoming}
use Rattle.plain.specs.Lists.{keep}
use Rattle.plain.specs.Plain.{list_of}
use Rattle.shape.specs.Columns.{end_at}
use Rattle.shape.specs.Shape.{lists}
use Rattle.shape.specs.Stores.{words}
use Rattle.cursor.specs.Cursor.{listed_by}
use Rattle.nearest.specs.Frontier.{frontier}
use Rattle.nearest.proofs.Expanding.{Expanding}
use Rattle.nearest.proofs.backwards.expand_lot.Given as goal

abbrev pub invariant-loop-edge : goal.invariant-loop-edge
invariant-loop-edge l =
    Expanding (length l.store.nodes.now) l.word (end_at l.store.outgoing.now) (list_of Incoming (lists (words l.store)) l.lot)
    (frontier l.initial.end l.initial.work) (keep (listed_by l.listed) l.edge-iterator) (frontier l.end l.work)
