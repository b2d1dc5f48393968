-- `nearest::forwards::nearer_lot` meets its contract: what is found is the first edge that leads to the word.
use Rattle.std.specs.Prelude.{◌≡◌}
use Rattle.plain.specs.Library.{sym, ◌∙◌, arith, eq-eqb, ne_eqb}
use Rattle.plain.specs.declared.TraversalDirection.TheVariants.{Outgoing, Incoming}
use Rattle.plain.specs.Lists.{keep}
use Rattle.plain.specs.Plain.{list_of}
use Rattle.shape.specs.Shape.{lists}
use Rattle.shape.specs.Stores.{words}
use Rattle.cursor.specs.Cursor.{listed_by}
use Rattle.cursor.specs.Laws.Finding.{seek_among, seek_found, seek_none, seek_skip, seek_on}
use Rattle.nearest.proofs.Stores.{listed_within, end_within}
use Rattle.nearest.proofs.forwards.nearer_lot.Goals.{After-into_iter-edge-iterator, else-has-via-then-has+else-work-store, else-has-via-else-has}
use Rattle.nearest.proofs.forwards.nearer_lot.Goals as goal

-- the entries that are listed are the lot's out-list
whole : (c : After-into_iter-edge-iterator)
    → keep (listed_by c.parts-entries.result.1) c.into_iter-edge-iterator.result ≡ list_of Outgoing (lists (words c.args.store.now)) c.args.lot
whole c = rw c.into_iter-edge-iterator.ensures.into_iter_gives (c.parts-entries.ensures ∙ c.edges.ensures)

pub bounds-store-edge : goal.bounds-store-edge
bounds-store-edge c =
    let at = goal.at.bounds-store-edge c in
    listed_within c.requires.checked Outgoing Incoming _ _
    (rw (whole at.After-into_iter-edge-iterator) at (seek_among c.loop-edge.invariant c.in-Some.ensures.steps (sym c.has.ensures ∙ c.if-has.true)))

pub bounds-work-store : goal.bounds-work-store
bounds-work-store c =
    let at = goal.at.bounds-work-store c in
    let listed = rw (whole at.After-into_iter-edge-iterator) at (seek_among c.loop-edge.invariant c.in-Some.ensures.steps (sym c.has.ensures ∙ c.if-has.true)) in
    omega (arith, end_within c.requires.checked Outgoing Incoming _ _ listed, c.requires.words_long)

pub returns-then-work-store : goal.returns-then-work-store
returns-then-work-store c =
    let at = goal.at.returns-then-work-store c in
    sym (rw (whole at.After-into_iter-edge-iterator) at
    (seek_found c.loop-edge.invariant c.in-Some.ensures.steps (eq-eqb _ _ c.if-work-store.true) (sym c.has.ensures ∙ c.if-has.true)))

pub loop-edge-preserved : goal.loop-edge-preserved
loop-edge-preserved c =
    elim c.else-has.branch [
      | else-has-via-then-has+else-work-store w ↦ seek_on c.loop-edge.invariant c.in-Some.ensures.steps (ne_eqb _ _ w.if-work-store.false)
      | else-has-via-else-has w ↦ seek_skip c.loop-edge.invariant c.in-Some.ensures.steps (sym c.has.ensures ∙ w.if-has.false)
    ]

pub returns : goal.returns
returns c =
    let at = goal.at.returns c in
    sym (rw (whole at.After-into_iter-edge-iterator) at (seek_none c.loop-edge.invariant c.in-None.ensures.steps.0))
