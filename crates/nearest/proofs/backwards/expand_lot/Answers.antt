-- `nearest::backwards::expand_lot` meets its contract. The loop's invariant is `Expanding`, of the entries that are listed.
use Rattle.plain.specs.Library.{sym, ◌∙◌}
use Rattle.plain.specs.declared.TraversalDirection.TheVariants.{Outgoing, Incoming}
use Rattle.cursor.specs.Laws.Reading.{keep_first, keep_past, keep_none}
use Rattle.nearest.proofs.Stores.{listed_within}
use Rattle.nearest.proofs.Expanding.{expanding_in, expanding_see, expanding_on, expanding_end}
use Rattle.nearest.proofs.backwards.expand_lot.Goals as goal

pub bounds-store-edge : goal.bounds-store-edge
bounds-store-edge c =
    listed_within c.requires.checked Incoming Outgoing _ _
    (expanding_in c.loop-edge.invariant (keep_first _ c.in-Some.ensures.steps (sym c.has.ensures ∙ c.if-has.true)))

pub see-end-requires : goal.see-end-requires
see-end-requires c = expanding_see c.loop-edge.invariant (keep_first _ c.in-Some.ensures.steps (sym c.has.ensures ∙ c.if-has.true))

pub loop-edge-preserved-then-has : goal.loop-edge-preserved-then-has
loop-edge-preserved-then-has c =
    expanding_on c.loop-edge.invariant (keep_first _ c.in-Some.ensures.steps (sym c.has.ensures ∙ c.if-has.true)) c.see-end.ensures

pub loop-edge-preserved : goal.loop-edge-preserved
loop-edge-preserved c = rw (keep_past _ c.in-Some.ensures.steps (sym c.has.ensures ∙ c.if-has.false)) at c.loop-edge.invariant

pub returns : goal.returns
returns c = expanding_end c.loop-edge.invariant (keep_none _ c.in-None.ensures.steps.0)
