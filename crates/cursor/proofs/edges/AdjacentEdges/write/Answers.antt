-- `write` of the listed edges meets its contract.
use Rattle.plain.specs.Library.{sym, ◌∙◌}
use mathlib.Core.List.{map-id}
use Rattle.cursor.specs.Laws.Reading.{keep_first, keep_past, keep_none}
use Rattle.cursor.proofs.Writing.{writing_room, writing_on, writing_skip, writing_end}
use Rattle.cursor.proofs.edges.AdjacentEdges.write.Goals as goal

pub bounds-out-n : goal.bounds-out-n
bounds-out-n c =
    writing_room c.loop-edge.invariant (keep_first _ c.in-Some.ensures.steps (sym c.has.ensures ∙ c.if-has.true)) c.requires

pub loop-edge-preserved-then-has : goal.loop-edge-preserved-then-has
loop-edge-preserved-then-has c =
    writing_on c.loop-edge.invariant (keep_first _ c.in-Some.ensures.steps (sym c.has.ensures ∙ c.if-has.true)) c.requires

pub loop-edge-preserved : goal.loop-edge-preserved
loop-edge-preserved c =
    writing_skip c.loop-edge.invariant (keep_past _ c.in-Some.ensures.steps (sym c.has.ensures ∙ c.if-has.false))

pub returns : goal.returns
returns c =
    let end = writing_end c.loop-edge.invariant (keep_none _ c.in-None.ensures.steps.0) in
    record { counted = end.0; wrote = rw map-id at end.1 }
