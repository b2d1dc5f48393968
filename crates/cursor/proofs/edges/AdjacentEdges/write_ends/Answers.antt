-- `write_ends` of the listed edges meets its contract.
use Rattle.plain.specs.Library.{sym, ◌∙◌}
use Rattle.cursor.specs.Laws.Reading.{keep_first, keep_past, keep_none}
use Rattle.cursor.proofs.Writing.{writing_room, writing_in, writing_on, writing_skip, writing_end}
use Rattle.cursor.proofs.edges.AdjacentEdges.write_ends.Goals as goal

pub bounds-ends-edge : goal.bounds-ends-edge
bounds-ends-edge c =
    c.requires.within c.in-Some.edge
    (writing_in c.loop-edge.invariant (keep_first _ c.in-Some.ensures.steps (sym c.has.ensures ∙ c.if-has.true)))

pub bounds-out-n : goal.bounds-out-n
bounds-out-n c =
    writing_room c.loop-edge.invariant (keep_first _ c.in-Some.ensures.steps (sym c.has.ensures ∙ c.if-has.true)) c.requires.fits

pub loop-edge-preserved-then-has : goal.loop-edge-preserved-then-has
loop-edge-preserved-then-has c =
    writing_on c.loop-edge.invariant (keep_first _ c.in-Some.ensures.steps (sym c.has.ensures ∙ c.if-has.true)) c.requires.fits

pub loop-edge-preserved : goal.loop-edge-preserved
loop-edge-preserved c =
    writing_skip c.loop-edge.invariant (keep_past _ c.in-Some.ensures.steps (sym c.has.ensures ∙ c.if-has.false))

pub returns : goal.returns
returns c = (writing_end c.loop-edge.invariant (keep_none _ c.in-None.ensures.steps.0)).1
