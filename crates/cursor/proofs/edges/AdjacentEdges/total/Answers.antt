-- `total` of the listed edges meets its contract.
use Rattle.plain.specs.Library.{sym, ◌∙◌, arith}
use Rattle.cursor.specs.Laws.Reading.{keep_first, keep_past, keep_none}
use Rattle.cursor.proofs.Summing.{summing_in, summing_on, summing_skip, summing_end}
use Rattle.cursor.proofs.edges.AdjacentEdges.total.Goals as goal

pub bounds-lows-at : goal.bounds-lows-at
bounds-lows-at c =
    c.requires.in_lows c.in-Some.edge
    (summing_in c.loop-edge.invariant (keep_first _ c.in-Some.ensures.steps (sym c.has.ensures ∙ c.if-has.true)))

pub bounds-highs-at : goal.bounds-highs-at
bounds-highs-at c =
    c.requires.in_highs c.in-Some.edge
    (summing_in c.loop-edge.invariant (keep_first _ c.in-Some.ensures.steps (sym c.has.ensures ∙ c.if-has.true)))

pub loop-edge-preserved-then-has : goal.loop-edge-preserved-then-has
loop-edge-preserved-then-has c =
    rw (c.from.ensures, c.from-then-has.ensures)
    (summing_on c.loop-edge.invariant (keep_first _ c.in-Some.ensures.steps (sym c.has.ensures ∙ c.if-has.true))
    (omega (arith, c.type_inv.lows c.in-Some.edge)) (omega (arith, c.type_inv.highs c.in-Some.edge)))

pub loop-edge-preserved : goal.loop-edge-preserved
loop-edge-preserved c =
    summing_skip c.loop-edge.invariant (keep_past _ c.in-Some.ensures.steps (sym c.has.ensures ∙ c.if-has.false))

pub returns : goal.returns
returns c =
    let sums = summing_end c.loop-edge.invariant (keep_none _ c.in-None.ensures.steps.0) in
    rw (sums.0, sums.1)
