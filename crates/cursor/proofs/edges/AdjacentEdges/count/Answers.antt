-- `count` of the listed edges meets its contract.
use Rattle.std.specs.Prelude.{length}
use Rattle.plain.specs.Library.{sym, ap, ◌∙◌, arith}
use Rattle.plain.proofs.Laws.ListLaws.{length_keep, count_length}
use Rattle.cursor.specs.Cursor.{listed_by}
use Rattle.cursor.specs.Laws.Reading.{keep_first, keep_past, keep_none}
use Rattle.cursor.proofs.edges.AdjacentEdges.count.Goals as goal

pub overflow_add-count : goal.overflow_add-count
overflow_add-count c =
    let more = rw (keep_first _ c.in-Some.ensures.steps (sym c.has.ensures ∙ c.if-has.true)) at c.loop-edge.invariant in
    let s = c.self.inside in
    omega (
      arith,
      more,
      ap length c.self.view_is,
      length_keep (listed_by s.listed) s.entries,
      count_length (listed_by s.listed) s.entries,
      ap length c.countable-edge-items.ensures.same,
      c.countable-edge-items.ensures.few,
    )

pub loop-edge-preserved-then-has : goal.loop-edge-preserved-then-has
loop-edge-preserved-then-has c =
    let more = rw (keep_first _ c.in-Some.ensures.steps (sym c.has.ensures ∙ c.if-has.true)) at c.loop-edge.invariant in
    omega (arith, more)

pub loop-edge-preserved : goal.loop-edge-preserved
loop-edge-preserved c = rw (keep_past _ c.in-Some.ensures.steps (sym c.has.ensures ∙ c.if-has.false)) at c.loop-edge.invariant

pub returns : goal.returns
returns c = omega (arith, rw (keep_none _ c.in-None.ensures.steps.0) at c.loop-edge.invariant)
