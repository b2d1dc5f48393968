-- `validate::flat::base_flat` meets its contract.
use Rattle.plain.specs.Library.{sym, ◌∙◌, inl, inr, eq-eqb, eqb-true, not-true, not-false}
use Rattle.validate.specs.Flat.{place_shown}
use Rattle.validate_words.specs.Laws.Passing.{count_start, count_more, count_skip, count_done}
use Rattle.validate.proofs.Flattening.{marking_start, marking_skip, marking_more, entry_readable, count_readable, base_done}
use Rattle.validate.proofs.flat.base_flat.Goals as goal

pub loop-i-init : goal.loop-i-init
loop-i-init c = (marking_start _ _ _ _ _ _, count_start _ _)

pub loop-i-preserved-then-has_run : goal.loop-i-preserved-then-has_run
loop-i-preserved-then-has_run c =
    let a = c.args in
    let inv = c.loop-i.invariant in
    let hidden = not-true _ (sym c.has_run.ensures ∙ c.if-has_run.true) in
    (marking_skip _ _ _ _ _ inv.0 c.loop-i-test.true hidden, count_skip (place_shown a.axis.now a.layout.edge_capacity a.layout.node_capacity) inv.1 c.loop-i-test.true hidden)

pub loop-i-preserved : goal.loop-i-preserved
loop-i-preserved c =
    let a = c.args in
    let inv = c.loop-i.invariant in
    let shown = not-false _ (sym c.has_run.ensures ∙ c.if-has_run.false) in (
      marking_more _ _ _ _ _ inv.0 c.loop-i-test.true shown (c.entry_placed.ensures c.if-not-entry_placed.false) c.mark.ensures c.if-not-mark.false c.mark.auto.seen,
      count_more (place_shown a.axis.now a.layout.edge_capacity a.layout.node_capacity) inv.1 c.loop-i-test.true shown,
    )

pub count_places-requires : goal.count_places-requires
count_places-requires c = count_readable c.requires

pub returns-then-runless : goal.returns-then-runless
returns-then-runless c =
    let a = c.args in
    λ _. base_done a.axis.now a.layout.edge_capacity a.layout.node_capacity a.layout.counts c.loop-i.invariant.0 c.loop-i-test.false
    (inl (λ i l. eq-eqb _ 0 ((entry_readable c.requires i l).1 c.if-runless.true)))

pub returns-else-runless : goal.returns-else-runless
returns-else-runless c =
    let a = c.args in
    let inv = c.loop-i.invariant in
    λ h. base_done a.axis.now a.layout.edge_capacity a.layout.node_capacity a.layout.counts inv.0 c.loop-i-test.false
    (inr (sym c.count_places.ensures ∙ eqb-true _ _ h ∙ count_done (place_shown a.axis.now a.layout.edge_capacity a.layout.node_capacity) inv.1 c.loop-i-test.false))
