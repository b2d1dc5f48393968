-- `image_check::check::broken_content` meets its contract: each part stands where it is read, and the tests are those of rules 4 to 6.
use Rattle.plain.specs.Library.{sym, ◌∙◌, arith}
use Rattle.image_check.specs.Checks.{ends_within, weights_ordered}
use Rattle.image_check.proofs.Checking.{Standing, standing, padding_set, source_astray, target_astray, weight_astray, outs_wrong, ins_wrong, all_right}
use Rattle.image_check.proofs.check.broken_content.Goals.{After-outs_start-outs}
use Rattle.image_check.proofs.check.broken_content.Goals as goal

-- what is read stands in the bytes
stands : (c : After-outs_start-outs)
    → let a = c.args in
    Standing a.bytes.now a.n a.m c.least_width-w.result c.least_width-v.result c.edges_start-records.result c.outs_start-outs.result
    c.lists_size-size.result
stands c =
    standing c.requires c.least_width-w.ensures c.least_width-v.ensures c.edges_start-records.ensures c.lists_size-size.ensures
    c.outs_start-outs.ensures

pub overflow_add-ins : goal.overflow_add-ins
overflow_add-ins c = omega (arith, (stands (goal.at.overflow_add-ins c).After-outs_start-outs).filled)

pub overflow_add-ins-2 : goal.overflow_add-ins-2
overflow_add-ins-2 c = omega (arith, (stands (goal.at.overflow_add-ins-2 c).After-outs_start-outs).filled)

pub invariant_of-sources : goal.invariant_of-sources
invariant_of-sources c = record { stands = (stands (goal.at.invariant_of-sources c).After-outs_start-outs).out_entries.ends }

pub padding_clear-requires : goal.padding_clear-requires
padding_clear-requires c = (stands (goal.at.padding_clear-requires c).After-outs_start-outs).filled

pub returns-then-not-padding_clear : goal.returns-then-not-padding_clear
unfolding ends_within weights_ordered
returns-then-not-padding_clear c = padding_set (stands (goal.at.returns-then-not-padding_clear c).After-outs_start-outs).decides (sym c.padding_clear.ensures ∙ c.if-not-padding_clear.true)

pub returns-then-not-ends_below : goal.returns-then-not-ends_below
unfolding ends_within weights_ordered
returns-then-not-ends_below c =
    source_astray (stands (goal.at.returns-then-not-ends_below c).After-outs_start-outs).decides (sym c.padding_clear.ensures ∙ c.if-not-padding_clear.false) (sym c.ends_below.ensures ∙ c.if-not-ends_below.true)

pub returns-then-not-ends_below-2 : goal.returns-then-not-ends_below-2
unfolding ends_within weights_ordered
returns-then-not-ends_below-2 c =
    target_astray (stands (goal.at.returns-then-not-ends_below-2 c).After-outs_start-outs).decides (sym c.padding_clear.ensures ∙ c.if-not-padding_clear.false) (sym c.ends_below.ensures ∙ c.if-not-ends_below.false)
    (sym c.ends_below-2.ensures ∙ c.if-not-ends_below-2.true)

pub returns-then-not-weights_right : goal.returns-then-not-weights_right
unfolding ends_within weights_ordered
returns-then-not-weights_right c =
    weight_astray (stands (goal.at.returns-then-not-weights_right c).After-outs_start-outs).decides (sym c.padding_clear.ensures ∙ c.if-not-padding_clear.false) (sym c.ends_below.ensures ∙ c.if-not-ends_below.false)
    (sym c.ends_below-2.ensures ∙ c.if-not-ends_below-2.false) (sym c.weights_right.ensures ∙ c.if-not-weights_right.true)

pub lists_right-requires : goal.lists_right-requires
lists_right-requires c =
    let e = (stands (goal.at.lists_right-requires c).After-outs_start-outs).out_entries in record { few = e.few; narrow = e.narrow; within = e.within }

pub returns-then-not-lists_right : goal.returns-then-not-lists_right
unfolding ends_within weights_ordered
returns-then-not-lists_right c =
    outs_wrong (stands (goal.at.returns-then-not-lists_right c).After-outs_start-outs).decides (sym c.padding_clear.ensures ∙ c.if-not-padding_clear.false) (sym c.ends_below.ensures ∙ c.if-not-ends_below.false)
    (sym c.ends_below-2.ensures ∙ c.if-not-ends_below-2.false) (sym c.weights_right.ensures ∙ c.if-not-weights_right.false)
    (sym c.lists_right.ensures ∙ c.if-not-lists_right.true)

pub lists_right-requires-2 : goal.lists_right-requires-2
lists_right-requires-2 c =
    let e = (stands (goal.at.lists_right-requires-2 c).After-outs_start-outs).in_entries in record { few = e.few; narrow = e.narrow; within = e.within }

pub returns-then-not-lists_right-2 : goal.returns-then-not-lists_right-2
unfolding ends_within weights_ordered
returns-then-not-lists_right-2 c =
    ins_wrong (stands (goal.at.returns-then-not-lists_right-2 c).After-outs_start-outs).decides (sym c.padding_clear.ensures ∙ c.if-not-padding_clear.false) (sym c.ends_below.ensures ∙ c.if-not-ends_below.false)
    (sym c.ends_below-2.ensures ∙ c.if-not-ends_below-2.false) (sym c.weights_right.ensures ∙ c.if-not-weights_right.false)
    (sym c.lists_right.ensures ∙ c.if-not-lists_right.false) (sym c.lists_right-2.ensures ∙ c.if-not-lists_right-2.true)

pub returns : goal.returns
unfolding ends_within weights_ordered
returns c =
    all_right (stands (goal.at.returns c).After-outs_start-outs).decides (sym c.padding_clear.ensures ∙ c.if-not-padding_clear.false) (sym c.ends_below.ensures ∙ c.if-not-ends_below.false)
    (sym c.ends_below-2.ensures ∙ c.if-not-ends_below-2.false) (sym c.weights_right.ensures ∙ c.if-not-weights_right.false)
    (sym c.lists_right.ensures ∙ c.if-not-lists_right.false) (sym c.lists_right-2.ensures ∙ c.if-not-lists_right-2.false)
