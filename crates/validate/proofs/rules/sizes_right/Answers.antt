-- `validate::rules::sizes_right` meets its contract: the lengths are those of the words.
use Rattle.plain.specs.Library.{ap, ◌∙◌}
use Rattle.plain.specs.Memory.{Lengths}
use Rattle.shape.specs.Rules.{rule_1}
use Rattle.validate_words.specs.Sizes.{sizes_test}
use Rattle.validate.proofs.rules.sizes_right.Goals as goal

pub returns : goal.returns
unfolding rule_1 sizes_test
returns c =
    c.sizes_right.ensures
    ∙ ap (λ (l : Lengths). sizes_test c.args.store.now.counts l.capacities.nodes l.capacities.edges l.highs l.live_nodes l.live_edges l.outgoing l.incoming) c.lengths.ensures
