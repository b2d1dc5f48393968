-- `validate_words::weights::weights_right` meets its contract: the first words of both.
use Rattle.std.specs.Prelude.{leb}
use Rattle.plain.specs.Library.{sym, ap₂, ◌∙◌}
use Rattle.shape.specs.Rules.{weights_right}
use Rattle.validate_words.specs.Laws.Passing.{front_long, front_at, slots_agree}
use Rattle.validate_words.proofs.weights.weights_right.Goals as goal

pub none_above-requires : goal.none_above-requires
none_above-requires c = front_long _ _ c.requires.0 ∙ sym (front_long _ _ c.requires.1)

pub returns : goal.returns
unfolding weights_right
returns c =
    c.none_above.ensures ∙ rw (front_long _ _ c.requires.0) (slots_agree _ _ _ (λ e l. ap₂ leb (front_at _ _ c.requires.0 e l) (front_at _ _ c.requires.1 e l)))
