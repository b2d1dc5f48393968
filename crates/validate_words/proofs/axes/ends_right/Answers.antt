-- `validate_words::axes::ends_right` meets its contract: the ends are the first column.
use Rattle.std.specs.Prelude.{ℕ, ltb}
use Rattle.plain.specs.Library.{◌∙◌, arith}
use Rattle.validate_words.specs.Laws.Passing.{front_all}
use Rattle.validate_words.proofs.axes.ends_right.Goals as goal

pub returns : goal.returns
returns c = c.words_below.ensures ∙ front_all c.args.axis.now _ (omega arith) (λ (w : ℕ). ltb w c.args.layout.counts.nodes.bound)
