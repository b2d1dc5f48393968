-- `validate_words::axes::entries_low` meets its contract: the entries are a column.
use Rattle.std.specs.Prelude.{ℕ, ltb}
use Rattle.plain.specs.Library.{◌∙◌, arith}
use Rattle.validate_words.specs.Laws.Passing.{part_all}
use Rattle.validate_words.proofs.axes.entries_low.Goals as goal

pub returns : goal.returns
returns c = c.words_below.ensures ∙ part_all c.args.axis.now _ _ (omega (arith, c.requires)) (λ (w : ℕ). ltb w c.args.base)
