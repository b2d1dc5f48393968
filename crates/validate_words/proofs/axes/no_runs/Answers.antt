-- `validate_words::axes::no_runs` meets its contract: the marks are a column.
use Rattle.std.specs.Prelude.{ℕ, ltb}
use Rattle.plain.specs.Library.{◌∙◌, arith}
use Rattle.validate_words.specs.Laws.Passing.{part_all}
use Rattle.validate_words.proofs.axes.no_runs.Goals as goal

pub returns : goal.returns
returns c = c.words_below.ensures ∙ part_all c.args.axis.now _ _ (omega arith) (λ (w : ℕ). ltb w 1)
