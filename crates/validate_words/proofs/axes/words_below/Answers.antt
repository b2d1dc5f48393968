-- `validate_words::axes::words_below` meets its contract.
use Rattle.std.specs.Prelude.{refl}
use Rattle.validate_words.specs.Laws.Passing.{first_none, first_more}
use Rattle.validate_words.proofs.axes.words_below.Goals as goal

pub loop-word-init : goal.loop-word-init
loop-word-init c = first_none _

pub loop-word-preserved : goal.loop-word-preserved
loop-word-preserved c = first_more _ _ c.loop-word.invariant refl
