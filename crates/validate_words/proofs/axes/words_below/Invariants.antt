-- `validate_words::axes::words_below` meets its contract. The loop's invariant: what was found is whether the words before are below the bound.
use Rattle.std.specs.Prelude.{◌≡◌, get_or, ltb}
use Rattle.plain.specs.Lists.{all, from}
use Rattle.validate_words.proofs.axes.words_below.Given as goal

abbrev pub invariant-loop-word : goal.invariant-loop-word
invariant-loop-word l = l.right ≡ all (λ x. ltb (get_or l.words x 0) l.bound) (from 0 l.word-index)
