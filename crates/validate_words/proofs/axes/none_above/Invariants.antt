-- `validate_words::axes::none_above` meets its contract. The loop's invariant: what was found and the words that are left decide.
use Rattle.validate_words.proofs.Paired.{Pairing}
use Rattle.validate_words.proofs.axes.none_above.Given as goal

abbrev pub invariant-loop-low : goal.invariant-loop-low
invariant-loop-low l = Pairing l.lows l.highs l.right l.low-iterator.a.rest.now l.low-iterator.b.rest.now
