-- `lotstrip_text::input::read_words` meets its contract: after each turn one word more stands in its place.
use Rattle.lotstrip_text.proofs.Words.{WordsTo}
use Rattle.lotstrip_text.proofs.input.read_words.Given as goal

abbrev pub invariant-loop-i : goal.invariant-loop-i
invariant-loop-i l = WordsTo l.bytes l.initial.words l.i l.words
