-- `survivors::slots::translate` meets its contract. The loop's invariant: the words passed are put through the map, all others are as they were.
use Rattle.shape.specs.Index.{Rewritten}
use Rattle.survivors.specs.Slots.{translated_word}
use Rattle.survivors.proofs.slots.translate.Given as goal

abbrev pub invariant-loop-word : goal.invariant-loop-word
invariant-loop-word l = Rewritten l.initial.words l.words 0 l.word-index (translated_word l.initial.words l.map)
