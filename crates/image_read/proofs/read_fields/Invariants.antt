-- `image_read::read_fields` meets its contract. The loop's invariant: the fields passed are in their words, all other words are as they were, and the next field is
-- where the distances say.
use Rattle.std.specs.Prelude.{◌+◌, ◌*◌, ◌≡◌, length}
use Rattle.shape.specs.Index.{Rewritten}
use Rattle.image_check.specs.Spread.{spread}
use Rattle.image_read.proofs.read_fields.Given as goal

abbrev pub invariant-loop-word : goal.invariant-loop-word
invariant-loop-word l = record {
  long : length l.words ≡ length l.initial.words;
  place : l.from ≡ l.position + l.stride * l.word-index;
  passed : Rewritten l.initial.words l.words 0 l.word-index (spread l.bytes l.position l.stride l.width);
}
