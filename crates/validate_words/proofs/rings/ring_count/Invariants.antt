-- `validate_words::rings::ring_count` meets its contract. The loop's invariant: the rings of the nodes before are counted.
use Rattle.std.specs.Prelude.{length, not, eqb, get_or}
use Rattle.plain.specs.Numbers.{NONE}
use Rattle.plain.specs.Lists.{from, count as count_of}
use Rattle.validate_words.specs.Laws.Passing.{Counting}
use Rattle.validate_words.proofs.rings.ring_count.Given as goal

abbrev pub invariant-loop-last : goal.invariant-loop-last
invariant-loop-last l =
    Counting (λ x. not (eqb (get_or l.lasts x 0) NONE)) (length l.lasts) (count_of (λ x. not (eqb (get_or l.lasts x 0) NONE)) (from 0 (length l.lasts))) l.last-index l.rings
