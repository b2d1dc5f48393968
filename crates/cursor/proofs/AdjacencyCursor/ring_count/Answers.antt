-- `ring_count` meets its contract: with no run or base part the ring is all that is left.
use Rattle.std.specs.Prelude.{length}
use Rattle.plain.specs.Library.{ap, ◌∙◌, inl, arith}
use Rattle.cursor.specs.Laws.Cursor.{ring_remaining}
use Rattle.cursor.specs.Laws.Reading.{remaining_short, first_counted}
use Rattle.cursor.proofs.AdjacencyCursor.ring_count.Goals as goal

pub count-requires-clause-fits : goal.count-requires-clause-fits
count-requires-clause-fits c = inl (rw c.of.ensures (omega (arith, remaining_short c.requires)))

pub returns : goal.returns
returns c =
    first_counted c.count.ensures.ran ∙ ap length (c.of.ensures ∙ ring_remaining c.args.next.now c.args.self)
