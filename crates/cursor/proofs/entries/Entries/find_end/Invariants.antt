-- `find_end` of the entries: the loop's invariant is `Seeking`.
use Rattle.cursor.specs.Cursor.{listed_by}
use Rattle.cursor.specs.Finding.{ends_at}
use Rattle.cursor.specs.Laws.Finding.{Seeking}
use Rattle.cursor.proofs.entries.Entries.find_end.Given as goal

abbrev pub invariant-loop-edge : goal.invariant-loop-edge
invariant-loop-edge l = Seeking (ends_at l.ends l.end) (listed_by l.listed) l.fn.self l.edge-iterator
