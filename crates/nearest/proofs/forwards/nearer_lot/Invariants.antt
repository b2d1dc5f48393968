-- `nearest::forwards::nearer_lot`: the loop's invariant is `Seeking`.
use Rattle.shape.specs.Columns.{end_at}
use Rattle.cursor.specs.Cursor.{listed_by}
use Rattle.cursor.specs.Laws.Finding.{Seeking}
use Rattle.nearest.specs.Forwards.{leads}
use Rattle.nearest.proofs.forwards.nearer_lot.Given as goal

abbrev pub invariant-loop-edge : goal.invariant-loop-edge
invariant-loop-edge l = Seeking (leads (end_at l.store.incoming.now) l.work l.word) (listed_by l.listed) l.initial.edge-iterator l.edge-iterator
