-- `survivors::slots::write_map` meets its contract. The loop's invariant: the entries of the slots passed are written, all other words are as they were, and
-- `next` is the number of live slots passed, counted from `first` on.
use Rattle.plain.specs.Compaction.{renumbering_from}
use Rattle.plain.specs.Renumbering.{lookup}
use Rattle.liveness.specs.Flags.{live_flags}
use Rattle.shape.specs.Index.{Rewritten}
use Rattle.survivors.specs.Laws.Turns.{Passed}
use Rattle.survivors.proofs.slots.write_map.Given as goal

abbrev pub invariant-loop-slot : goal.invariant-loop-slot
invariant-loop-slot l =
    Passed l.live l.bound l.first l.slot l.next × Rewritten l.initial.word-items l.word-items 0 l.slot (lookup (renumbering_from l.first (live_flags l.live l.bound)))
