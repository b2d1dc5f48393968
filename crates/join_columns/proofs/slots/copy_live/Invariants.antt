-- `join_columns::slots::copy_live` meets its contract. The loop's invariant: the words of the live slots passed stand at the front of `out`, in slot order, all its other words are as they
-- were.
use Rattle.std.specs.Prelude.{map}
use Rattle.std.specs.Iterator.Adapters.{enumerate_source, enumerate_count}
use Rattle.liveness.specs.Flags.{live_flags}
use Rattle.liveness.specs.LiveSlots.{left}
use Rattle.survivors.specs.Laws.Turns.{Moving}
use Rattle.join_columns.proofs.slots.copy_live.Given as goal

abbrev pub invariant-loop-to : goal.invariant-loop-to
invariant-loop-to l =
    Moving l.words (live_flags l.live l.bound) (map (λ p. p.1) l.yielded) (left (enumerate_source l.to-iterator)) l.initial.out
    (enumerate_count l.to-iterator) l.out
