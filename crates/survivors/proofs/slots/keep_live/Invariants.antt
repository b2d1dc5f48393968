-- `survivors::slots::keep_live` meets its contract. The loop's invariant: the words of the live slots passed stand at the front, in slot order, all others are as
-- they were.
use Rattle.std.specs.Prelude.{map}
use Rattle.std.specs.Iterator.Adapters.{enumerate_source, enumerate_count}
use Rattle.liveness.specs.Flags.{live_flags}
use Rattle.liveness.specs.LiveSlots.{left}
use Rattle.survivors.specs.Laws.Turns.{Moving}
use Rattle.survivors.proofs.slots.keep_live.Given as goal

abbrev pub invariant-loop-to : goal.invariant-loop-to
invariant-loop-to l =
    Moving l.initial.words (live_flags l.live l.bound) (map (λ p. p.1) l.yielded) (left (enumerate_source l.to-iterator)) l.initial.words (enumerate_count l.to-iterator) l.words
