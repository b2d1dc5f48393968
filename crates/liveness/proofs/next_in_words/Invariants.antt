-- `liveness::next_in_words` meets its contract. The loop's invariant: the next live slot from the first word on is that from word `i` on.
use Rattle.std.specs.Prelude.{◌*◌, ◌≡◌}
use Rattle.liveness.specs.Flags.{live_flags, next_live}
use Rattle.liveness.proofs.next_in_words.Given as goal

abbrev pub invariant-loop-i : goal.invariant-loop-i
invariant-loop-i l =
    next_live (live_flags l.words l.slots) (64 * l.start) ≡ next_live (live_flags l.words l.slots) (64 * l.i)
