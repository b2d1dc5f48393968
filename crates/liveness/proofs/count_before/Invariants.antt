-- `liveness::count_before` meets its contract. The loop's invariant: what is counted so far are the live flags of the words passed.
use Rattle.std.specs.Prelude.{◌*◌, ◌≡◌}
use Rattle.plain.specs.Reads.{live_count}
use Rattle.liveness.specs.Flags.{live_flags}
use Rattle.liveness.proofs.count_before.Given as goal

abbrev pub invariant-loop-word : goal.invariant-loop-word
invariant-loop-word l = l.live ≡ live_count (live_flags l.words (64 * l.word-index))
