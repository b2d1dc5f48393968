-- `liveness::write_ranks` meets its contract: the counts before the words passed are there.
use Rattle.std.specs.Prelude.{◌*◌, ◌≡◌, length}
use Rattle.plain.specs.Reads.{live_count}
use Rattle.liveness.specs.Flags.{live_flags}
use Rattle.liveness.specs.Ranks.{RankedTo}
use Rattle.liveness.proofs.write_ranks.Given as goal

abbrev pub invariant-loop-i : goal.invariant-loop-i
invariant-loop-i l = record {
  counted : l.live ≡ live_count (live_flags l.words (64 * l.i));
  as_long : length l.ranks ≡ length l.initial.ranks;
  ranked : RankedTo l.words l.slots l.ranks l.i;
}
