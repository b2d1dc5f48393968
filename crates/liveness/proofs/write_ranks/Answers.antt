-- `liveness::write_ranks` meets its contract: the counts before the words passed are there.
use Rattle.std.specs.Prelude.{◌*◌, refl}
use Rattle.plain.specs.Library.{sym, arith}
use Rattle.std.proofs.Common.{length-set}
use lib.Count.{ones-le}
use Rattle.plain.specs.Lists.{from, count}
use Rattle.liveness.specs.Flags.{live_flags}
use Rattle.liveness.proofs.WordFlags.{count_turn}
use Rattle.liveness.specs.Laws.Flags.{count_le}
use Rattle.liveness.proofs.Ranking.{ranks_start, ranks_turn}
use Rattle.liveness.proofs.write_ranks.Goals as goal

pub loop-i-init : goal.loop-i-init
unfolding live_flags from count
loop-i-init c = record { counted = refl; as_long = refl; ranked = ranks_start c.requires }

pub overflow_add-live : goal.overflow_add-live
overflow_add-live c =
    omega (arith, ones-le 64 _ (c.type_inv.words c.loop-i.i).fits, count_le c.args.words.now (64 * c.loop-i.i))

pub loop-i-preserved : goal.loop-i-preserved
loop-i-preserved c =
    let i = c.loop-i.invariant in record {
      counted = rw i.counted (sym (count_turn c.args.words.now c.loop-i.i (c.type_inv.words c.loop-i.i).fits));
      as_long = simp length-set i.as_long;
      ranked = ranks_turn i.ranked (omega arith) i.counted;
    }
