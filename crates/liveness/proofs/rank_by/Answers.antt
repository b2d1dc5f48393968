-- `liveness::rank_by` meets its contract: the slots of the words before, and those of its own word before it.
use Rattle.std.specs.Prelude.{◌+◌, ◌/◌, ◌%◌, ◌^◌, ◌≡◌, get_or}
use Rattle.plain.specs.Library.{sym, ◌∙◌, arith}
use lib.Count.{ones}
use Rattle.plain.specs.Reads.{live_count}
use Rattle.liveness.specs.Flags.{live_flags}
use Rattle.liveness.specs.Laws.Bits.{power}
use Rattle.liveness.proofs.WordFlags.{count_rest, rank_flags}
use Rattle.liveness.specs.Laws.Flags.{count_le}
use Rattle.liveness.proofs.rank_by.Goals.{Start}
use Rattle.liveness.proofs.rank_by.Goals as goal

whole : (c : Start) → let a = c.args in
    get_or a.ranks.now (a.slot / 64) 0 + ones (get_or a.words.now (a.slot / 64) 0 % 2 ^ (a.slot % 64)) ≡ live_count (live_flags a.words.now a.slot)
whole c =
    let a = c.args in
    rw (c.requires.0.holds (a.slot / 64) (omega (arith, c.requires.1))) (sym (count_rest a.words.now a.slot))

pub overflow_add-result : goal.overflow_add-result
overflow_add-result c = let s = c in rw power (omega (arith, whole (goal.at.overflow_add-result c).Start, count_le s.args.words.now s.args.slot, s.requires.0.few, s.requires.1))

pub returns : goal.returns
returns c = let s = c in rw power (whole (goal.at.returns c).Start ∙ sym (rank_flags s.args.words.now s.args.slots s.args.slot (omega (arith, s.requires.1))))
