-- `liveness::count_before` meets its contract: the live flags of whole words are counted word by word, and at last those of the rest.
use Rattle.std.specs.Prelude.{◌+◌, ◌*◌, ◌/◌, ◌%◌, ◌^◌, ◌<◌, ◌≡◌, refl, get_or}
use Rattle.plain.specs.Library.{sym, arith}
use Rattle.std.proofs.Common.{length-take, get_or-take}
use lib.Count.{ones, ones-le}
use Rattle.plain.specs.Reads.{live_count}
use Rattle.plain.specs.Lists.{from, count}
use Rattle.liveness.specs.Flags.{live_flags}
use Rattle.liveness.specs.Laws.Bits.{power}
use Rattle.liveness.proofs.WordFlags.{count_turn, count_rest}
use Rattle.liveness.specs.Laws.Flags.{count_le}
use Rattle.liveness.proofs.count_before.Goals.{Else-rest-eq0}
use Rattle.liveness.proofs.count_before.Goals as goal

-- with the last word's slots the count is whole
whole : (c : Else-rest-eq0)
    → let a = c.args in
    c.loop-word.live + ones (get_or a.words.now (a.slots / 64) 0 % 2 ^ (a.slots % 64)) ≡ live_count (live_flags a.words.now a.slots)
whole c =
    let a = c.args in
    let e : c.loop-word.word-index ≡ a.slots / 64 = omega (arith, length-take (a.slots / 64) a.words.now) in
    rw (c.loop-word.invariant, e) (sym (count_rest a.words.now a.slots))

pub loop-word-init : goal.loop-word-init
unfolding live_flags from count
loop-word-init c = refl

pub overflow_add-live : goal.overflow_add-live
overflow_add-live c =
    let i = c.loop-word.word-index in
    let h : i < c.args.slots / 64 = omega (arith, length-take (c.args.slots / 64) c.args.words.now) in
    rw get_or-take (omega (arith, ones-le 64 _ (c.type_inv.words i).fits, count_le c.args.words.now (64 * i)))

pub loop-word-preserved : goal.loop-word-preserved
loop-word-preserved c =
    let i = c.loop-word.word-index in
    let h : i < c.args.slots / 64 = omega (arith, length-take (c.args.slots / 64) c.args.words.now) in
    rw (get_or-take, c.loop-word.invariant) (sym (count_turn c.args.words.now i (c.type_inv.words i).fits))

pub overflow_add-result : goal.overflow_add-result
overflow_add-result c =
    rw power (omega (arith, whole (goal.at.overflow_add-result c).Else-rest-eq0, count_le c.args.words.now c.args.slots))

pub returns : goal.returns
returns c = rw power (whole (goal.at.returns c).Else-rest-eq0)
