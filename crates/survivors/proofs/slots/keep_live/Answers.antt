-- `survivors::slots::keep_live` meets its contract. The loop's invariant: the words of the live slots passed stand at the front, in slot order, all others are as
-- they were. No live slot's word is overwritten before it is moved, as a slot's place among the live ones is at most its number.
use Rattle.std.specs.Prelude.{◌<◌, ◌≡◌, length}
use Rattle.std.specs.Iterator.Adapters.{enumerate_source, enumerate_count}
use Rattle.plain.specs.Library.{ap, inl, ◌∙◌, arith}
use Rattle.plain.specs.Reads.{live_slots}
use Rattle.plain.proofs.Laws.ListLaws.{map_snoc}
use Rattle.liveness.specs.Flags.{live_flags}
use Rattle.liveness.specs.Laws.Flags.{length_flags}
use Rattle.liveness.specs.LiveSlots.{left}
use Rattle.survivors.proofs.Laws.Turns.{kept_already, live_slots_few, moving_kept, moving_low, moving_below, moving_on, moving_all}
use Rattle.survivors.proofs.slots.keep_live.Goals.{After-into_iter-to-iterator, In-Some}
use Rattle.survivors.proofs.slots.keep_live.Goals as goal

-- every slot is live
pub returns-then-count-bound : goal.returns-then-count-bound
returns-then-count-bound c = kept_already _ _ _ (omega arith)

-- before the first turn all live slots are left
all_left : (c : After-into_iter-to-iterator) → left (enumerate_source c.into_iter-to-iterator.result) ≡ live_slots (live_flags c.args.live.now c.args.bound)
all_left c =
    ap (λ it. left (enumerate_source it)) c.into_iter-to-iterator.ensures.into_iter_gives ∙ ap left c.enumerate-to-items.ensures.source ∙ c.new.ensures

none_counted : (c : After-into_iter-to-iterator) → enumerate_count c.into_iter-to-iterator.result ≡ 0
none_counted c = ap (λ it. enumerate_count it) c.into_iter-to-iterator.ensures.into_iter_gives ∙ c.enumerate-to-items.ensures.count

pub loop-to-init-derived : goal.loop-to-init-derived
loop-to-init-derived c = ((tt, tt, inl (rw (none_counted c, all_left c) (omega (arith, live_slots_few c.args.live.now c.args.bound)))), tt)

-- the slot's word is there
slot_in : (c : In-Some) → c.in-Some.slot < length c.args.words.now
slot_in c =
    omega (arith, moving_below c.loop-to.invariant c.in-Some.ensures.steps.0, length_flags c.args.live.now c.args.bound, c.requires.room)

-- and so is the one that it goes to
to_in : (c : In-Some) → c.in-Some.to < length c.args.words.now
to_in c = omega (arith, slot_in c, moving_low c.loop-to.invariant c.in-Some.ensures.steps.0, c.in-Some.ensures.steps.1)

pub offset_bounds-words-slot : goal.offset_bounds-words-slot
offset_bounds-words-slot c = omega (arith, slot_in (goal.at.offset_bounds-words-slot c).In-Some)

pub bounds-words-slot : goal.bounds-words-slot
bounds-words-slot c = omega (arith, slot_in (goal.at.bounds-words-slot c).In-Some)

pub offset_bounds-words-to : goal.offset_bounds-words-to
offset_bounds-words-to c = omega (arith, to_in (goal.at.offset_bounds-words-to c).In-Some)

pub bounds-words-to : goal.bounds-words-to
bounds-words-to c = omega (arith, to_in (goal.at.bounds-words-to c).In-Some)

pub loop-to-preserved : goal.loop-to-preserved
loop-to-preserved c =
    let m = c.loop-to.invariant in
    let steps = c.in-Some.ensures.steps in
    rw (map_snoc (λ p. p.1) c.loop-to.yielded (c.in-Some.to, c.in-Some.slot), steps.1, steps.2)
    (moving_on m steps.0 _ (omega (arith, moving_low m steps.0, slot_in (goal.at.loop-to-preserved c).In-Some)) (moving_kept m steps.0))

pub returns : goal.returns
returns c = moving_all c.loop-to.invariant c.in-None.ensures.steps.0.0
