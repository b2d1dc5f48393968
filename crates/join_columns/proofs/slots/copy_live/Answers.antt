-- `join_columns::slots::copy_live` meets its contract. The loop's invariant: the words of the live slots passed stand at the front of `out`, in slot order, all its other words are as they
-- were.
use Rattle.std.specs.Prelude.{◌<◌, ◌≡◌, length, refl}
use Rattle.std.specs.Iterator.Adapters.{enumerate_source, enumerate_count}
use Rattle.plain.specs.Library.{ap, inl, ◌∙◌, arith}
use Rattle.plain.specs.Reads.{live_slots}
use Rattle.plain.proofs.Laws.ListLaws.{map_snoc}
use Rattle.liveness.specs.Flags.{live_flags}
use Rattle.liveness.specs.Laws.Flags.{length_flags}
use Rattle.liveness.specs.LiveSlots.{left}
use Rattle.survivors.proofs.Laws.Turns.{live_slots_few, moving_few, moving_below, moving_on, moving_all}
use Rattle.join_columns.proofs.Copying.{copied_all}
use Rattle.join_columns.proofs.slots.copy_live.Goals.{After-into_iter-to-iterator, In-Some}
use Rattle.join_columns.proofs.slots.copy_live.Goals as goal

-- before the first turn all live slots are left
all_left : (c : After-into_iter-to-iterator)
    → left (enumerate_source c.into_iter-to-iterator.result) ≡ live_slots (live_flags c.args.live.now c.args.bound)
all_left c =
    ap (λ it. left (enumerate_source it)) c.into_iter-to-iterator.ensures.into_iter_gives ∙ ap left c.enumerate-to-items.ensures.source ∙ c.new-live_slots.ensures

none_counted : (c : After-into_iter-to-iterator) → enumerate_count c.into_iter-to-iterator.result ≡ 0
none_counted c = ap (λ it. enumerate_count it) c.into_iter-to-iterator.ensures.into_iter_gives ∙ c.enumerate-to-items.ensures.count

pub loop-to-init-derived : goal.loop-to-init-derived
loop-to-init-derived c =
    ((tt, tt, inl (rw (none_counted c, all_left c) (omega (arith, live_slots_few c.args.live.now c.args.bound)))), tt)

-- the slot's word is there
slot_in : (c : In-Some) → c.in-Some.slot < length c.args.words.now
slot_in c =
    let k = c.args in
    omega (arith, moving_below c.loop-to.invariant c.in-Some.ensures.steps.0, length_flags k.live.now k.bound, c.requires.readable.room)

-- there is room for it
to_in : (c : In-Some) → c.in-Some.to < length c.args.out.now
to_in c = omega (arith, moving_few c.loop-to.invariant c.in-Some.ensures.steps.0, c.in-Some.ensures.steps.1, c.requires.fits)

pub offset_bounds-words-slot : goal.offset_bounds-words-slot
offset_bounds-words-slot c = omega (arith, slot_in (goal.at.offset_bounds-words-slot c).In-Some)

pub bounds-words-slot : goal.bounds-words-slot
bounds-words-slot c = omega (arith, slot_in (goal.at.bounds-words-slot c).In-Some)

pub offset_bounds-out-to : goal.offset_bounds-out-to
offset_bounds-out-to c = omega (arith, to_in (goal.at.offset_bounds-out-to c).In-Some)

pub bounds-out-to : goal.bounds-out-to
bounds-out-to c = omega (arith, to_in (goal.at.bounds-out-to c).In-Some)

pub loop-to-preserved : goal.loop-to-preserved
loop-to-preserved c =
    let steps = c.in-Some.ensures.steps in
    rw (map_snoc (λ p. p.1) c.loop-to.yielded (c.in-Some.to, c.in-Some.slot), steps.1, steps.2)
    (moving_on c.loop-to.invariant steps.0 _ (omega (arith, moving_few c.loop-to.invariant steps.0, c.requires.fits)) refl)

pub returns : goal.returns
returns c =
    let k = c.args in
    copied_all k.words.now (live_flags k.live.now k.bound) c.requires.fits (moving_all c.loop-to.invariant c.in-None.ensures.steps.0.0)
