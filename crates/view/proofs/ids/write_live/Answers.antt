-- `view::ids::write_live` meets its contract: after each turn one live slot more is written.
use Rattle.std.specs.Prelude.{◌≡◌}
use Rattle.std.proofs.Common.{inl}
use Rattle.plain.specs.Library.{ap, ◌∙◌, arith}
use Rattle.liveness.specs.Laws.Flags.{length_flags}
use Rattle.liveness.specs.LiveSlots.{left}
use Rattle.view.proofs.Listing.{listing_start, listing_few, listing_room, listing_below, listing_on, listing_end}
use Rattle.view.proofs.ids.write_live.Goals as goal

pub loop-n-init : goal.loop-n-init
loop-n-init c =
    let same = c.into_iter-n-iterator.ensures.into_iter_gives in
    let count : c.into_iter-n-iterator.result.count ≡ 0 = ap (λ i. i.count) same ∙ c.enumerate-n-items.ensures.count in
    let whole = ap (λ i. left i.iter) same ∙ ap left c.enumerate-n-items.ensures.source ∙ c.new.ensures in
    let listing = listing_start whole c.requires.fits in record {
      can = (tt, tt, inl (rw count (omega (arith, listing_few listing, length_flags c.args.words.now c.args.bound, c.requires.few))));
      ends = tt;
      listing = rw count listing;
    }

pub overflow_cast-slots : goal.overflow_cast-slots
overflow_cast-slots c =
    omega (arith, listing_below c.loop-n.invariant.listing c.in-Some.ensures.steps.0, length_flags c.args.words.now c.args.bound, c.requires.few)

pub bounds-slots-n : goal.bounds-slots-n
bounds-slots-n c = omega (arith, listing_room c.loop-n.invariant.listing c.in-Some.ensures.steps.0, c.in-Some.ensures.steps.1)

pub loop-n-preserved : goal.loop-n-preserved
loop-n-preserved c =
    let steps = c.in-Some.ensures.steps in
    let listing = listing_on c.loop-n.invariant.listing steps.0 in record {
      can = (tt, tt, inl (rw steps.2 (omega (arith, listing_few listing, length_flags c.args.words.now c.args.bound, c.requires.few))));
      ends = tt;
      listing = rw (steps.2, steps.1) listing;
    }

pub returns : goal.returns
returns c = listing_end c.loop-n.invariant.listing c.in-None.ensures.steps.0.0
