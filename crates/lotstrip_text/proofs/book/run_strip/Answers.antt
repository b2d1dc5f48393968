-- `lotstrip_text::book::run_strip` meets its contract: a fresh store is made, and the strip is run; neither is refused.
use Rattle.std.specs.Prelude.{refl}
use Rattle.plain.specs.Library.{ap, subst, ◌∙◌}
use Rattle.plain.specs.Memory.{Lengths}
use Rattle.plain.specs.Devices.{box}
use Rattle.shape.specs.Shape.{lengths_of}
use Rattle.shape.specs.Stores.{words_mut}
use Rattle.strip.specs.Fresh.{Made}
use Rattle.lotstrip_text.proofs.Booking.{made_ok, fresh_made, strip_ok, booking}
use Rattle.lotstrip_text.proofs.book.run_strip.Goals.{After-fresh}
use Rattle.lotstrip_text.proofs.book.run_strip.Goals as goal

made : (c : After-fresh) → Made box (lengths_of (words_mut c.args.store.now)) c.fresh.result
made c = subst (λ (l : Lengths). Made box l c.fresh.result) (c.lengths-lengths.ensures ∙ ap lengths_of c.as_store.ensures) c.fresh.ensures

pub unwrap-store-requires : goal.unwrap-store-requires
unwrap-store-requires c = made_ok c.requires (made (goal.at.unwrap-store-requires c).After-fresh)

pub unwrap-requires : goal.unwrap-requires
unwrap-requires c =
    strip_ok c.requires (fresh_made (made (goal.at.unwrap-requires c).After-fresh) c.unwrap-store.ensures _ refl refl) refl _ c.strip.ensures.strips

pub returns-clause-booked : goal.returns-clause-booked
returns-clause-booked c =
    booking c.requires (fresh_made (made (goal.at.returns-clause-booked c).After-fresh) c.unwrap-store.ensures _ refl refl) refl c.strip.ensures.strips
