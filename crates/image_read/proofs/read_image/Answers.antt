-- `image_read::read_image` meets its contract: what is refused, then the store.
use Rattle.std.specs.Prelude.{◌≡◌, refl}
use Rattle.plain.specs.Library.{sym, ap, ◌∙◌}
use Rattle.plain.specs.declared.Answer.{Answer}
use Rattle.plain.specs.Answers.{done_of}
use Rattle.plain.specs.Memory.{Lengths}
use Rattle.plain.specs.Calls.{read_image}
use Rattle.memory.specs.Lengths.{device_of}
use Rattle.memory.specs.Laws.{device_proper}
use Rattle.shape.specs.Shape.{lengths_of}
use Rattle.shape.specs.Stores.{words_mut}
use Rattle.image_read.specs.Reading.{Accepted}
use Rattle.image_read.proofs.ReadCases.{accepted, read_done}
use Rattle.image_read.proofs.read_image.Goals.{In_ok-check_image}
use Rattle.image_read.proofs.read_image.Goals as goal

-- what is told
told : (c : In_ok-check_image) → let a = c.args in
    ◌≡◌ {A = Answer} (record { number = 0; value = 0 }) (read_image (device_of a.device) (lengths_of (words_mut a.store.now)) a.bytes.now)
told c =
    let a = c.args in
    ap done_of (sym c.in_ok-check_image.was) ∙ c.check_image.ensures
    ∙ ap (λ (l : Lengths). read_image (device_of a.device) l a.bytes.now) (c.lengths.ensures ∙ ap lengths_of c.as_store.ensures)

taken : (c : In_ok-check_image) → Accepted (lengths_of (words_mut c.args.store.now)) c.args.bytes.now
taken c = let a = c.args in accepted (words_mut a.store.now) a.bytes.now _ (told c) (device_proper a.device) refl

pub new-requires : goal.new-requires
new-requires c = (taken (goal.at.new-requires c).In_ok-check_image).image

pub place-requires : goal.place-requires
place-requires c = rw c.new.ensures (taken (goal.at.place-requires c).In_ok-check_image)

pub returns-clause-read : goal.returns-clause-read
returns-clause-read c =
    let a = c.args in
    read_done (words_mut a.store.now) a.bytes.now _ (told (goal.at.returns-clause-read c).In_ok-check_image) (device_proper a.device) refl
    (rw c.new.ensures at c.place.ensures.placed)
