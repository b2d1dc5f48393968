-- The answer of a reading, by the device, the lengths of the memory and the bytes. "Reading: 13, 12, 2 (13 and 2 nodes before edges, a payload slice shorter than its count
-- being too short, then the other slices)"; on the skid 15 "in place of 13 when lent memory exceeds its limits, and right after 12 when an image does".
use Rattle.std.specs.Prelude.{ℕ, ◌≡◌, List}
use Rattle.plain.specs.Library.{ap, ap₂, ◌∙◌}
use Rattle.plain.specs.declared.Answer.{Answer}
use Rattle.plain.specs.Image.{broken_image, nodes_in, edges_in}
use Rattle.plain.specs.Memory.{Lengths}
use Rattle.plain.specs.Devices.{Device, Proper}
use Rattle.plain.specs.Calls.{reading, read_image}
use Rattle.plain.proofs.Laws.Devices.{box_takes}
use Rattle.memory.specs.Laws.{read_roomy}
use Rattle.image_read.specs.Reading.{Accepted}

-- by the rule and the counts that were read
pub read_told : (device : Device) (l : Lengths) (bytes : List ℕ) {rule n m : ℕ} {told : Answer} → rule ≡ broken_image bytes → n ≡ nodes_in bytes → m ≡ edges_in bytes
    → told ≡ reading device l rule n m → told ≡ read_image device l bytes
unfolding read_image
read_told device l bytes {rule} is nodes edges told =
    told ∙ ap₂ (λ (n m : ℕ). reading device l rule n m) nodes edges ∙ ap (λ (k : ℕ). reading device l k (nodes_in bytes) (edges_in bytes)) is

-- where the number is 0, nothing was refused
pub read_accepted : {device : Device} → Proper device → (l : Lengths) (bytes : List ℕ) → (read_image device l bytes).number ≡ 0 → Accepted l bytes
read_accepted p l bytes done =
    let r = read_roomy p l bytes done in
    record { few = box_takes p r.takes; roomy = r.roomy; image = r.unbroken; nodes_room = r.nodes_room; edges_room = r.edges_room }
