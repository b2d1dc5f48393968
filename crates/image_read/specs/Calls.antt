-- What reading an image on a device comes to, with any memory and any bytes.
use Rattle.std.specs.Prelude.{ℕ, ◌≡◌, List}
use Rattle.plain.specs.declared.Answer.{Answer}
use Rattle.plain.specs.Image.{parsed}
use Rattle.plain.specs.Devices.{Device}
use Rattle.plain.specs.Calls.{read_image, read_state}
use Rattle.shape.specs.Shape.{Words, lengths_of, shape_of}
use Rattle.shape.specs.Checked.{Checked}
use Rattle.shape.specs.Kept.{Renewed, Spared, SameLengths}
use Rattle.shape.specs.Fields.{RenewalLeaves}
use Rattle.shape.specs.Steps.{state_of}
use Rattle.compact.specs.Survivors.{shape_of_survivors}
use Rattle.compact.specs.Calls.{Canonical}

-- Reading bytes into a store's memory: w is what was there, v is what is there then.
pub record ReadOf (device : Device) (w : Words) (bytes : List ℕ) (number value : ℕ) (v : Words) : Type 0 where
  pub answered : ◌≡◌ {A = Answer} (record { number = number; value = value }) (read_image device (lengths_of w) bytes)
  pub state : number ≡ 0 → state_of (shape_of v) ≡ read_state bytes
  -- all is in the base: "the result equals what compaction leaves"
  pub shape : number ≡ 0 → shape_of v ≡ shape_of_survivors (parsed bytes)
  pub checked : number ≡ 0 → Checked v
  pub canonical : number ≡ 0 → Canonical v
  pub lengths : SameLengths w v
  -- not a word and not a count
  pub refused_keeps : (number ≡ 0 → ⊥) → v ≡ w
  -- column by column: no word past the bounds, no link, no first, tail or count, and no spare one is written; every field is fixed (Agreeing)
  pub renewed : Renewed w v
  pub spared : Spared w v
  -- of what is no field (`NoField`): all is as it was but the offset of a store without a node, and nothing is left to the program
  pub leaves : RenewalLeaves w v
