-- What one operation of a strip comes to on a checked store: number and value of document 01's table, the shape's own step, the store checked again; a refused
-- operation leaves every word.
use Rattle.std.specs.Prelude.{ℕ, ◌≡◌, true, false}
use Rattle.plain.specs.declared.Operation.{Operation}
use Rattle.plain.specs.Step.{Outcome, step}
use Rattle.shape.specs.Shape.{Words, capacities, shape_of, lists}
use Rattle.shape.specs.Checked.{Checked}
use Rattle.shape.specs.Kept.{Kept, SameLengths}
use Rattle.shape.specs.Writes.{Writes}
use Rattle.shape.specs.Steps.{EditedLive, acts, shape_step}

-- what document 01 says of an operation on a store
abbrev pub outcome : Words → Operation → Outcome
outcome w operation = step (capacities w) (lists w) operation

pub record StepOf (operation : Operation) (w v : Words) (number value : ℕ) : Type 0 where
  pub numbered : number ≡ (outcome w operation).number
  pub valued : value ≡ (outcome w operation).value
  -- run contents and compactness are fixed, not only the lists
  pub shaped : shape_of v ≡ shape_step (capacities w) (shape_of w) operation
  -- "an edited run holds live edges only"
  pub live_only : acts operation (outcome w operation) ≡ true → EditedLive operation (shape_of w) (shape_of v)
  pub checked : Checked v
  pub lengths : SameLengths w v
  -- "A refused operation changes nothing": not a word
  pub refused_keeps : (number ≡ 0 → ⊥) → v ≡ w
  -- nor does one that is done with nothing to change: a removal with value 0, a redirect to the present end, a move of an empty walk
  pub idle_keeps : acts operation (outcome w operation) ≡ false → v ≡ w
  -- and any other writes no index word, no word past the bounds and no spare word
  pub kept : Kept w v
  -- nor any other word than the operation's own
  pub writes : Writes operation w v
