-- What making a store comes to on a device. "A fresh store is empty with bounds 0." "Fresh: 13, nodes before edges, then 2."
use Rattle.std.specs.Prelude.{ℕ, ◌≡◌, Result, IfOk}
use Rattle.plain.specs.declared.Slots.{Slots}
use Rattle.plain.specs.declared.Counts.{Counts}
use Rattle.plain.specs.declared.Answer.{Answer}
use Rattle.plain.specs.declared.refusals.Refusal.{Refusal}
use Rattle.plain.specs.Answers.{answer_by}
use Rattle.plain.specs.Memory.{Lengths}
use Rattle.plain.specs.Devices.{Device}
use Rattle.plain.specs.Calls.{fresh_state, fresh}
use Rattle.shape.specs.Shape.{Words, lengths_of, shape_of}
use Rattle.shape.specs.Checked.{Checked}
use Rattle.shape.specs.Steps.{state_of}

-- the counts of a store with no slot
abbrev pub empty_slots : Slots
empty_slots = record { bound = 0; base = 0; live = 0 }

abbrev pub empty_counts : Counts
empty_counts = record { nodes = empty_slots; edges = empty_slots }

-- number and value for C
abbrev pub made_of : Result Counts Refusal → Answer
made_of came = answer_by (λ _. 0) came

pub record FreshOf (device : Device) (w : Words) (number value : ℕ) : Type 0 where
  pub answered : ◌≡◌ {A = Answer} (record { number = number; value = value }) (fresh device (lengths_of w))
  pub counts : w.counts ≡ empty_counts
  pub state : state_of (shape_of w) ≡ fresh_state
  pub checked : number ≡ 0 → Checked w

-- What making a store in memory of these lengths comes to, whatever words stand there.
pub record Made (device : Device) (lengths : Lengths) (came : Result Counts Refusal) : Type 0 where
  pub counts : IfOk came (λ counts. counts ≡ empty_counts)
  pub makes : (w : Words) → lengths_of w ≡ lengths → w.counts ≡ empty_counts → FreshOf device w (made_of came).number (made_of came).value
