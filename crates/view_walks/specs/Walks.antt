-- What the reads of a node's list ask and answer: its entries, their far ends, how many there are.
use Rattle.std.specs.Prelude.{ℕ, ◌≤◌, ◌<◌, ◌≡◌, List, map, length, Result, Ok, Err}
use Rattle.plain.specs.declared.TraversalDirection.{TraversalDirection}
use Rattle.plain.specs.declared.refusals.Rule.{Rule}
use Rattle.plain.specs.declared.refusals.Refusal.{Refusal}
use Rattle.plain.specs.declared.refusals.Refusal.TheVariants.{NoStore, TooShort, OutOfRangeNode}
use Rattle.plain.specs.Plain.{list_of, end_of, opposite}
use Rattle.plain.specs.Refusals.{rule_number}
use Rattle.shape.specs.Shape.{Words, lists}
use Rattle.validate.specs.Judging.{Judged}

-- a node's list, and the far ends of it
abbrev pub list_in : TraversalDirection → Words → ℕ → List ℕ
list_in d w x = list_of d (lists w) x

abbrev pub far_ends_in : TraversalDirection → Words → ℕ → List ℕ
far_ends_in d w x = map (end_of (opposite d) (lists w)) (list_of d (lists w) x)

-- ---- what is found out before a list is read, and before it is written

pub data Placed (w : Words) (x : ℕ) : Result Unit Refusal → Type 0 where
  -- a rule is broken
  no_store : {rule : Rule} → Judged w (rule_number rule) → Placed w x (Err (NoStore rule))
  -- the node is at or above the bound
  past : Judged w 0 → w.counts.nodes.bound ≤ x → Placed w x (Err OutOfRangeNode)
  -- it is below
  there : {done : Unit} → Judged w 0 → x < w.counts.nodes.bound → Placed w x (Ok done)

pub data Counted (w : Words) (d : TraversalDirection) (x room : ℕ) : Result ℕ Refusal → Type 0 where
  -- the list is not counted
  refused : {r : Refusal} → Placed w x (Err r) → Counted w d x room (Err r)
  -- the slice is too short for it
  short : {n : ℕ} → Judged w 0 → x < w.counts.nodes.bound → n ≡ length (list_in d w x) → room < n → Counted w d x room (Err (TooShort n))
  -- it is not
  fits : {n : ℕ} → Judged w 0 → x < w.counts.nodes.bound → n ≡ length (list_in d w x) → n ≤ room → Counted w d x room (Ok n)
