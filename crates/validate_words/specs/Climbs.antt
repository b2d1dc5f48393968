-- Rings that climb: what a quick test of each edge of the delta says, by its link, its end and the last edge of its end's ring.
use Rattle.std.specs.Prelude.{ℕ, ◌≤◌, ◌<◌, ◌≡◌, Bool, cond, not, List, eqb}
use Rattle.plain.specs.Numbers.{NONE}
use Rattle.shape.specs.Columns.{Sized, cell, end_at, next_at, last_at}

-- One of two numbers, by whether two words are the same.
pub record Picked (a b same other r : ℕ) : Type 0 where
  pub is : r ≡ cond (eqb a b) same other

-- an edge is the last of its end's ring
abbrev pub is_last : List ℕ → ℕ → ℕ → Bool
is_last ws ce e = eqb (last_at ws ce (end_at ws e)) e

-- a word of a column from `at` on is not NONE: in the column of last edges, a node has a ring
abbrev pub some_at : List ℕ → ℕ → ℕ → Bool
some_at ws at x = not (eqb (cell ws at x) NONE)

-- An edge's link is an edge of the delta of the same end, and further up, unless the edge is the last.
pub record Linked (ws : List ℕ) (ce be eb e : ℕ) : Type 0 where
  pub least : be ≤ next_at ws ce e
  pub below : next_at ws ce e < eb
  pub own : end_at ws (next_at ws ce e) ≡ end_at ws e
  pub up : (last_at ws ce (end_at ws e) ≡ e → ⊥) → e < next_at ws ce e

-- The end of an edge is a node, and where that has a ring the edge is linked.
pub record Climbs (ws : List ℕ) (ce be eb nb e : ℕ) : Type 0 where
  pub end_below : end_at ws e < nb
  pub linked : (last_at ws ce (end_at ws e) ≡ NONE → ⊥) → Linked ws ce be eb e

-- The words of an axis, and an edge whose end is a node.
pub record EndReadable (ws : List ℕ) (ce cn e : ℕ) : Type 0 where
  pub sized : Sized ws ce cn
  pub below : e < ce
  pub end_within : end_at ws e < cn

-- The words of an axis, and an edge below the bound, whose end is a node.
pub record LinkReadable (ws : List ℕ) (ce cn eb e : ℕ) : Type 0 where
  pub sized : Sized ws ce cn
  pub edges_within : eb ≤ ce
  pub below : e < eb
  pub end_within : end_at ws e < cn

-- The same, of an edge whose end is not known.
pub record StepReadable (ws : List ℕ) (ce cn eb nb e : ℕ) : Type 0 where
  pub sized : Sized ws ce cn
  pub edges_within : eb ≤ ce
  pub nodes_within : nb ≤ cn
  pub below : e < eb
