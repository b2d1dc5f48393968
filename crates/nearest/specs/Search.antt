-- The search for the nearest lot, on lists: backwards from the second lot over in-lists, with a word a lot (0: not seen; d + 1: d edges away) and the order in
-- which lots were seen. What the lists are to each other, what a distance is, and what the search keeps.
use Rattle.std.specs.Prelude.{ℕ, suc, ◌+◌, ◌≤◌, ◌<◌, ◌≡◌, true, false, List, length, get_or}
use Rattle.plain.specs.Lists.{member, distinct}
use Rattle.nearest.specs.Chains.{Chain}

-- ---- lots and transfers

-- The ends of each transfer and the lists of each lot.
pub record Network : Type 0 where
  pub source : ℕ → ℕ
  pub target : ℕ → ℕ
  pub out : ℕ → List ℕ
  pub ins : ℕ → List ℕ

-- What they are to each other in a store: a transfer listed anywhere is in its source's out-list and in its target's in-list, and in no other.
pub record Consistent (t : Network) : Type 0 where
  pub out_source : (x e : ℕ) → member e (t.out x) ≡ true → t.source e ≡ x
  pub in_target : (z e : ℕ) → member e (t.ins z) ≡ true → t.target e ≡ z
  pub out_in : (x e : ℕ) → member e (t.out x) ≡ true → member e (t.ins (t.target e)) ≡ true
  pub in_out : (z e : ℕ) → member e (t.ins z) ≡ true → member e (t.out (t.source e)) ≡ true

-- ---- distances

-- From x to y there is a chain of d edges and none of fewer.
pub record Distance (out : ℕ → List ℕ) (target : ℕ → ℕ) (y x d : ℕ) : Type 0 where
  pub way : List ℕ
  pub is_chain : Chain out target x way y
  pub long : length way ≡ d
  pub least : (c : List ℕ) → Chain out target x c y → d ≤ length c

-- ---- the search

-- The search for lot y so far: `dist` a word a lot, `order` the lots seen in the order in which they were seen (the queue's words), of which the first `head`
-- are finished; of the in-list of the next, the edges `past` are.
pub record Search (t : Network) (y : ℕ) (dist order : List ℕ) (head : ℕ) (past : List ℕ) : Type 0 where
  pub head_within : head ≤ length order
  pub goal_seen : member y order ≡ true
  -- a lot seen has its distance as its word
  pub seen : (x : ℕ) → member x order ≡ true → (d : ℕ) × (get_or dist x 0 ≡ suc d) × Distance t.out t.target y x d
  pub unseen : (x : ℕ) → member x order ≡ false → get_or dist x 0 ≡ 0
  pub below : (x : ℕ) → member x order ≡ true → x < length dist
  pub once : distinct order ≡ true
  -- distances do not descend along the queue, and those from the head on differ by at most one
  pub ascends : (i j : ℕ) → i ≤ j → j < length order → get_or dist (get_or order i 0) 0 ≤ get_or dist (get_or order j 0) 0
  pub narrow : (j : ℕ) → head < length order → j < length order → get_or dist (get_or order j 0) 0 ≤ get_or dist (get_or order head 0) 0 + 1
  -- from a finished lot every lot before it has been seen
  pub finished : (i e : ℕ) → i < head → member e (t.ins (get_or order i 0)) ≡ true → member (t.source e) order ≡ true
  pub partly : (e : ℕ) → member e past ≡ true → member (t.source e) order ≡ true
