-- What the functions of the way forward ask and promise: the first edge of a lot's out-list that leads to a word, and the way written edge by edge.
use Rattle.std.specs.Prelude.{ℕ, zero, suc, ◌≤◌, ◌<◌, ◌≡◌, Bool, List, [], ◌∷◌, length, get_or, eqb}
use Rattle.plain.specs.declared.TraversalDirection.TheVariants.{Outgoing}
use Rattle.plain.specs.Numbers.{LIMIT}
use Rattle.plain.specs.Plain.{list_of}
use Rattle.shape.specs.Columns.{end_at}
use Rattle.shape.specs.Shape.{Words, node_capacity, lists}
use Rattle.shape.specs.Checked.{Checked}
use Rattle.cursor.specs.Finding.{first_of}
use Rattle.nearest.specs.Search.{Distance}
use Rattle.nearest.specs.Frontier.{dist_in}
use Rattle.nearest.specs.Stores.{LiveLot}

-- ---- the way forward, on lists

-- whether an edge leads to a lot with word v
abbrev pub leads : (ℕ → ℕ) → List ℕ → ℕ → ℕ → Bool
leads target dist v e = eqb (get_or dist (target e) 0) v

-- d edges forward from x: at each lot the first edge of its out-list that leads to a word one less
unfoldable pub downhill : (ℕ → List ℕ) → (ℕ → ℕ) → List ℕ → ℕ → ℕ → List ℕ
downhill out target dist zero x = []
downhill out target dist (suc d) x =
    let e = first_of (leads target dist (suc d)) (out x) in
    e ∷ downhill out target dist d (target e)

-- Up to distance d the words are exactly the distances to y.
pub record Labelled (out : ℕ → List ℕ) (target : ℕ → ℕ) (y d : ℕ) (dist : List ℕ) : Type 0 where
  pub right : (x k : ℕ) → get_or dist x 0 ≡ suc k → Distance out target y x k
  pub whole : (x k : ℕ) → k < d → Distance out target y x k → get_or dist x 0 ≡ suc k

-- ---- the first edge that leads to a word

-- What it takes, of a lot of a checked store: every lot has a word.
pub record NearerLot (w : Words) (lot : ℕ) (work : List ℕ) : Type 0 where
  pub checked : Checked w
  pub lot_below : lot < w.counts.nodes.bound
  pub words_long : node_capacity w ≤ length work

-- ---- the way written

-- the way from a lot, d edges forward by the words of a store's lots
abbrev pub way_in : Words → List ℕ → ℕ → ℕ → List ℕ
way_in w work d x = downhill (list_of Outgoing (lists w)) (end_at w.incoming) (dist_in (node_capacity w) work) d x

-- What it takes to write it: up to distance d the words are distances to the goal, d edges are left, and there is room for them.
pub record Forward (w : Words) (work : List ℕ) (goal d start : ℕ) (chain : List ℕ) : Type 0 where
  pub checked : Checked w
  pub labelled : Labelled (list_of Outgoing (lists w)) (end_at w.incoming) goal d (dist_in (node_capacity w) work)
  pub far : Distance (list_of Outgoing (lists w)) (end_at w.incoming) goal start d
  pub start_live : LiveLot w start
  pub few : d ≤ LIMIT
  pub words_long : node_capacity w ≤ length work
  pub fits : d ≤ length chain
