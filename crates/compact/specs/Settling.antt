-- The slices that a compaction is lent, by the counts of its store; and what compacting a checked store asks and promises, with its answers: the two maps, the work
-- slice, and the store without its dead slots.
use Rattle.std.specs.Prelude.{ℕ, ◌*◌, ◌≤◌, ◌≡◌, List, [], ◌∷◌, length}
use Rattle.plain.specs.declared.Counts.{Counts}
use Rattle.plain.specs.Compaction.{adjacency, renumbering, survivors}
use Rattle.plain.specs.Lists.{written}
use Rattle.plain.specs.Memory.{Slice}
use Rattle.shape.specs.Checked.{Checked}
use Rattle.shape.specs.Shape.{Words, edge_live, lists, node_live}
use Rattle.compact.specs.Dropping.{Dropped}

-- "A node map and an edge map, as long as the bounds before, and a work slice of twice the live edge count", with the lengths that are lent
abbrev pub lent_slices : Counts → ℕ → ℕ → ℕ → List Slice
lent_slices counts node_map edge_map work =
    record { needs = counts.nodes.bound; has = node_map } ∷ record { needs = counts.edges.bound; has = edge_map }
    ∷ record { needs = 2 * counts.edges.live; has = work } ∷ []

-- A checked store, "a node map and an edge map, as long as the bounds before, and a work slice of twice the live edge count".
pub record Settleable (w : Words) (node_map edge_map work : List ℕ) : Type 0 where
  pub checked : Checked w
  pub nodes_room : w.counts.nodes.bound ≤ length node_map
  pub edges_room : w.counts.edges.bound ≤ length edge_map
  pub work_room : 2 * w.counts.edges.live ≤ length work

pub record Settling (w : Words) (node_map edge_map work : List ℕ) (v : Words) (node-map' edge-map' work' : List ℕ) : Type 0 where
  pub node_mapped : node-map' ≡ written (renumbering (node_live w)) node_map
  pub edge_mapped : edge-map' ≡ written (renumbering (edge_live w)) edge_map
  pub worked : work' ≡ written (adjacency (survivors (lists w))) work
  pub dropped : Dropped w node-map' work' v
