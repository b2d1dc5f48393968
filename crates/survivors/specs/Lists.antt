-- The lists that compaction takes over from one direction, by the words of its axis: the walks of the live nodes, ring order included.
use Rattle.std.specs.Prelude.{ℕ, ◌+◌, ◌*◌, ◌≤◌, ◌<◌, ◌≡◌, true, List, ◌++◌, map, length, take, drop}
use Rattle.plain.specs.declared.Counts.{Counts}
use Rattle.plain.specs.declared.TraversalDirection.{TraversalDirection}
use Rattle.plain.specs.Lists.{joined, keep}
use Rattle.plain.specs.Reads.{live_slots}
use Rattle.liveness.specs.Flags.{live_flags}
use Rattle.shape.specs.Shape.{Words, axis_words, edge_capacity, edge_live, node_capacity}
use Rattle.cursor.specs.Cursor.{listed}
use Rattle.adjacency.specs.Walk.{walk_in, tombstoned_in, Walkable}

-- the walks of the live nodes in slot order, one behind the other
unfoldable pub live_walks : List ℕ → ℕ → ℕ → Counts → List ℕ → List ℕ → List ℕ
live_walks ws ce cn counts live_nodes live_edges =
    joined (map (λ x. walk_in ws ce cn counts live_edges x true) (live_slots (live_flags live_nodes counts.nodes.bound)))

-- of a store in a direction, by the edges' old numbers
abbrev pub walks_in : TraversalDirection → Words → List ℕ
walks_in d w = live_walks (axis_words d w) (edge_capacity w) (node_capacity w) w.counts w.live_nodes w.live_edges

-- What it takes to write them: each node can be walked, they have an entry a live edge, and there is room for all.
pub record ListsFit (d : TraversalDirection) (w : Words) (out : List ℕ) : Type 0 where
  pub walkable : (x : ℕ) → x < w.counts.nodes.bound → Walkable (axis_words d w) (edge_capacity w) (node_capacity w) w.counts w.live_edges x
  pub live_long : w.counts.nodes.bound ≤ 64 * length w.live_nodes
  pub counted : length (walks_in d w) ≡ w.counts.edges.live
  pub fits : w.counts.edges.live ≤ length out

-- ---- one walk behind what stands in a slice

-- the listed ones of a walk's entries
abbrev pub listed_in : Words → List ℕ → List ℕ
listed_in w entries = keep (listed (tombstoned_in w.counts) (edge_live w)) entries

-- What it takes to put the listed ones of a walk's entries there: together with the first `from` words they are no more than the live edges.
pub record PutFits (w : Words) (entries out : List ℕ) (from : ℕ) : Type 0 where
  pub live_long : w.counts.edges.bound ≤ 64 * length w.live_edges
  pub room : from + length (listed_in w entries) ≤ w.counts.edges.live
  pub within : w.counts.edges.live ≤ length out

-- A list put behind the first `from` words of a slice, so that the first `end` are those and the list. Words from there up to `total` may have changed, others not.
pub record ListPut (list entry : List ℕ) (total from end : ℕ) (exit : List ℕ) : Type 0 where
  pub counted : end ≡ from + length list
  pub front : take end exit ≡ take from entry ++ list
  pub behind : drop total exit ≡ drop total entry
  pub long : length exit ≡ length entry
