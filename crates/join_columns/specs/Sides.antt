-- One direction of two books by new numbers: the ends and the lists of each, what writing them asks, and the axis that holds both.
use Rattle.std.specs.Prelude.{ℕ, ◌*◌, ◌+◌, ◌<◌, ◌≤◌, ◌≡◌, false, true, List, ◌++◌, map, get_or, length}
use Rattle.plain.specs.declared.Counts.{Counts}
use Rattle.plain.specs.declared.TraversalDirection.{TraversalDirection}
use Rattle.plain.specs.Lists.{written}
use Rattle.plain.specs.Reads.{live_count}
use Rattle.liveness.specs.Flags.{live_flags}
use Rattle.shape.specs.Chains.{In}
use Rattle.shape.specs.Columns.{Sized, end_at}
use Rattle.shape.specs.Shape.{Words, axis_words, edge_capacity, node_capacity}
use Rattle.adjacency.specs.Walk.{Walkable}
use Rattle.compact.specs.Bases.{Rebuilt}
use Rattle.survivors.specs.Lists.{live_walks}
use Rattle.survivors.specs.Slots.{live_words_of}
use Rattle.join_columns.specs.Slots.{LiveReadable}

-- what a map holds at each entry
abbrev pub through : List ℕ → List ℕ → List ℕ
through entries xs = map (λ e. get_or entries e 0) xs

-- ---- a book in one direction

-- One direction of a book as it is read: its counts and capacities, its axis, its live words, and its maps.
pub record Side : Type 0 where
  pub counts : Counts
  pub ce : ℕ
  pub cn : ℕ
  pub words : List ℕ
  pub live_nodes : List ℕ
  pub live_edges : List ℕ
  pub node_map : List ℕ
  pub edge_map : List ℕ

-- a book in one direction, with its maps
abbrev pub side_of : TraversalDirection → Words → List ℕ → List ℕ → Side
side_of d w node_map edge_map = record {
  counts = w.counts;
  ce = edge_capacity w;
  cn = node_capacity w;
  words = axis_words d w;
  live_nodes = w.live_nodes;
  live_edges = w.live_edges;
  node_map = node_map;
  edge_map = edge_map;
}

-- ---- ends

-- the ends of the live edges, put through the node map
abbrev pub side_ends : Side → List ℕ
side_ends s = through s.node_map (live_words_of s.words (live_flags s.live_edges s.counts.edges.bound))

-- The edges have their ends and live words, and the live ones' ends are in the map.
pub record EndsReadable (s : Side) : Type 0 where
  pub readable : LiveReadable s.words s.live_edges s.counts.edges.bound
  pub counted : s.counts.edges.live ≡ live_count (live_flags s.live_edges s.counts.edges.bound)
  pub mapped : (e : ℕ) → get_or (live_flags s.live_edges s.counts.edges.bound) e false ≡ true → end_at s.words e < length s.node_map

pub record EndsFit (s : Side) (out : List ℕ) : Type 0 where
  pub readable : EndsReadable s
  pub room : s.counts.edges.live ≤ length out

-- ---- lists

-- the lists of the live nodes, one behind the other
abbrev pub side_walks : Side → List ℕ
side_walks s = live_walks s.words s.ce s.cn s.counts s.live_nodes s.live_edges

-- put through the edge map
abbrev pub side_entries : Side → List ℕ
side_entries s = through s.edge_map (side_walks s)

-- Each node can be walked, the walks of the live ones have an entry a live edge, and these are in the map.
pub record EntriesReadable (s : Side) : Type 0 where
  pub walkable : (x : ℕ) → x < s.counts.nodes.bound → Walkable s.words s.ce s.cn s.counts s.live_edges x
  pub live_long : s.counts.nodes.bound ≤ 64 * length s.live_nodes
  pub counted : length (side_walks s) ≡ s.counts.edges.live
  pub mapped : (e : ℕ) → In e (side_walks s) → e < length s.edge_map

pub record EntriesFit (s : Side) (out : List ℕ) : Type 0 where
  pub readable : EntriesReadable s
  pub room : s.counts.edges.live ≤ length out

-- ---- both books

abbrev pub both_nodes : Side → Side → ℕ
both_nodes s t = s.counts.nodes.live + t.counts.nodes.live

abbrev pub both_edges : Side → Side → ℕ
both_edges s t = s.counts.edges.live + t.counts.edges.live

pub record BothEndsFit (out : List ℕ) (s t : Side) : Type 0 where
  pub first_readable : EndsReadable s
  pub second_readable : EndsReadable t
  pub room : both_edges s t ≤ length out

pub record BothEntriesFit (out : List ℕ) (s t : Side) : Type 0 where
  pub first_readable : EntriesReadable s
  pub second_readable : EntriesReadable t
  pub room : both_edges s t ≤ length out

-- ---- the whole direction

-- Both sides can be read, their survivors are within the capacities, and each end's new number is below the number of nodes.
pub record AxisJoinable (ws : List ℕ) (ce cn : ℕ) (s t : Side) : Type 0 where
  pub sized : Sized ws ce cn
  pub nodes_fit : both_nodes s t ≤ cn
  pub edges_fit : both_edges s t ≤ ce
  pub first_ends : EndsReadable s
  pub second_ends : EndsReadable t
  pub first_entries : EntriesReadable s
  pub second_entries : EntriesReadable t
  pub ends_below : (e : ℕ) → e < both_edges s t → get_or (side_ends s ++ side_ends t) e 0 < both_nodes s t

-- The ends of both are in place, and the base is built on them with the lists of both.
pub record AxisJoined (ws : List ℕ) (ce cn : ℕ) (s t : Side) (ws' : List ℕ) : Type 0 where
  pub placed : List ℕ
  pub places : placed ≡ written (side_ends s ++ side_ends t) ws
  pub rebuilds : Rebuilt placed ce cn (both_nodes s t) (both_edges s t) (side_entries s ++ side_entries t) ws'
