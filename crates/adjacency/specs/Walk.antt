-- Walks over one node's adjacency, from the words of one direction: what a walk reads, in the shape's lists, and what the functions ask and promise. `ce` and
-- `cn` are the capacities; `live` of a walk says whether the node is, since "a removed node walks empty".
use Rattle.std.specs.Prelude.{ℕ, ◌*◌, ◌≤◌, ◌<◌, ◌≡◌, Bool, true, false, cond, not, List, [], length, take, drop, eqb}
use Rattle.plain.specs.declared.Counts.{Counts}
use Rattle.plain.specs.Numbers.{LIMIT}
use Rattle.liveness.specs.Flags.{live_flags}
use Rattle.shape.specs.declared.Incidence.{Incidence}
use Rattle.shape.specs.Columns.{Sized}
use Rattle.shape.specs.Shape.{adjacency_in, part, walk_of}
use Rattle.shape.specs.Checked.{Bounded, LiveRight, Index, Rings, Runs}
use Rattle.cursor.specs.declared.Start.{Start}
use Rattle.cursor.specs.Cursor.{part_left, ring_left, Ready}

-- ---- what a walk reads

-- a node's walk, by the live words of the edges
abbrev pub walk_in : List ℕ → ℕ → ℕ → Counts → List ℕ → ℕ → Bool → List ℕ
walk_in ws ce cn counts live_edges x live = walk_of (live_flags live_edges counts.edges.bound) live (adjacency_in ws ce cn counts x)

-- the same of one direction of a store
abbrev pub side_walk : Incidence → ℕ → Bool → List ℕ
side_walk s x live = walk_in s.axis.now s.layout.edge_capacity s.layout.node_capacity s.layout.counts s.live_edges.now x live

-- some edge is removed
abbrev pub tombstoned_in : Counts → Bool
tombstoned_in counts = not (eqb counts.edges.live counts.edges.bound)

-- ---- the columns that it reads, handed out as slices

abbrev pub column : List ℕ → ℕ → ℕ → List ℕ
column ws at size = take size (drop at ws)

-- the run links, or the compressed index's edge numbers
abbrev pub entries_column : List ℕ → ℕ → Bool → List ℕ
entries_column ws ce true = column ws (3 * ce) ce
entries_column ws ce false = column ws ce ce

-- the ring links
abbrev pub next_column : List ℕ → ℕ → List ℕ
next_column ws ce = column ws (2 * ce) ce

-- ---- what the functions ask and promise

-- What it takes to hand out columns.
pub record ColumnsThere (ws : List ℕ) (ce : ℕ) : Type 0 where
  pub few : ce ≤ LIMIT
  pub room : 4 * ce ≤ length ws

-- What it takes to read the adjacency of node x: rules 1, 4, 5 and 6 of this direction.
pub record Readable (ws : List ℕ) (ce cn : ℕ) (counts : Counts) (x : ℕ) : Type 0 where
  pub sized : Sized ws ce cn
  pub nodes : Bounded cn counts.nodes
  pub edges : Bounded ce counts.edges
  pub index : Index ws ce cn counts.nodes.base counts.edges.base
  pub rings : Rings ws ce counts.nodes.bound counts.edges.base counts.edges.bound
  pub runs : Runs ws ce cn counts.nodes.bound counts.edges.bound
  pub node : x < counts.nodes.bound

-- What it takes to walk it: besides, the live words of the edges, rules 1 and 2.
pub record Walkable (ws : List ℕ) (ce cn : ℕ) (counts : Counts) (live_edges : List ℕ) (x : ℕ) : Type 0 where
  pub readable : Readable ws ce cn counts x
  pub live_long : counts.edges.bound ≤ 64 * length live_edges
  pub live_right : LiveRight live_edges counts.edges

-- What it takes to write the walk to a slice: room for it.
pub record WalkFits (ws : List ℕ) (ce cn : ℕ) (counts : Counts) (live_edges : List ℕ) (x : ℕ) (live : Bool) (out : List ℕ) : Type 0 where
  pub walkable : Walkable ws ce cn counts live_edges x
  pub fits : length (walk_in ws ce cn counts live_edges x live) ≤ length out

-- What it takes to sum over it: both columns of weights hold a word an edge, and the walk is so short that no sum of 32-bit words wraps.
pub record WalkSummable (ws : List ℕ) (ce cn : ℕ) (counts : Counts) (live_edges : List ℕ) (x : ℕ) (live : Bool) (lows highs : List ℕ) : Type 0 where
  pub walkable : Walkable ws ce cn counts live_edges x
  pub few : length (walk_in ws ce cn counts live_edges x live) ≤ LIMIT
  pub lows_long : ce ≤ length lows
  pub highs_long : ce ≤ length highs

-- A walk that starts: the cursor has to read the run or base part and the ring of a live node, and nothing of a removed one.
pub record Started (ws : List ℕ) (ce cn : ℕ) (counts : Counts) (x : ℕ) (live : Bool) (r : Start) : Type 0 where
  pub ready : Ready r.linked (entries_column ws ce r.linked) (next_column ws ce) r.cursor
  pub part_is : part_left r.linked (entries_column ws ce r.linked) r.cursor.base r.cursor.base_end
      ≡ cond live (part (adjacency_in ws ce cn counts x)) []
  pub ring_is : ring_left (next_column ws ce) r.cursor.delta r.cursor.delta_last ≡ cond live (adjacency_in ws ce cn counts x).ring []
