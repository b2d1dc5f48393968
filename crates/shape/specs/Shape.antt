-- The shape of a store: what the Rust holds in its vectors, as lists of edge numbers, dead entries included. It is a total function of the counts and the seven
-- lists of words; the plain lists are a total function of it.
use Rattle.std.specs.Prelude.{ℕ, suc, ◌-◌, ◌*◌, Bool, true, false, cond, ◌&&◌, not, List, [], ◌++◌, map, length, get_or, eqb, ltb}
use Rattle.plain.specs.Library.{Option, none, some}
use Rattle.plain.specs.declared.TraversalDirection.{TraversalDirection}
use Rattle.plain.specs.declared.TraversalDirection.TheVariants.{Outgoing, Incoming}
use Rattle.plain.specs.declared.Counts.{Counts}
use Rattle.plain.specs.declared.EdgePayload.{EdgePayload}
use Rattle.plain.specs.Lists.{keep, all, from}
use Rattle.plain.specs.Plain.{Plain, NodeSlot, EdgeSlot, Incidence}
use Rattle.plain.specs.Step.{Capacities}
use Rattle.plain.specs.Memory.{Lengths}
use Rattle.liveness.specs.Flags.{live_flags}
use Rattle.shape.specs.Columns.{last_at, first_at, count_at, mark_at, offset_at, cell}
use Rattle.shape.specs.Chains.{chain, ring}

-- ---- one node of one direction, from the words of its axis

-- the entries of a column from a up to b
abbrev pub between : (ℕ → ℕ) → ℕ → ℕ → List ℕ
between column a b = map column (from a (b - a))

-- the base part: the compressed index's entries of a node, none for a node that came later
unfoldable pub base_of : List ℕ → ℕ → ℕ → ℕ → ℕ → List ℕ
base_of ws ce cn bn x = cond (ltb x bn) (between (cell ws ce) (offset_at ws ce cn x) (offset_at ws ce cn (suc x))) []

-- the entries of a node's run, none where it has no run
unfoldable pub run_list : List ℕ → ℕ → ℕ → ℕ → List ℕ
run_list ws ce cn x = cond (eqb (mark_at ws ce cn x) 0) [] (chain (cell ws (3 * ce)) (count_at ws ce cn x) (first_at ws ce cn x))

-- the run, or none where the node has no mark: "an empty run still hides the base"
unfoldable pub run_of : List ℕ → ℕ → ℕ → ℕ → Option (List ℕ)
run_of ws ce cn x = cond (eqb (mark_at ws ce cn x) 0) none (some (run_list ws ce cn x))

-- the ring: the edges appended since the base was built or the run took them over, from base count `be` to bound `eb`
unfoldable pub ring_of : List ℕ → ℕ → ℕ → ℕ → ℕ → List ℕ
ring_of ws ce be eb x = ring (cell ws (2 * ce)) (eb - be) (last_at ws ce x)

-- ---- the shape

-- A node's adjacency in one direction.
pub record Adjacency : Type 0 where
  pub base : List ℕ
  pub run : Option (List ℕ)
  pub ring : List ℕ

-- One direction: the end of each edge slot and the adjacency of each node slot.
pub record Axis : Type 0 where
  pub ends : List ℕ
  pub nodes : List Adjacency

pub record Shape : Type 0 where
  pub nodes : List NodeSlot
  pub edges : List EdgeSlot
  pub base_nodes : ℕ
  pub base_edges : ℕ
  pub outgoing : Axis
  pub incoming : Axis

-- A store as it is lent: counts and seven lists of words. Of an edge's payload, "low and high, `u32` each, in two slices".
pub record Words : Type 0 where
  pub counts : Counts
  pub nodes : List ℕ
  pub lows : List ℕ
  pub highs : List ℕ
  pub live_nodes : List ℕ
  pub live_edges : List ℕ
  pub outgoing : List ℕ
  pub incoming : List ℕ

-- a store from its counts and its seven slices, in parameter order
abbrev pub store : Counts → List ℕ → List ℕ → List ℕ → List ℕ → List ℕ → List ℕ → List ℕ → Words
store counts nodes lows highs live_nodes live_edges outgoing incoming = record {
  counts = counts;
  nodes = nodes;
  lows = lows;
  highs = highs;
  live_nodes = live_nodes;
  live_edges = live_edges;
  outgoing = outgoing;
  incoming = incoming;
}

-- how many node slots and how many edge slots there is memory for: "the low one's length is the capacity"
abbrev pub node_capacity : Words → ℕ
node_capacity w = length w.nodes

abbrev pub edge_capacity : Words → ℕ
edge_capacity w = length w.lows

abbrev pub capacities : Words → Capacities
capacities w = record { nodes = node_capacity w; edges = edge_capacity w }

-- the lengths of a store's memory
abbrev pub lengths_of : Words → Lengths
lengths_of w = record {
  capacities = capacities w;
  highs = length w.highs;
  live_nodes = length w.live_nodes;
  live_edges = length w.live_edges;
  outgoing = length w.outgoing;
  incoming = length w.incoming;
}

abbrev pub node_live : Words → List Bool
node_live w = live_flags w.live_nodes w.counts.nodes.bound

abbrev pub edge_live : Words → List Bool
edge_live w = live_flags w.live_edges w.counts.edges.bound

abbrev pub axis_words : TraversalDirection → Words → List ℕ
axis_words Outgoing w = w.outgoing
axis_words Incoming w = w.incoming

-- a node slot and an edge slot, as the words have them
abbrev pub node_slot_at : Words → ℕ → NodeSlot
node_slot_at w x = record { payload = get_or w.nodes x 0; live = get_or (node_live w) x false }

abbrev pub edge_payload_at : Words → ℕ → EdgePayload
edge_payload_at w e = record { low = get_or w.lows e 0; high = get_or w.highs e 0 }

abbrev pub edge_slot_at : Words → ℕ → EdgeSlot
edge_slot_at w e = record { payload = edge_payload_at w e; live = get_or (edge_live w) e false }

-- the adjacency of node x, in words of capacities ce and cn with these counts
abbrev pub adjacency_in : List ℕ → ℕ → ℕ → Counts → ℕ → Adjacency
adjacency_in ws ce cn counts x = record {
  base = base_of ws ce cn counts.nodes.base x;
  run = run_of ws ce cn x;
  ring = ring_of ws ce counts.edges.base counts.edges.bound x;
}

-- one direction
unfoldable pub axis_of : List ℕ → ℕ → ℕ → Counts → Axis
axis_of ws ce cn counts = record {
  ends = map (λ e. get_or ws e 0) (from 0 counts.edges.bound);
  nodes = map (adjacency_in ws ce cn counts) (from 0 counts.nodes.bound);
}

unfoldable pub shape_of : Words → Shape
shape_of w = record {
  nodes = map (λ x. node_slot_at w x) (from 0 w.counts.nodes.bound);
  edges = map (λ e. edge_slot_at w e) (from 0 w.counts.edges.bound);
  base_nodes = w.counts.nodes.base;
  base_edges = w.counts.edges.base;
  outgoing = axis_of w.outgoing (edge_capacity w) (node_capacity w) w.counts;
  incoming = axis_of w.incoming (edge_capacity w) (node_capacity w) w.counts;
}

-- ---- from the shape to the plain lists

abbrev pub hiding : Option (List ℕ) → List ℕ → List ℕ
hiding none base = base
hiding (some run) base = run

-- what is read before the ring: the run where there is one, else the base part
abbrev pub part : Adjacency → List ℕ
part a = hiding a.run a.base

-- a node's adjacency, dead entries included
abbrev pub raw : Adjacency → List ℕ
raw a = part a ++ a.ring

-- the edges that are live
abbrev pub live_in : List Bool → ℕ → Bool
live_in flags e = get_or flags e false

-- the walk of a node: the live entries of its adjacency; "a removed node walks empty"
abbrev pub walk_of : List Bool → Bool → Adjacency → List ℕ
walk_of flags live a = cond live (keep (live_in flags) (raw a)) []

-- the adjacency past the last node, which is never read
abbrev pub no_adjacency : Adjacency
no_adjacency = record { base = []; run = none; ring = [] }

abbrev pub axis_in : TraversalDirection → Shape → Axis
axis_in Outgoing s = s.outgoing
axis_in Incoming s = s.incoming

abbrev pub adjacency_of : TraversalDirection → Shape → ℕ → Adjacency
adjacency_of d s x = get_or (axis_in d s).nodes x no_adjacency

abbrev pub node_flags_of : Shape → List Bool
node_flags_of s = map (λ (n : NodeSlot). n.live) s.nodes

abbrev pub edge_flags_of : Shape → List Bool
edge_flags_of s = map (λ (e : EdgeSlot). e.live) s.edges

-- one direction of the plain lists: each node's list is its walk
abbrev pub walks_of : List Bool → List Bool → Axis → Incidence
walks_of edges nodes axis = record {
  ends = axis.ends;
  lists = map (λ x. walk_of edges (get_or nodes x false) (get_or axis.nodes x no_adjacency)) (from 0 (length axis.nodes));
}

-- the plain lists of a shape
unfoldable pub plain_of : Shape → Plain
plain_of s = record {
  nodes = s.nodes;
  edges = s.edges;
  outgoing = walks_of (edge_flags_of s) (node_flags_of s) s.outgoing;
  incoming = walks_of (edge_flags_of s) (node_flags_of s) s.incoming;
}

-- the plain lists of a store
abbrev pub lists : Words → Plain
lists w = plain_of (shape_of w)

abbrev pub has_run : Adjacency → Bool
has_run a = marked a.run
  where
    marked : Option (List ℕ) → Bool
    marked none = false
    marked (some run) = true

-- no delta, nothing removed, no run
unfoldable pub is_compact : Shape → Bool
is_compact s =
    eqb s.base_nodes (length s.nodes) && (eqb s.base_edges (length s.edges)
    && (all (λ f. f) (node_flags_of s) && (all (λ f. f) (edge_flags_of s)
    && (all (λ a. not (has_run a)) s.outgoing.nodes && all (λ a. not (has_run a)) s.incoming.nodes))))
