-- The shape's own step: what each operation does to base parts, runs and rings, so that run contents, dead entries included, are fixed.
-- The Rust sweeps only where the length of the run is 1, 2, 4, 8, ..; in all else it does the same.
-- L keeps the live entries, R is the run, B the base part and C the ring of a node in one direction:
--   taken(x) = (R(x) if x has a run, else L(B(x))) ++ L(C(x)); then C(x) := []
--   sweep(r) = L(r)
--   redirect e from old to new, old ≠ new: R(old) := sweep(taken(old)) without e; R(new) := sweep(taken(new)) ++ [e]
--   move old to new, walk of old not empty: m := sweep(taken(old)); R(old) := [] and still a run; ends of m := new; R(new) := sweep(taken(new)) ++ m
-- Removing edits no run. A removed node keeps run and ring. A move of an empty walk edits nothing.
use Rattle.std.specs.Prelude.{ℕ, ◌≡◌, Bool, true, false, cond, ◌&&◌, not, List, [], ◌∷◌, ◌++◌, length, get_or, set, eqb}
use Rattle.plain.specs.Library.{Option, none, some}
use Rattle.plain.specs.declared.TraversalDirection.{TraversalDirection}
use Rattle.plain.specs.declared.TraversalDirection.TheVariants.{Outgoing, Incoming}
use Rattle.plain.specs.declared.Operation.{Operation}
use Rattle.plain.specs.declared.Operation.TheVariants.{AddNode, AddEdge, RemoveEdge, RemoveNode, Redirect, Move, SetPayload, Unknown}
use Rattle.plain.specs.Lists.{without, keep, set_all}
use Rattle.plain.specs.Plain.{NodeSlot, EdgeSlot, killed_node, killed_edge, no_node, no_edge}
use Rattle.plain.specs.Step.{Capacities, Outcome, State, step}
use Rattle.shape.specs.Chains.{In}
use Rattle.shape.specs.Shape.{Adjacency, Axis, Shape, live_in, walk_of, no_adjacency, axis_in, adjacency_of, node_flags_of, edge_flags_of, is_compact, plain_of}

-- ---- one node

-- L: the live entries
abbrev pub live_entries : List Bool → List ℕ → List ℕ
live_entries flags l = keep (live_in flags) l

abbrev pub run_or_base : List Bool → Option (List ℕ) → List ℕ → List ℕ
run_or_base flags none base = live_entries flags base
run_or_base flags (some run) base = run

-- what a run holds once it has taken over the ring
unfoldable pub taken : List Bool → Adjacency → List ℕ
taken flags a = run_or_base flags a.run a.base ++ live_entries flags a.ring

-- "`sweep` now drops dead slots at every edit of a run (its making, an entry appended or taken out; removing a transfer or lot is none)"
abbrev pub swept : List Bool → List ℕ → List ℕ
swept flags run = live_entries flags run

-- a node whose run is this, with its ring taken over
abbrev pub with_run : List ℕ → Adjacency → Adjacency
with_run run a = record { base = a.base; run = some run; ring = [] }

-- entries that are all live
abbrev pub LiveOnly : List Bool → List ℕ → Type 0
LiveOnly flags l = (e : ℕ) → In e l → live_in flags e ≡ true

-- a node with a run that holds live edges only
pub record LiveRun (flags : List Bool) (a : Adjacency) : Type 0 where
  pub entries : List ℕ
  pub has : a.run ≡ some entries
  pub live_only : LiveOnly flags entries

-- ---- one direction

-- a node more, with neither base part, run nor ring
abbrev pub opened : Axis → Axis
opened axis = record { ends = axis.ends; nodes = axis.nodes ++ (no_adjacency ∷ []) }

-- edge e, a new one, at the end of the ring of node x
unfoldable pub appended : ℕ → ℕ → Axis → Axis
appended e x axis =
    let a = get_or axis.nodes x no_adjacency in
    record {
      ends = axis.ends ++ (x ∷ []);
      nodes = set axis.nodes x (record { base = a.base; run = a.run; ring = a.ring ++ (e ∷ []) });
    }

unfoldable pub redirected_axis : List Bool → ℕ → ℕ → Axis → Axis
redirected_axis flags e new axis =
    let old = get_or axis.ends e 0 in
    let a = get_or axis.nodes old no_adjacency in
    let b = get_or axis.nodes new no_adjacency in
    record {
      ends = set axis.ends e new;
      nodes = set (set axis.nodes old (with_run (without e (swept flags (taken flags a))) a)) new
          (with_run (swept flags (taken flags b) ++ (e ∷ [])) b);
    }

unfoldable pub moved_axis : List Bool → ℕ → ℕ → Axis → Axis
moved_axis flags old new axis =
    let a = get_or axis.nodes old no_adjacency in
    let b = get_or axis.nodes new no_adjacency in
    let moving = swept flags (taken flags a) in
    record {
      ends = set_all moving new axis.ends;
      nodes = set (set axis.nodes old (with_run [] a)) new (with_run (swept flags (taken flags b) ++ moving) b);
    }

-- ---- the shape

abbrev pub with_axis : TraversalDirection → Axis → Shape → Shape
with_axis Outgoing axis s = record {
  nodes = s.nodes;
  edges = s.edges;
  base_nodes = s.base_nodes;
  base_edges = s.base_edges;
  outgoing = axis;
  incoming = s.incoming;
}
with_axis Incoming axis s = record {
  nodes = s.nodes;
  edges = s.edges;
  base_nodes = s.base_nodes;
  base_edges = s.base_edges;
  outgoing = s.outgoing;
  incoming = axis;
}

-- other slots, and the axes with them
abbrev pub with_slots : List NodeSlot → List EdgeSlot → Axis → Axis → Shape → Shape
with_slots nodes edges outgoing incoming s = record {
  nodes = nodes;
  edges = edges;
  base_nodes = s.base_nodes;
  base_edges = s.base_edges;
  outgoing = outgoing;
  incoming = incoming;
}

-- edges made dead; no list is edited
unfoldable pub retired : List ℕ → List EdgeSlot → List EdgeSlot
retired [] edges = edges
retired (e ∷ es) edges = retired es (set edges e (killed_edge (get_or edges e no_edge)))

-- the walk of a node
abbrev pub walk_in : TraversalDirection → Shape → ℕ → List ℕ
walk_in d s x = walk_of (edge_flags_of s) (get_or (node_flags_of s) x false) (adjacency_of d s x)

-- what an operation does that changes the store
unfoldable pub acted : Operation → Shape → Shape
acted (AddNode payload) s =
    with_slots (s.nodes ++ (record { payload = payload; live = true } ∷ [])) s.edges (opened s.outgoing) (opened s.incoming) s
acted (AddEdge source target payload) s =
    with_slots s.nodes (s.edges ++ (record { payload = payload; live = true } ∷ [])) (appended (length s.edges) source s.outgoing)
    (appended (length s.edges) target s.incoming) s
acted (RemoveEdge e) s = with_slots s.nodes (retired (e ∷ []) s.edges) s.outgoing s.incoming s
acted (RemoveNode x) s =
    with_slots (set s.nodes x (killed_node (get_or s.nodes x no_node))) (retired (walk_in Outgoing s x ++ walk_in Incoming s x) s.edges) s.outgoing
    s.incoming s
acted (Redirect d e new) s = with_axis d (redirected_axis (edge_flags_of s) e new (axis_in d s)) s
acted (Move d old new) s = with_axis d (moved_axis (edge_flags_of s) old new (axis_in d s)) s
acted (SetPayload e payload) s =
    with_slots s.nodes (set s.edges e (record { payload = payload; live = (get_or s.edges e no_edge).live })) s.outgoing s.incoming s
acted Unknown s = s

-- whether an operation with this outcome changes the store: a removal with value 0, a redirect to the same end and a move of an empty walk do not
abbrev pub acts : Operation → Outcome → Bool
acts (AddNode payload) o = eqb o.number 0
acts (AddEdge source target payload) o = eqb o.number 0
acts (RemoveEdge e) o = eqb o.value 1
acts (RemoveNode x) o = eqb o.value 1
acts (Redirect d e new) o = eqb o.number 0 && not (eqb o.value new)
acts (Move d old new) o = eqb o.number 0 && not (eqb o.value 0)
acts (SetPayload e payload) o = eqb o.number 0
acts Unknown o = false

-- the shape after an operation
unfoldable pub shape_step : Capacities → Shape → Operation → Shape
shape_step caps s operation = cond (acts operation (step caps (plain_of s) operation)) (acted operation s) s

-- the shape after a strip: "A refused operation changes nothing and the strip goes on."
unfoldable pub shape_run : Capacities → Shape → List Operation → Shape
shape_run caps s [] = s
shape_run caps s (operation ∷ operations) = shape_run caps (shape_step caps s operation) operations

-- "an edited run holds live edges only": both runs of a redirection and of a move from shape s to shape t; no other operation edits a run
abbrev pub EditedLive : Operation → Shape → Shape → Type 0
EditedLive (AddNode payload) s t = Unit
EditedLive (AddEdge source target payload) s t = Unit
EditedLive (RemoveEdge e) s t = Unit
EditedLive (RemoveNode x) s t = Unit
EditedLive (Redirect d e new) s t =
    LiveRun (edge_flags_of t) (adjacency_of d t (get_or (axis_in d s).ends e 0)) × LiveRun (edge_flags_of t) (adjacency_of d t new)
EditedLive (Move d old new) s t = LiveRun (edge_flags_of t) (adjacency_of d t old) × LiveRun (edge_flags_of t) (adjacency_of d t new)
EditedLive (SetPayload e payload) s t = Unit
EditedLive Unknown s t = Unit

-- the plain lists of a shape, with the compact flag beside them
abbrev pub state_of : Shape → State
state_of s = record { lists = plain_of s; compact = is_compact s }
