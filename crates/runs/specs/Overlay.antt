-- What the functions that give a node a run in place of its base part and ring ask and promise, of the words of an axis at entry, `ws`, and at exit, `vs`. All of
-- them promise an `Edited`, or a `Remade` once the ring is taken over.
use Rattle.std.specs.Prelude.{ℕ, ◌*◌, ◌≤◌, ◌<◌, ◌≡◌, Bool, true, false, ◌≢◌, List, [], ◌++◌, length, get_or}
use Rattle.plain.specs.declared.Counts.{Counts}
use Rattle.plain.specs.Lists.{distinct}
use Rattle.liveness.specs.Flags.{live_flags}
use Rattle.shape.specs.Columns.{mark_at}
use Rattle.shape.specs.Chains.{In}
use Rattle.shape.specs.Shape.{adjacency_in, raw, live_in, base_of, run_list, run_of, ring_of}
use Rattle.shape.specs.Steps.{live_entries, run_or_base, taken, swept, with_run}
use Rattle.shape.specs.Checked.{Index, Rings}
use Rattle.shape.specs.Kept.{AxisKept}
use Rattle.shape.specs.Writes.{OnlyNode}
use Rattle.runs.specs.Runs.{Editable, Edited}

-- the flags of the edges
abbrev pub flags_of : List ℕ → Counts → List Bool
flags_of live counts = live_flags live counts.edges.bound

-- What it takes to edit a node's run in place of its base part and ring. Of its live entries, none stands twice, and none is in another node's run.
pub record Ready (ws : List ℕ) (ce cn : ℕ) (counts : Counts) (live : List ℕ) (node : ℕ) : Type 0 where
  pub editable : Editable ws ce cn counts node
  pub rings : Rings ws ce counts.nodes.bound counts.edges.base counts.edges.bound
  pub index : Index ws ce cn counts.nodes.base counts.edges.base
  pub nodes_based : counts.nodes.base ≤ counts.nodes.bound
  pub edges_based : counts.edges.base ≤ counts.edges.bound
  pub live_long : counts.edges.bound ≤ 64 * length live
  pub once : distinct (live_entries (flags_of live counts) (raw (adjacency_in ws ce cn counts node))) ≡ true
  pub alone : (x e : ℕ) → x < counts.nodes.bound → x ≢ node → live_in (flags_of live counts) e ≡ true → In e (raw (adjacency_in ws ce cn counts node))
      → In e (run_list ws ce cn x) → ⊥

-- The node has the run ys, and an empty ring.
pub record Remade (ws vs : List ℕ) (ce cn : ℕ) (counts : Counts) (node : ℕ) (ys : List ℕ) : Type 0 where
  pub here : adjacency_in vs ce cn counts node ≡ with_run ys (adjacency_in ws ce cn counts node)
  pub others : (x : ℕ) → x < counts.nodes.bound → x ≢ node → adjacency_in vs ce cn counts x ≡ adjacency_in ws ce cn counts x
  pub editable : Editable vs ce cn counts node
  pub rings : Rings vs ce counts.nodes.bound counts.edges.base counts.edges.bound
  pub index : Index vs ce cn counts.nodes.base counts.edges.base
  -- ends, adjacency and ring links are as before
  pub below : (i : ℕ) → i < 3 * ce → get_or vs i 0 ≡ get_or ws i 0
  -- and the words that no operation writes
  pub frame : AxisKept ws vs ce cn counts.nodes.bound counts.nodes.bound counts.edges.bound
  pub writes : OnlyNode ws vs ce cn counts node

-- What it takes to copy the base part of a node to its run, which is empty.
pub record Copyable (ws : List ℕ) (ce cn : ℕ) (counts : Counts) (live : List ℕ) (node : ℕ) : Type 0 where
  pub editable : Editable ws ce cn counts node
  pub index : Index ws ce cn counts.nodes.base counts.edges.base
  pub nodes_based : counts.nodes.base ≤ counts.nodes.bound
  pub edges_based : counts.edges.base ≤ counts.edges.bound
  pub live_long : counts.edges.bound ≤ 64 * length live
  pub marked : mark_at ws ce cn node ≢ 0
  pub empty : run_list ws ce cn node ≡ []
  pub once : distinct (live_entries (flags_of live counts) (base_of ws ce cn counts.nodes.base node)) ≡ true
  pub alone : (x e : ℕ) → x < counts.nodes.bound → x ≢ node → live_in (flags_of live counts) e ≡ true
      → In e (base_of ws ce cn counts.nodes.base node) → In e (run_list ws ce cn x) → ⊥

-- The live entries of the base part are the node's run.
abbrev pub Copied : (ws vs : List ℕ) (ce cn : ℕ) (counts : Counts) (live : List ℕ) (node : ℕ) → Type 0
Copied ws vs ce cn counts live node =
    Edited ws vs ce cn counts node (live_entries (flags_of live counts) (base_of ws ce cn counts.nodes.base node))
    (base_of ws ce cn counts.nodes.base node)

-- The node has a run: its own, or the live entries of its base part.
abbrev pub Started : (ws vs : List ℕ) (ce cn : ℕ) (counts : Counts) (live : List ℕ) (node : ℕ) → Type 0
Started ws vs ce cn counts live node =
    Edited ws vs ce cn counts node (run_or_base (flags_of live counts) (run_of ws ce cn node) (base_of ws ce cn counts.nodes.base node))
    (raw (adjacency_in ws ce cn counts node))

-- What it takes to drain the ring of a node into its run.
pub record Drainable (ws : List ℕ) (ce cn : ℕ) (counts : Counts) (live : List ℕ) (node : ℕ) : Type 0 where
  pub ready : Ready ws ce cn counts live node
  pub marked : mark_at ws ce cn node ≢ 0

-- The live entries of the ring stand at the end of the run.
abbrev pub Drained : (ws vs : List ℕ) (ce cn : ℕ) (counts : Counts) (live : List ℕ) (node : ℕ) → Type 0
Drained ws vs ce cn counts live node =
    Remade ws vs ce cn counts node
    (run_list ws ce cn node ++ live_entries (flags_of live counts) (ring_of ws ce counts.edges.base counts.edges.bound node))

-- The run has taken over base part and ring.
abbrev pub TakenOver : (ws vs : List ℕ) (ce cn : ℕ) (counts : Counts) (live : List ℕ) (node : ℕ) → Type 0
TakenOver ws vs ce cn counts live node = Remade ws vs ce cn counts node (taken (flags_of live counts) (adjacency_in ws ce cn counts node))

-- What it takes to prepare a node's run for an edit: `tombstoned` says whether some edge may be removed.
pub record Preparable (ws : List ℕ) (ce cn : ℕ) (counts : Counts) (live : List ℕ) (tombstoned : Bool) (node : ℕ) : Type 0 where
  pub ready : Ready ws ce cn counts live node
  pub all_live : tombstoned ≡ false → (e : ℕ) → e < counts.edges.bound → live_in (flags_of live counts) e ≡ true

-- The run has taken over base part and ring, and is swept.
abbrev pub Prepared : (ws vs : List ℕ) (ce cn : ℕ) (counts : Counts) (live : List ℕ) (node : ℕ) → Type 0
Prepared ws vs ce cn counts live node =
    Remade ws vs ce cn counts node (swept (flags_of live counts) (taken (flags_of live counts) (adjacency_in ws ce cn counts node)))
