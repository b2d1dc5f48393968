-- What a redirection of an edge on one axis asks and promises, of the words of the axis at entry, `ws`, and at exit, `vs`.
use Rattle.std.specs.Prelude.{ℕ, ◌*◌, ◌≤◌, ◌<◌, ◌≡◌, Bool, true, false, ◌≢◌, List, [], ◌∷◌, ◌++◌, length, get_or}
use Rattle.plain.specs.declared.Counts.{Counts}
use Rattle.plain.specs.Lists.{distinct, without}
use Rattle.shape.specs.Columns.{Sized, end_at}
use Rattle.shape.specs.Chains.{In}
use Rattle.shape.specs.Shape.{adjacency_in, raw, live_in, run_list, axis_of}
use Rattle.shape.specs.Steps.{live_entries, taken, swept, with_run, LiveRun, redirected_axis}
use Rattle.shape.specs.Checked.{Index, Rings, Runs, AxisChecked}
use Rattle.shape.specs.Kept.{AxisKept}
use Rattle.shape.specs.Writes.{OfLinks, OfNode}
use Rattle.runs.specs.Overlay.{flags_of, Remade, Preparable}

-- Rules 4 to 6 of an axis, and its counts in order.
pub record Linked (ws : List ℕ) (ce cn : ℕ) (counts : Counts) : Type 0 where
  pub sized : Sized ws ce cn
  pub index : Index ws ce cn counts.nodes.base counts.edges.base
  pub rings : Rings ws ce counts.nodes.bound counts.edges.base counts.edges.bound
  pub runs : Runs ws ce cn counts.nodes.bound counts.edges.bound
  pub nodes_within : counts.nodes.bound ≤ cn
  pub edges_within : counts.edges.bound ≤ ce
  pub nodes_based : counts.nodes.base ≤ counts.nodes.bound
  pub edges_based : counts.edges.base ≤ counts.edges.bound

-- What it takes to relocate edges of an axis: beside the rules of one axis, of rule 7 that a live edge in a run ends at the run's node.
pub record Relocatable (ws : List ℕ) (ce cn : ℕ) (counts : Counts) (live : List ℕ) : Type 0 where
  pub linked : Linked ws ce cn counts
  pub live_long : counts.edges.bound ≤ 64 * length live
  pub run_ends : (x e : ℕ) → x < counts.nodes.bound → live_in (flags_of live counts) e ≡ true → In e (run_list ws ce cn x) → end_at ws e ≡ x

-- Rule 7 for one node that is live: its live entries end at it, and none stands twice.
pub record Placed (ws : List ℕ) (ce cn : ℕ) (counts : Counts) (live : List ℕ) (node : ℕ) : Type 0 where
  pub below : node < counts.nodes.bound
  pub own : (e : ℕ) → live_in (flags_of live counts) e ≡ true → In e (raw (adjacency_in ws ce cn counts node)) → end_at ws e ≡ node
  pub once : distinct (live_entries (flags_of live counts) (raw (adjacency_in ws ce cn counts node))) ≡ true

-- The ends of the edges es are the node `new`; no other word differs.
pub record Relabelled (ws vs : List ℕ) (es : List ℕ) (new : ℕ) : Type 0 where
  pub ends : (e : ℕ) → In e es → end_at vs e ≡ new
  pub kept : (i : ℕ) → (In i es → ⊥) → get_or vs i 0 ≡ get_or ws i 0
  pub long : length vs ≡ length ws

-- Two nodes have runs of their own, ys and zs, and empty rings, and the edges es end at the second; all else is as before.
pub record Relocated (ws vs : List ℕ) (ce cn : ℕ) (counts : Counts) (old new : ℕ) (ys zs es : List ℕ) : Type 0 where
  pub first : adjacency_in vs ce cn counts old ≡ with_run ys (adjacency_in ws ce cn counts old)
  pub second : adjacency_in vs ce cn counts new ≡ with_run zs (adjacency_in ws ce cn counts new)
  pub others : (x : ℕ) → x < counts.nodes.bound → x ≢ old → x ≢ new → adjacency_in vs ce cn counts x ≡ adjacency_in ws ce cn counts x
  pub ends : (e : ℕ) → In e es → end_at vs e ≡ new
  pub kept : (e : ℕ) → e < counts.edges.bound → (In e es → ⊥) → end_at vs e ≡ end_at ws e
  pub linked : Linked vs ce cn counts
  pub frame : AxisKept ws vs ce cn counts.nodes.bound counts.nodes.bound counts.edges.bound
  pub writes : (i : ℕ) → (In i es → ⊥) → (OfLinks ce (raw (adjacency_in ws ce cn counts old)) i → ⊥) → (OfLinks ce (raw (adjacency_in ws ce cn counts new)) i → ⊥)
      → (OfNode ce cn old i → ⊥) → (OfNode ce cn new i → ⊥) → get_or vs i 0 ≡ get_or ws i 0

-- The node's run is prepared and without the edge.
abbrev pub Left : (ws vs : List ℕ) (ce cn : ℕ) (counts : Counts) (live : List ℕ) (node e : ℕ) → Type 0
Left ws vs ce cn counts live node e =
    Remade ws vs ce cn counts node (without e (swept (flags_of live counts) (taken (flags_of live counts) (adjacency_in ws ce cn counts node))))

-- What it takes to append an edge to a node's run once it is prepared: the edge is in no run and not at the node.
pub record Arrivable (ws : List ℕ) (ce cn : ℕ) (counts : Counts) (live : List ℕ) (tombstoned : Bool) (node e : ℕ) : Type 0 where
  pub preparable : Preparable ws ce cn counts live tombstoned node
  pub edge_below : e < counts.edges.bound
  pub away : In e (raw (adjacency_in ws ce cn counts node)) → ⊥
  pub elsewhere : (x : ℕ) → x < counts.nodes.bound → x ≢ node → In e (run_list ws ce cn x) → ⊥

-- The node's run is prepared and has the edge at its end.
abbrev pub Arrived : (ws vs : List ℕ) (ce cn : ℕ) (counts : Counts) (live : List ℕ) (node e : ℕ) → Type 0
Arrived ws vs ce cn counts live node e =
    Remade ws vs ce cn counts node (swept (flags_of live counts) (taken (flags_of live counts) (adjacency_in ws ce cn counts node)) ++ (e ∷ []))

-- What it takes to redirect the live edge e to a live node: its end is such a node too.
pub record Redirectable (ws : List ℕ) (ce cn : ℕ) (counts : Counts) (live : List ℕ) (tombstoned : Bool) (e new : ℕ) : Type 0 where
  pub axis : Relocatable ws ce cn counts live
  pub old_placed : Placed ws ce cn counts live (end_at ws e)
  pub new_placed : Placed ws ce cn counts live new
  pub edge_below : e < counts.edges.bound
  pub edge_live : live_in (flags_of live counts) e ≡ true
  pub all_live : tombstoned ≡ false → (f : ℕ) → f < counts.edges.bound → live_in (flags_of live counts) f ≡ true

-- The edge is redirected; r is its end before.
pub record Redirected (ws vs : List ℕ) (ce cn : ℕ) (counts : Counts) (live : List ℕ) (e new r : ℕ) : Type 0 where
  pub previous : r ≡ end_at ws e
  -- a redirect to the present end changes nothing
  pub unchanged : end_at ws e ≡ new → vs ≡ ws
  -- any other is the shape's
  pub changed : end_at ws e ≢ new → axis_of vs ce cn counts ≡ redirected_axis (flags_of live counts) e new (axis_of ws ce cn counts)
  -- "an edited run holds live edges only": both nodes'
  pub live_only : end_at ws e ≢ new
      → LiveRun (flags_of live counts) (adjacency_in vs ce cn counts (end_at ws e)) × LiveRun (flags_of live counts) (adjacency_in vs ce cn counts new)
  -- rules 3 to 6 are kept
  pub checked : (nodes : List Bool) → get_or nodes (end_at ws e) false ≡ true → get_or nodes new false ≡ true
      → AxisChecked ws ce cn counts nodes (flags_of live counts) → AxisChecked vs ce cn counts nodes (flags_of live counts)
  -- and the words that no operation writes
  pub frame : AxisKept ws vs ce cn counts.nodes.bound counts.nodes.bound counts.edges.bound
  pub writes : (i : ℕ) → i ≢ e → (OfLinks ce (raw (adjacency_in ws ce cn counts (end_at ws e))) i → ⊥)
      → (OfLinks ce (raw (adjacency_in ws ce cn counts new)) i → ⊥) → (OfNode ce cn (end_at ws e) i → ⊥) → (OfNode ce cn new i → ⊥)
      → get_or vs i 0 ≡ get_or ws i 0
