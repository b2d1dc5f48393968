-- What a move of a node's edges to another node asks and promises, of the words of one axis at entry, `ws`, and at exit, `vs`.
use Rattle.std.specs.Prelude.{ℕ, ◌<◌, ◌≡◌, Bool, true, false, ◌≢◌, List, [], ◌++◌, length, get_or}
use Rattle.plain.specs.declared.Counts.{Counts}
use Rattle.shape.specs.Columns.{mark_at}
use Rattle.shape.specs.Chains.{In}
use Rattle.shape.specs.Shape.{adjacency_in, raw, live_in, run_list, axis_of}
use Rattle.shape.specs.Steps.{live_entries, taken, swept, LiveRun, moved_axis}
use Rattle.shape.specs.Checked.{AxisChecked}
use Rattle.shape.specs.Kept.{AxisKept}
use Rattle.shape.specs.Writes.{OfLinks, OfNode}
use Rattle.runs.specs.Runs.{Editable, Edited}
use Rattle.runs.specs.Overlay.{flags_of, Prepared}
use Rattle.relocate.specs.Redirects.{Relocatable, Placed, Relabelled}

-- The edges of the node's run end at `new`; r is how many they are.
pub record RunRelabelled (ws vs : List ℕ) (ce cn node new r : ℕ) : Type 0 where
  pub relabelled : Relabelled ws vs (run_list ws ce cn node) new
  pub counted : r ≡ length (run_list ws ce cn node)

-- What it takes to hand the run of one node over to another.
pub record HandableOver (ws : List ℕ) (ce cn : ℕ) (counts : Counts) (old new : ℕ) : Type 0 where
  pub editable : Editable ws ce cn counts old
  pub new_below : new < counts.nodes.bound
  pub apart : old ≢ new
  pub old_marked : mark_at ws ce cn old ≢ 0
  pub new_marked : mark_at ws ce cn new ≢ 0

-- The first run is empty, and then the second has its entries at the end.
pub record HandedOver (ws vs : List ℕ) (ce cn : ℕ) (counts : Counts) (old new : ℕ) : Type 0 where
  pub between : List ℕ
  pub emptied : Edited ws between ce cn counts old [] []
  pub joined : Edited between vs ce cn counts new (run_list ws ce cn new ++ run_list ws ce cn old) (run_list ws ce cn new)

-- What it takes to move the live edges of one node to another; both are live.
pub record Movable (ws : List ℕ) (ce cn : ℕ) (counts : Counts) (live : List ℕ) (tombstoned : Bool) (old new : ℕ) : Type 0 where
  pub axis : Relocatable ws ce cn counts live
  pub old_placed : Placed ws ce cn counts live old
  pub new_placed : Placed ws ce cn counts live new
  pub apart : old ≢ new
  pub all_live : tombstoned ≡ false → (f : ℕ) → f < counts.edges.bound → live_in (flags_of live counts) f ≡ true

-- Both runs are prepared; the first holds the edges that move.
pub record Met (ws vs : List ℕ) (ce cn : ℕ) (counts : Counts) (live : List ℕ) (old new : ℕ) : Type 0 where
  pub between : List ℕ
  pub gathered : Prepared ws between ce cn counts live old
  pub prepared : Prepared between vs ce cn counts live new

-- The edges are moved; r is how many they are.
pub record Moved (ws vs : List ℕ) (ce cn : ℕ) (counts : Counts) (live : List ℕ) (old new r : ℕ) : Type 0 where
  pub counted : r ≡ length (swept (flags_of live counts) (taken (flags_of live counts) (adjacency_in ws ce cn counts old)))
  -- the axis is the shape's
  pub axis : axis_of vs ce cn counts ≡ moved_axis (flags_of live counts) old new (axis_of ws ce cn counts)
  -- "an edited run holds live edges only": both nodes'
  pub live_only : LiveRun (flags_of live counts) (adjacency_in vs ce cn counts old) × LiveRun (flags_of live counts) (adjacency_in vs ce cn counts new)
  -- rules 3 to 6 are kept
  pub checked : (nodes : List Bool) → get_or nodes old false ≡ true → get_or nodes new false ≡ true
      → AxisChecked ws ce cn counts nodes (flags_of live counts) → AxisChecked vs ce cn counts nodes (flags_of live counts)
  -- and the words that no operation writes
  pub frame : AxisKept ws vs ce cn counts.nodes.bound counts.nodes.bound counts.edges.bound
  pub writes : (i : ℕ) → (In i (live_entries (flags_of live counts) (raw (adjacency_in ws ce cn counts old))) → ⊥)
      → (OfLinks ce (raw (adjacency_in ws ce cn counts old)) i → ⊥) → (OfLinks ce (raw (adjacency_in ws ce cn counts new)) i → ⊥)
      → (OfNode ce cn old i → ⊥) → (OfNode ce cn new i → ⊥) → get_or vs i 0 ≡ get_or ws i 0
