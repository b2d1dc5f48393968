-- What the operations on a checked store ask and promise, of the store at entry, w, and at exit, v. Every operation promises the same: the shape is what the
-- shape's own step makes of it, a run that it edits holds live edges only, the store is checked again, and every slice is as long as it was. That the plain lists are then those of document 01 is
-- `step_refines` of crate `shape`.
use Rattle.std.specs.Prelude.{ℕ, ◌+◌, ◌-◌, ◌≤◌, ◌<◌, ◌≡◌, Bool, true, false, ◌≢◌, [], length, get_or}
use Rattle.plain.specs.declared.Operation.{Operation}
use Rattle.plain.specs.declared.Operation.TheVariants.{RemoveEdge, RemoveNode, Redirect, Move}
use Rattle.plain.specs.declared.TraversalDirection.{TraversalDirection}
use Rattle.plain.specs.declared.EdgePayload.{EdgePayload}
use Rattle.plain.specs.declared.Slots.{Slots}
use Rattle.plain.specs.Plain.{list_of}
use Rattle.plain.specs.Numbers.{LIMIT}
use Rattle.shape.specs.Columns.{end_at}
use Rattle.shape.specs.Shape.{Words, node_capacity, edge_capacity, node_live, edge_live, axis_words, shape_of, lists}
use Rattle.shape.specs.Checked.{Checked}
use Rattle.shape.specs.Kept.{SameLengths, Kept}
use Rattle.shape.specs.Writes.{Writes}
use Rattle.shape.specs.Steps.{EditedLive, acted}

-- The operation was done.
pub record Acted (operation : Operation) (w v : Words) : Type 0 where
  pub shape : shape_of v ≡ acted operation (shape_of w)
  -- "an edited run holds live edges only"
  pub live_only : EditedLive operation (shape_of w) (shape_of v)
  pub checked : Checked v
  pub lengths : SameLengths w v
  -- no index word, no word past the bounds, no spare word was written
  pub kept : Kept w v
  -- nor any other word than the operation's own
  pub writes : Writes operation w v

-- The operation was done if something live was there, which is the answer; else nothing changed.
pub record Removing (operation : Operation) (live : Bool) (w : Words) (answer : Bool) (v : Words) : Type 0 where
  pub answers : answer ≡ live
  pub acts : answer ≡ true → Acted operation w v
  pub keeps : answer ≡ false → v ≡ w

-- An edge was removed, if it was live.
abbrev pub RemovedEdge : ℕ → Words → Bool → Words → Type 0
RemovedEdge edge w answer v = Removing (RemoveEdge edge) (get_or (edge_live w) edge false) w answer v

-- A node was removed, if it was live, and its edges with it.
abbrev pub RemovedNode : ℕ → Words → Bool → Words → Type 0
RemovedNode node w answer v = Removing (RemoveNode node) (get_or (node_live w) node false) w answer v

-- An edge was redirected; the answer is its end before. A redirect to the same end changes nothing.
pub record RedirectedEdge (d : TraversalDirection) (edge new : ℕ) (w : Words) (answer : ℕ) (v : Words) : Type 0 where
  pub previous : answer ≡ end_at (axis_words d w) edge
  pub acts : answer ≢ new → Acted (Redirect d edge new) w v
  pub keeps : answer ≡ new → v ≡ w

-- A node's edges were moved to another node; the answer is how many.
pub record MovedEdges (d : TraversalDirection) (old new : ℕ) (w : Words) (answer : ℕ) (v : Words) : Type 0 where
  pub counted : answer ≡ length (list_of d (lists w) old)
  pub acts : Acted (Move d old new) w v

-- ---- the counts

-- a live slot more
abbrev pub one_more : Slots → Slots
one_more s = record { bound = s.bound + 1; base = s.base; live = s.live + 1 }

-- What it takes to count one more: the counts stay words.
pub record Raisable (s : Slots) : Type 0 where
  pub bound_below : s.bound < LIMIT
  pub live_within : s.live ≤ s.bound

-- n live slots removed
abbrev pub fewer : ℕ → Slots → Slots
fewer n s = record { bound = s.bound; base = s.base; live = s.live - n }

-- ---- what each operation asks

-- What it takes to add a node: a slot below the capacity.
pub record NodeAddable (w : Words) : Type 0 where
  pub checked : Checked w
  pub room : w.counts.nodes.bound < node_capacity w

-- What it takes to add an edge: no low above its high, both ends are live, and a slot below the capacity.
pub record EdgeAddable (w : Words) (source target : ℕ) (payload : EdgePayload) : Type 0 where
  pub checked : Checked w
  pub in_order : payload.low ≤ payload.high
  pub source_live : get_or (node_live w) source false ≡ true
  pub target_live : get_or (node_live w) target false ≡ true
  pub room : w.counts.edges.bound < edge_capacity w

-- What it takes to set an edge's payload: no low above its high, and the slot is below the bound; the edge may be removed.
pub record PayloadSettable (w : Words) (edge : ℕ) (payload : EdgePayload) : Type 0 where
  pub checked : Checked w
  pub in_order : payload.low ≤ payload.high
  pub below : edge < w.counts.edges.bound

-- What it takes to redirect an edge: it is live, and so is the node.
pub record EdgeRedirectable (w : Words) (edge new : ℕ) : Type 0 where
  pub checked : Checked w
  pub alive : get_or (edge_live w) edge false ≡ true
  pub new_live : get_or (node_live w) new false ≡ true

-- What it takes to move a node's edges: there are some, the other node is live and another.
pub record EdgesMovable (d : TraversalDirection) (w : Words) (old new : ℕ) : Type 0 where
  pub checked : Checked w
  pub apart : old ≢ new
  pub old_live : get_or (node_live w) old false ≡ true
  pub some : list_of d (lists w) old ≢ []
  pub new_live : get_or (node_live w) new false ≡ true
