-- What the words of a store tell of the flags and bounds of its plain lists, by kind of slot.
use Rattle.std.specs.Prelude.{ℕ, ◌≤◌, ◌<◌, ◌≡◌, Bool, true, false, List, get_or}
use Rattle.plain.specs.Plain.{node_flags, edge_flags, node_bound, edge_bound}
use Rattle.plain.specs.Laws.Cases.{Absent, Removed, Live}
use Rattle.liveness.specs.Laws.Flags.{length_flags}
use Rattle.shape.specs.Shape.{Words, node_live, edge_live, plain_of, lists}
use Rattle.shape.proofs.Laws.Reading.{node_flags_are, edge_flags_are, node_bound_is, edge_bound_is}
use Rattle.shape.specs.Laws.Slots.{Told}

module _ (w : Words) where
  pub nodes_told : Told (node_flags (lists w)) (node_live w) w.counts.nodes.bound
  unfolding plain_of
  nodes_told = record { same = node_flags_are w; long = length_flags w.live_nodes w.counts.nodes.bound }

  pub edges_told : Told (edge_flags (lists w)) (edge_live w) w.counts.edges.bound
  unfolding plain_of
  edges_told = record { same = edge_flags_are w; long = length_flags w.live_edges w.counts.edges.bound }

  pub node_bound_of : node_bound (lists w) ≡ w.counts.nodes.bound
  unfolding plain_of
  node_bound_of = node_bound_is w

  pub edge_bound_of : edge_bound (lists w) ≡ w.counts.edges.bound
  unfolding plain_of
  edge_bound_of = edge_bound_is w

-- a slot at or above the bound, one that is live, and one that was removed
module _ {flags live : List Bool} {bound : ℕ} (t : Told flags live bound) (x : ℕ) where
  pub absent_slot : bound ≤ x → Absent flags x
  absent_slot h = rw (t.same, t.long) h

  pub live_slot : get_or live x false ≡ true → Live flags x
  live_slot h = rw t.same h

  pub removed_slot : x < bound → get_or live x false ≡ false → Removed flags x
  removed_slot l h = record { below = rw (t.same, t.long) l; dead = rw t.same h }
