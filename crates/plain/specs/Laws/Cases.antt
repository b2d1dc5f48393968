-- The definitions that the laws of proofs/Laws/Cases.antt speak of.
use Rattle.std.specs.Prelude.{ℕ, ◌≤◌, ◌<◌, ◌≡◌, Bool, true, false, List, [], length, get_or}
use Rattle.plain.specs.declared.TraversalDirection.{TraversalDirection}
use Rattle.plain.specs.declared.EdgePayload.{EdgePayload}
use Rattle.plain.specs.declared.Operation.{Operation}
use Rattle.plain.specs.declared.Operation.TheVariants.{AddNode, AddEdge, RemoveEdge, RemoveNode, Redirect, Move, SetPayload, Unknown}
use Rattle.plain.specs.Plain.{Plain, incidence, with_incidence, node_bound, edge_bound, node_flags, edge_flags, list_of, end_of, node_added, edge_added, edge_removed, node_removed, redirected, moved, payload_set}
use Rattle.plain.specs.Step.{Capacities, Outcome, refused, unchanged, changed}

pub record Removed (flags : List Bool) (x : ℕ) : Type 0 where
  pub below : x < length flags
  pub dead : get_or flags x false ≡ false

abbrev pub Absent : List Bool → ℕ → Type 0
Absent flags x = length flags ≤ x

abbrev pub Live : List Bool → ℕ → Type 0
Live flags x = get_or flags x false ≡ true

-- one of the three
pub data Slot (flags : List Bool) (x : ℕ) : Type 0 where
  absent : Absent flags x → Slot flags x
  removed : Removed flags x → Slot flags x
  live : Live flags x → Slot flags x

pub data Case (caps : Capacities) (p : Plain) : Operation → Outcome → Type 0 where
  -- "Add node: 4, 10."
  add_node_full : {v : ℕ} → caps.nodes ≤ node_bound p → Case caps p (AddNode v) (refused 10 p)
  add_node : {v : ℕ} → node_bound p < caps.nodes → Case caps p (AddNode v) (changed (node_bound p) (node_added v p))
  -- "Add edge: 4, source 5, 6, target 5, 6, then 10", with 16 "directly after 4"
  add_edge_inverted : {s t : ℕ} {v : EdgePayload} → v.high < v.low → Case caps p (AddEdge s t v) (refused 16 p)
  add_edge_source_absent : {s t : ℕ} {v : EdgePayload} → v.low ≤ v.high → Absent (node_flags p) s → Case caps p (AddEdge s t v) (refused 5 p)
  add_edge_source_removed : {s t : ℕ} {v : EdgePayload} → v.low ≤ v.high → Removed (node_flags p) s → Case caps p (AddEdge s t v) (refused 6 p)
  add_edge_target_absent : {s t : ℕ} {v : EdgePayload} → v.low ≤ v.high → Live (node_flags p) s → Absent (node_flags p) t → Case caps p (AddEdge s t v) (refused 5 p)
  add_edge_target_removed : {s t : ℕ} {v : EdgePayload} → v.low ≤ v.high → Live (node_flags p) s → Removed (node_flags p) t → Case caps p (AddEdge s t v) (refused 6 p)
  add_edge_full : {s t : ℕ} {v : EdgePayload} → v.low ≤ v.high → Live (node_flags p) s → Live (node_flags p) t → caps.edges ≤ edge_bound p
      → Case caps p (AddEdge s t v) (refused 10 p)
  add_edge : {s t : ℕ} {v : EdgePayload} → v.low ≤ v.high → Live (node_flags p) s → Live (node_flags p) t → edge_bound p < caps.edges
      → Case caps p (AddEdge s t v) (changed (edge_bound p) (edge_added s t v p))
  -- "Removals: 4." "1 or 0, where 0 means nothing live was there."
  remove_edge_absent : {e : ℕ} → Absent (edge_flags p) e → Case caps p (RemoveEdge e) (unchanged 0 p)
  remove_edge_removed : {e : ℕ} → Removed (edge_flags p) e → Case caps p (RemoveEdge e) (unchanged 0 p)
  remove_edge : {e : ℕ} → Live (edge_flags p) e → Case caps p (RemoveEdge e) (changed 1 (edge_removed e p))
  remove_node_absent : {x : ℕ} → Absent (node_flags p) x → Case caps p (RemoveNode x) (unchanged 0 p)
  remove_node_removed : {x : ℕ} → Removed (node_flags p) x → Case caps p (RemoveNode x) (unchanged 0 p)
  remove_node : {x : ℕ} → Live (node_flags p) x → Case caps p (RemoveNode x) (changed 1 (node_removed x p))
  -- "Redirect: 4, 7, 8, 5, 6." "The same end changes nothing."
  redirect_edge_absent : {d : TraversalDirection} {e x : ℕ} → Absent (edge_flags p) e → Case caps p (Redirect d e x) (refused 7 p)
  redirect_edge_removed : {d : TraversalDirection} {e x : ℕ} → Removed (edge_flags p) e → Case caps p (Redirect d e x) (refused 8 p)
  redirect_node_absent : {d : TraversalDirection} {e x : ℕ} → Live (edge_flags p) e → Absent (node_flags p) x → Case caps p (Redirect d e x) (refused 5 p)
  redirect_node_removed : {d : TraversalDirection} {e x : ℕ} → Live (edge_flags p) e → Removed (node_flags p) x → Case caps p (Redirect d e x) (refused 6 p)
  redirect_same : {d : TraversalDirection} {e x : ℕ} → Live (edge_flags p) e → Live (node_flags p) x → end_of d p e ≡ x
      → Case caps p (Redirect d e x) (unchanged (end_of d p e) p)
  redirect : {d : TraversalDirection} {e x : ℕ} → Live (edge_flags p) e → Live (node_flags p) x → (end_of d p e ≡ x → ⊥)
      → Case caps p (Redirect d e x) (changed (end_of d p e) (with_incidence d (redirected e x (incidence d p)) p))
  -- "Move: 4, 9, old 5; an empty walk is done, value 0; then new 5, 6."
  move_onto_itself : {d : TraversalDirection} {old new : ℕ} → old ≡ new → Case caps p (Move d old new) (refused 9 p)
  move_old_absent : {d : TraversalDirection} {old new : ℕ} → (old ≡ new → ⊥) → Absent (node_flags p) old → Case caps p (Move d old new) (refused 5 p)
  move_nothing : {d : TraversalDirection} {old new : ℕ} → (old ≡ new → ⊥) → old < node_bound p → list_of d p old ≡ []
      → Case caps p (Move d old new) (unchanged 0 p)
  move_new_absent : {d : TraversalDirection} {old new : ℕ} → (old ≡ new → ⊥) → old < node_bound p → (list_of d p old ≡ [] → ⊥) → Absent (node_flags p) new
      → Case caps p (Move d old new) (refused 5 p)
  move_new_removed : {d : TraversalDirection} {old new : ℕ} → (old ≡ new → ⊥) → old < node_bound p → (list_of d p old ≡ [] → ⊥) → Removed (node_flags p) new
      → Case caps p (Move d old new) (refused 6 p)
  move : {d : TraversalDirection} {old new : ℕ} → (old ≡ new → ⊥) → old < node_bound p → (list_of d p old ≡ [] → ⊥) → Live (node_flags p) new
      → Case caps p (Move d old new) (changed (length (list_of d p old)) (with_incidence d (moved old new (incidence d p)) p))
  -- "Set payload: 4, 7", of removed edges too, with 16 "directly after 4"
  set_payload_inverted : {e : ℕ} {v : EdgePayload} → v.high < v.low → Case caps p (SetPayload e v) (refused 16 p)
  set_payload_absent : {e : ℕ} {v : EdgePayload} → v.low ≤ v.high → Absent (edge_flags p) e → Case caps p (SetPayload e v) (refused 7 p)
  set_payload : {e : ℕ} {v : EdgePayload} → v.low ≤ v.high → e < edge_bound p
      → Case caps p (SetPayload e v) (record { number = 0; value = 0; lists = payload_set e v p; keeps_compact = true })
  -- "unknown code or unused word not 0"
  unknown : Case caps p Unknown (refused 4 p)
