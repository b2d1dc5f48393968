-- What follows from what `live_node`, `live_edge`, `known_node` and `known_edge` answered of the store v that is read, of the store w as it stands.
use Rattle.std.specs.Prelude.{ℕ, ◌≤◌, ◌<◌, ◌≡◌, true, false, Ok, Err, get_or}
use Rattle.plain.specs.Library.{subst}
use Rattle.plain.specs.declared.Operation.{Operation}
use Rattle.plain.specs.declared.refusals.Refusal.{Refusal}
use Rattle.plain.specs.declared.refusals.Refusal.TheVariants.{OutOfRangeNode, RemovedNode, OutOfRangeEdge, RemovedEdge}
use Rattle.plain.specs.Numbers.{NONE}
use Rattle.plain.specs.Refusals.{number_of, value_of}
use Rattle.shape.specs.Shape.{Words, node_live, edge_live}
use Rattle.shape.specs.Stores.{slot_refused}
use Rattle.shape.proofs.Laws.Refused.{by_refused, not_refused}
use Rattle.refusals.specs.Step.{StepOf}

module _ {v w : Words} (same : v ≡ w) where
  -- a slot that is not refused is live
  pub told_node : (x : ℕ) {done : Unit} → Ok done ≡ slot_refused OutOfRangeNode RemovedNode (node_live v) v.counts.nodes.bound x
      → get_or (node_live w) x false ≡ true
  told_node x passed =
      subst (λ (u : Words). get_or (node_live u) x false ≡ true) same
      (not_refused OutOfRangeNode RemovedNode (node_live v) v.counts.nodes.bound x passed)

  pub told_edge : (e : ℕ) {done : Unit} → Ok done ≡ slot_refused OutOfRangeEdge RemovedEdge (edge_live v) v.counts.edges.bound e
      → get_or (edge_live w) e false ≡ true
  told_edge e passed =
      subst (λ (u : Words). get_or (edge_live u) e false ≡ true) same
      (not_refused OutOfRangeEdge RemovedEdge (edge_live v) v.counts.edges.bound e passed)

  -- a slot below the bound, or not
  pub known_node : {x : ℕ} → x < v.counts.nodes.bound → x < w.counts.nodes.bound
  known_node {x} = subst (λ (u : Words). x < u.counts.nodes.bound) same

  pub unknown_node : {x : ℕ} → v.counts.nodes.bound ≤ x → w.counts.nodes.bound ≤ x
  unknown_node {x} = subst (λ (u : Words). u.counts.nodes.bound ≤ x) same

  pub known_edge : {e : ℕ} → e < v.counts.edges.bound → e < w.counts.edges.bound
  known_edge {e} = subst (λ (u : Words). e < u.counts.edges.bound) same

  pub unknown_edge : {e : ℕ} → v.counts.edges.bound ≤ e → w.counts.edges.bound ≤ e
  unknown_edge {e} = subst (λ (u : Words). u.counts.edges.bound ≤ e) same

  -- an operation that is refused for a slot
  module _ (operation : Operation) where
    pub node_fault : (x : ℕ) → (w.counts.nodes.bound ≤ x → StepOf operation w w 5 NONE)
        → (x < w.counts.nodes.bound → get_or (node_live w) x false ≡ false → StepOf operation w w 6 NONE)
        → {refusal : Refusal} → Err refusal ≡ slot_refused OutOfRangeNode RemovedNode (node_live v) v.counts.nodes.bound x
        → StepOf operation w w (number_of refusal) (value_of refusal)
    node_fault x gone dead {refusal} refused =
        by_refused (node_live w) w.counts.nodes.bound x (λ r. StepOf operation w w (number_of r) (value_of r)) gone dead
        (subst (λ (u : Words). Err refusal ≡ slot_refused OutOfRangeNode RemovedNode (node_live u) u.counts.nodes.bound x) same refused)

    pub edge_fault : (e : ℕ) → (w.counts.edges.bound ≤ e → StepOf operation w w 7 NONE)
        → (e < w.counts.edges.bound → get_or (edge_live w) e false ≡ false → StepOf operation w w 8 NONE)
        → {refusal : Refusal} → Err refusal ≡ slot_refused OutOfRangeEdge RemovedEdge (edge_live v) v.counts.edges.bound e
        → StepOf operation w w (number_of refusal) (value_of refusal)
    edge_fault e gone dead {refusal} refused =
        by_refused (edge_live w) w.counts.edges.bound e (λ r. StepOf operation w w (number_of r) (value_of r)) gone dead
        (subst (λ (u : Words). Err refusal ≡ slot_refused OutOfRangeEdge RemovedEdge (edge_live u) u.counts.edges.bound e) same refused)
