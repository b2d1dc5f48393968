-- The ways that additions, removals and a new payload end, each by what the program has tested.
use Rattle.std.specs.Prelude.{ℕ, ◌≤◌, ◌<◌, ◌≡◌, refl, Bool, true, false, cond, List, get_or, Err}
use Rattle.plain.specs.Library.{sym, subst, ◌∙◌, ⊎_elim}
use Rattle.plain.specs.declared.EdgePayload.{EdgePayload}
use Rattle.plain.specs.declared.refusals.Refusal.{Refusal}
use Rattle.plain.specs.declared.refusals.Refusal.TheVariants.{OutOfRangeNode}
use Rattle.plain.specs.declared.refusals.Refusal.TheVariants as refusals
use Rattle.plain.specs.declared.Operation.{Operation}
use Rattle.plain.specs.declared.Operation.TheVariants.{AddNode, AddEdge, RemoveEdge, RemoveNode, SetPayload}
use Rattle.plain.specs.Numbers.{NONE}
use Rattle.plain.specs.Plain.{Plain}
use Rattle.plain.specs.Refusals.{number_of, value_of}
use Rattle.plain.specs.Step.{changed, unchanged}
use Rattle.plain.specs.Laws.Cases.{Absent, Removed, Live, Case, add_node_full, add_node, add_edge_inverted, add_edge_source_absent, add_edge_source_removed, add_edge_target_absent, add_edge_target_removed, add_edge_full, add_edge, remove_edge_absent, remove_edge_removed, remove_edge, remove_node_absent, remove_node_removed, remove_node, set_payload_inverted, set_payload_absent, set_payload}
use Rattle.plain.proofs.Laws.Booleans.{by_test, below_or_not}
use Rattle.shape.specs.Shape.{Words, capacities, node_capacity, edge_capacity, node_live, lists}
use Rattle.shape.specs.Checked.{Checked}
use Rattle.shape.specs.Stores.{slot_refused}
use Rattle.shape.specs.Steps.{acts}
use Rattle.shape.specs.Laws.Slots.{Told}
use Rattle.shape.proofs.Laws.Slots.{nodes_told, edges_told, node_bound_of, edge_bound_of, absent_slot, live_slot, removed_slot}
use Rattle.store.specs.Operations.{Acted, Removing, RemovedEdge, RemovedNode}
use Rattle.refusals.specs.Step.{StepOf}
use Rattle.refusals.proofs.Told.{node_fault}
use Rattle.refusals.specs.Laws.Stepping.{stays, done}

module _ {w : Words} (c : Checked w) where
  -- ---- add node

  pub node_full : (v : ℕ) → node_capacity w ≤ w.counts.nodes.bound → StepOf (AddNode v) w w 10 NONE
  node_full v h = stays c (add_node_full (rw (node_bound_of w) h)) refl

  pub node_added : {v : Words} (payload : ℕ) → w.counts.nodes.bound < node_capacity w → Acted (AddNode payload) w v
      → StepOf (AddNode payload) w v 0 w.counts.nodes.bound
  node_added {v} payload room a =
      subst (λ (n : ℕ). StepOf (AddNode payload) w v 0 n) (node_bound_of w) (done (add_node (rw (node_bound_of w) room)) refl refl a)

  -- ---- add edge

  module _ (source target : ℕ) (payload : EdgePayload) where
    pub edge_inverted : payload.high < payload.low → StepOf (AddEdge source target payload) w w 16 NONE
    edge_inverted order = stays c (add_edge_inverted order) refl

  module _ (source target : ℕ) {payload : EdgePayload} (order : payload.low ≤ payload.high) where
    pub source_fault : {v : Words} → v ≡ w → {refusal : Refusal} → Err refusal ≡ slot_refused OutOfRangeNode refusals.RemovedNode (node_live v) v.counts.nodes.bound source
        → StepOf (AddEdge source target payload) w w (number_of refusal) (value_of refusal)
    source_fault same =
        node_fault same (AddEdge source target payload) source
        (λ h. stays c (add_edge_source_absent order (absent_slot (nodes_told w) source h)) refl)
        (λ l h. stays c (add_edge_source_removed order (removed_slot (nodes_told w) source l h)) refl)

    pub target_fault : get_or (node_live w) source false ≡ true → {v : Words} → v ≡ w → {refusal : Refusal}
        → Err refusal ≡ slot_refused OutOfRangeNode refusals.RemovedNode (node_live v) v.counts.nodes.bound target
        → StepOf (AddEdge source target payload) w w (number_of refusal) (value_of refusal)
    target_fault s same =
        node_fault same (AddEdge source target payload) target
        (λ h. stays c (add_edge_target_absent order (live_slot (nodes_told w) source s) (absent_slot (nodes_told w) target h)) refl)
        (λ l h. stays c (add_edge_target_removed order (live_slot (nodes_told w) source s) (removed_slot (nodes_told w) target l h)) refl)

    pub edge_full : get_or (node_live w) source false ≡ true → get_or (node_live w) target false ≡ true → edge_capacity w ≤ w.counts.edges.bound
        → StepOf (AddEdge source target payload) w w 10 NONE
    edge_full s t h = stays c (add_edge_full order (live_slot (nodes_told w) source s) (live_slot (nodes_told w) target t) (rw (edge_bound_of w) h)) refl

    pub edge_added : {v : Words} → get_or (node_live w) source false ≡ true → get_or (node_live w) target false ≡ true → w.counts.edges.bound < edge_capacity w
        → Acted (AddEdge source target payload) w v → StepOf (AddEdge source target payload) w v 0 w.counts.edges.bound
    edge_added {v} s t room a =
        subst (λ (n : ℕ). StepOf (AddEdge source target payload) w v 0 n) (edge_bound_of w)
        (done (add_edge order (live_slot (nodes_told w) source s) (live_slot (nodes_told w) target t) (rw (edge_bound_of w) room)) refl refl a)

  -- ---- removals: 1, or 0 where nothing live was there

  -- of a slot of either kind, by document 01's three cases
  module _ {flags live : List Bool} {bound : ℕ} (t : Told flags live bound) {operation : Operation} (x : ℕ) {after : Plain}
      (acting : acts operation (changed 1 after) ≡ true) (idle : acts operation (unchanged 0 (lists w)) ≡ false)
      (there : Live flags x → Case (capacities w) (lists w) operation (changed 1 after))
      (gone : Removed flags x → Case (capacities w) (lists w) operation (unchanged 0 (lists w)))
      (never : Absent flags x → Case (capacities w) (lists w) operation (unchanged 0 (lists w)))
    where
      slot_removed : {v : Words} {answer : Bool} → Removing operation (get_or live x false) w answer v → StepOf operation w v 0 (cond answer 1 0)
      slot_removed {v} {answer} r =
          by_test answer (λ was. rw was (done (there (live_slot t x (sym r.answers ∙ was))) acting refl (r.acts was)))
          (λ was-not. let dead = sym r.answers ∙ was-not in
          rw was-not (subst (λ (u : Words). StepOf operation w u 0 0) (sym (r.keeps was-not))
          (⊎_elim (λ l. stays c (gone (removed_slot t x l dead)) idle) (λ l. stays c (never (absent_slot t x l)) idle) (below_or_not x bound))))

  pub node_removed : {v : Words} {answer : Bool} (x : ℕ) → RemovedNode x w answer v → StepOf (RemoveNode x) w v 0 (cond answer 1 0)
  node_removed x = slot_removed (nodes_told w) x refl refl remove_node remove_node_removed remove_node_absent

  pub edge_removed : {v : Words} {answer : Bool} (e : ℕ) → RemovedEdge e w answer v → StepOf (RemoveEdge e) w v 0 (cond answer 1 0)
  edge_removed e = slot_removed (edges_told w) e refl refl remove_edge remove_edge_removed remove_edge_absent

  -- ---- set payload, of removed edges too

  pub payload_inverted : (e : ℕ) {v : EdgePayload} → v.high < v.low → StepOf (SetPayload e v) w w 16 NONE
  payload_inverted e order = stays c (set_payload_inverted order) refl

  pub payload_absent : (e : ℕ) {v : EdgePayload} → v.low ≤ v.high → w.counts.edges.bound ≤ e → StepOf (SetPayload e v) w w 7 NONE
  payload_absent e order h = stays c (set_payload_absent order (absent_slot (edges_told w) e h)) refl

  pub payload_set : {u : Words} (e : ℕ) {v : EdgePayload} → v.low ≤ v.high → e < w.counts.edges.bound → Acted (SetPayload e v) w u
      → StepOf (SetPayload e v) w u 0 0
  payload_set e order l a = done (set_payload order (rw (edge_bound_of w) l)) refl refl a
