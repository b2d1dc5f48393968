-- The ways that redirections and moves end, each by what the program has tested.
use Rattle.std.specs.Prelude.{ℕ, ◌≤◌, ◌<◌, ◌≡◌, refl, Bool, true, false, ◌≢◌, [], length, get_or, eqb, Err}
use Rattle.plain.specs.Library.{sym, ap, subst, ◌∙◌, eqb-true, eqb-false, eq-eqb, ne_eqb}
use Rattle.plain.specs.declared.TraversalDirection.{TraversalDirection}
use Rattle.plain.specs.declared.Operation.TheVariants.{Redirect, Move}
use Rattle.plain.specs.declared.refusals.Refusal.{Refusal}
use Rattle.plain.specs.declared.refusals.Refusal.TheVariants.{OutOfRangeNode, RemovedNode, OutOfRangeEdge, RemovedEdge}
use Rattle.plain.specs.Numbers.{NONE}
use Rattle.plain.specs.Refusals.{number_of, value_of}
use Rattle.plain.specs.Plain.{end_of, list_of}
use Rattle.plain.proofs.Laws.Booleans.{by_test}
use Rattle.plain.specs.Laws.Cases.{redirect_edge_absent, redirect_edge_removed, redirect_node_absent, redirect_node_removed, redirect_same, redirect, move_onto_itself, move_old_absent, move_nothing, move_new_absent, move_new_removed, move}
use Rattle.plain.proofs.Laws.ListLaws.{no_entries}
use Rattle.plain.proofs.Laws.Rank.{live_below}
use Rattle.liveness.specs.Laws.Flags.{length_flags}
use Rattle.shape.specs.Shape.{Words, node_capacity, edge_capacity, node_live, edge_live, axis_words, lists}
use Rattle.shape.specs.Checked.{Checked}
use Rattle.shape.specs.Stores.{slot_refused}
use Rattle.shape.proofs.Laws.Reading.{plain_end}
use Rattle.shape.proofs.Laws.Slots.{nodes_told, edges_told, node_bound_of, absent_slot, live_slot, removed_slot}
use Rattle.adjacency.specs.Walk.{walk_in}
use Rattle.adjacency.specs.Laws.StoreWalks.{list_is_walk}
use Rattle.store.specs.Operations.{RedirectedEdge, MovedEdges}
use Rattle.refusals.specs.Step.{StepOf}
use Rattle.refusals.proofs.Told.{node_fault, edge_fault}
use Rattle.refusals.specs.Laws.Stepping.{stays, done}

module _ {w : Words} (c : Checked w) (d : TraversalDirection) (edge node : ℕ) where
  pub redirect_edge_fault : {v : Words} → v ≡ w → {refusal : Refusal} → Err refusal ≡ slot_refused OutOfRangeEdge RemovedEdge (edge_live v) v.counts.edges.bound edge
      → StepOf (Redirect d edge node) w w (number_of refusal) (value_of refusal)
  redirect_edge_fault same =
      edge_fault same (Redirect d edge node) edge
      (λ h. stays c (redirect_edge_absent (absent_slot (edges_told w) edge h)) refl) (λ l h. stays c (redirect_edge_removed (removed_slot (edges_told w) edge l h)) refl)

  module _ (alive : get_or (edge_live w) edge false ≡ true) where
    pub redirect_node_fault : {v : Words} → v ≡ w → {refusal : Refusal} → Err refusal ≡ slot_refused OutOfRangeNode RemovedNode (node_live v) v.counts.nodes.bound node
        → StepOf (Redirect d edge node) w w (number_of refusal) (value_of refusal)
    redirect_node_fault same =
        node_fault same (Redirect d edge node) node
        (λ h. stays c (redirect_node_absent (live_slot (edges_told w) edge alive) (absent_slot (nodes_told w) node h)) refl)
        (λ l h. stays c (redirect_node_removed (live_slot (edges_told w) edge alive) (removed_slot (nodes_told w) node l h)) refl)

    -- done: the value is the end before, and the same end changes nothing
    pub edge_redirected : {v : Words} {answer : ℕ} → get_or (node_live w) node false ≡ true → RedirectedEdge d edge node w answer v
        → StepOf (Redirect d edge node) w v 0 answer
    edge_redirected {v} {answer} on r =
        by_test (eqb answer node)
        (λ t. let same = eqb-true answer node t in
        subst (λ (u : Words). StepOf (Redirect d edge node) w u 0 answer) (sym (r.keeps same))
        (subst (λ (n : ℕ). StepOf (Redirect d edge node) w w 0 n) is
        (stays c (redirect_same (live_slot (edges_told w) edge alive) (live_slot (nodes_told w) node on) (is ∙ same)) (rw (eq-eqb (end_of d (lists w) edge) node (is ∙ same))))))
        (λ t. let other = eqb-false answer node t in
        subst (λ (n : ℕ). StepOf (Redirect d edge node) w v 0 n) is
        (done (redirect (live_slot (edges_told w) edge alive) (live_slot (nodes_told w) node on) (λ q. other (sym is ∙ q)))
        (rw (ne_eqb (end_of d (lists w) edge) node (λ q. other (sym is ∙ q)))) refl (r.acts other)))
      where
        below : edge < w.counts.edges.bound
        below = rw (← length_flags w.live_edges w.counts.edges.bound) (live_below (edge_live w) edge alive)

        is : end_of d (lists w) edge ≡ answer
        is = plain_end w d edge below ∙ sym r.previous

-- ---- move

-- by the degree that was counted in the store v that is read, the list in the store w as it stands
module _ {v w : Words} (same : v ≡ w) (d : TraversalDirection) (x : ℕ) {n : ℕ} (counted : n ≡ length (list_of d (lists v) x)) where
  as_counted : n ≡ length (list_of d (lists w) x)
  as_counted = counted ∙ ap (λ (u : Words). length (list_of d (lists u) x)) same

  pub unlisted : n ≡ 0 → list_of d (lists w) x ≡ []
  unlisted none = no_entries (list_of d (lists w) x) (sym as_counted ∙ none)

  pub listed : (n ≡ 0 → ⊥) → list_of d (lists w) x ≢ []
  listed some empty = some (as_counted ∙ ap length empty)

module _ {w : Words} (c : Checked w) (d : TraversalDirection) (old new : ℕ) where
  pub onto_itself : old ≡ new → StepOf (Move d old new) w w 9 NONE
  onto_itself same = stays c (move_onto_itself same) refl

  module _ (apart : old ≢ new) where
    pub old_absent : w.counts.nodes.bound ≤ old → StepOf (Move d old new) w w 5 NONE
    old_absent h = stays c (move_old_absent apart (absent_slot (nodes_told w) old h)) refl

    module _ (below : old < w.counts.nodes.bound) where
      pub nothing_moved : list_of d (lists w) old ≡ [] → StepOf (Move d old new) w w 0 0
      nothing_moved empty = stays c (move_nothing apart (rw (node_bound_of w) below) empty) refl

      module _ (some : list_of d (lists w) old ≢ []) where
        pub new_fault : {v : Words} → v ≡ w → {refusal : Refusal} → Err refusal ≡ slot_refused OutOfRangeNode RemovedNode (node_live v) v.counts.nodes.bound new
            → StepOf (Move d old new) w w (number_of refusal) (value_of refusal)
        new_fault same =
            node_fault same (Move d old new) new
            (λ h. stays c (move_new_absent apart (rw (node_bound_of w) below) some (absent_slot (nodes_told w) new h)) refl)
            (λ l h. stays c (move_new_removed apart (rw (node_bound_of w) below) some (removed_slot (nodes_told w) new l h)) refl)

        -- the old node is live: a removed node's list is empty
        pub old_live : get_or (node_live w) old false ≡ true
        old_live =
            by_test (get_or (node_live w) old false) (λ t. t)
            (λ t. absurd (some (list_is_walk w d old below
            ∙ ap (λ (b : Bool). walk_in (axis_words d w) (edge_capacity w) (node_capacity w) w.counts w.live_edges old b) t)))

        pub edges_moved : {v : Words} {answer : ℕ} → get_or (node_live w) new false ≡ true → MovedEdges d old new w answer v → StepOf (Move d old new) w v 0 answer
        edges_moved {v} on r =
            subst (λ (n : ℕ). StepOf (Move d old new) w v 0 n) (sym r.counted)
            (done (move apart (rw (node_bound_of w) below) some (live_slot (nodes_told w) new on)) (rw (ne_eqb (length (list_of d (lists w) old)) 0 (λ q. some (no_entries (list_of d (lists w) old) q)))) refl r.acts)
