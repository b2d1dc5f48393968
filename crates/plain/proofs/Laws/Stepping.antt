-- A step and a strip: they keep the lists well formed, and what is refused changes nothing.
-- ---- refused means unchanged
use Rattle.std.specs.Prelude.{ℕ, zero, suc, ◌<◌, ◌^◌, ◌≡◌, refl, Bool, true, false, cond, ◌&&◌, List, [], ◌∷◌, eqb}
use Rattle.plain.specs.Library.{Option, none, some}
use Rattle.plain.specs.declared.TraversalDirection.{TraversalDirection}
use Rattle.plain.specs.declared.EdgePayload.{EdgePayload}
use Rattle.plain.specs.declared.Operation.{Operation}
use Rattle.plain.specs.declared.Operation.TheVariants.{AddNode, AddEdge, RemoveEdge, RemoveNode, Redirect, Move, SetPayload, Unknown}
use Rattle.plain.specs.Plain.{Plain, list_of, node_slot, edge_slot, end_of, node_bound, edge_bound}
use Rattle.plain.specs.Operations.{unused, decoded, operations}
use Rattle.plain.specs.Step.{Capacities, Outcome, State, refused, unless, removing, moving, live_node, live_edge, node_fault, node_missing, edge_fault, edge_missing, room_fault, self_fault, payload_fault, step, stepped, run}
use Rattle.plain.specs.WellFormed.{WellFormed}
use Rattle.plain.specs.Laws.Cases.{Case, add_node_full, add_node, add_edge_inverted, add_edge_source_absent, add_edge_source_removed, add_edge_target_absent, add_edge_target_removed, add_edge_full, add_edge, remove_edge_absent, remove_edge_removed, remove_edge, remove_node_absent, remove_node_removed, remove_node, redirect_edge_absent, redirect_edge_removed, redirect_node_absent, redirect_node_removed, redirect_same, redirect, move_onto_itself, move_old_absent, move_nothing, move_new_absent, move_new_removed, move, set_payload_inverted, set_payload_absent, set_payload, unknown}
use Rattle.plain.proofs.Laws.Cases.{case_of}
use Rattle.plain.proofs.Laws.Operating.{node_added_well_formed, edge_added_well_formed, edge_removed_well_formed, node_removed_well_formed, redirected_well_formed, moved_well_formed, payload_set_well_formed, edge_below}
use Rattle.plain.specs.Laws.Stepping.{AllFitting, Fitting, Words, no_more, one_more}

-- an outcome that is no answer 0 leaves the lists and the compact flag
abbrev Leaves : Plain → Outcome → Type 0
Leaves p o = (o.number ≡ 0 → ⊥) → o ≡ refused o.number p

leaves_done : (p : Plain) (o : Outcome) → o.number ≡ 0 → Leaves p o
leaves_done p o e = λ h. absurd (h e)

leaves_unless : (number : ℕ) (p : Plain) (o : Outcome) → Leaves p o → Leaves p (unless number p o)
leaves_unless zero p o k = k
leaves_unless (suc number) p o k = λ h. refl

leaves_removing : (flag : Option Bool) (p after : Plain) → Leaves p (removing flag p after)
leaves_removing none p after = λ h. absurd (h refl)
leaves_removing (some false) p after = λ h. absurd (h refl)
leaves_removing (some true) p after = λ h. absurd (h refl)

leaves_cond : (b : Bool) (p : Plain) (o k : Outcome) → o.number ≡ 0 → k.number ≡ 0 → Leaves p (cond b o k)
leaves_cond true p o k h l = leaves_done p o h
leaves_cond false p o k h l = leaves_done p k l

leaves_moving : (d : TraversalDirection) (old new : ℕ) (list : List ℕ) (p : Plain) → Leaves p (moving d old new list p)
leaves_moving d old new [] p = λ h. absurd (h refl)
leaves_moving d old new (e ∷ es) p = leaves_unless (node_fault p new) p _ (λ h. absurd (h refl))

-- "A refused operation changes nothing", and its value is NONE
pub refused_unchanged : (caps : Capacities) (p : Plain) (operation : Operation) → ((step caps p operation).number ≡ 0 → ⊥)
    → step caps p operation ≡ refused (step caps p operation).number p
unfolding step
refused_unchanged caps p (AddNode v) = leaves_unless (room_fault (node_bound p) caps.nodes) p _ (λ h. absurd (h refl))
refused_unchanged caps p (AddEdge s t v) =
    leaves_unless (payload_fault v) p _
    (leaves_unless (node_fault p s) p _ (leaves_unless (node_fault p t) p _ (leaves_unless (room_fault (edge_bound p) caps.edges) p _ (λ h. absurd (h refl)))))
refused_unchanged caps p (RemoveEdge e) = leaves_removing (live_edge (edge_slot p e)) p _
refused_unchanged caps p (RemoveNode x) = leaves_removing (live_node (node_slot p x)) p _
refused_unchanged caps p (Redirect d e x) =
    leaves_unless (edge_fault p e) p _ (leaves_unless (node_fault p x) p _ (leaves_cond (eqb (end_of d p e) x) p _ _ refl refl))
refused_unchanged caps p (Move d old new) =
    leaves_unless (self_fault old new) p _ (leaves_unless (node_missing p old) p _ (leaves_moving d old new (list_of d p old) p))
refused_unchanged caps p (SetPayload e v) = leaves_unless (payload_fault v) p _ (leaves_unless (edge_missing p e) p _ (λ h. absurd (h refl)))
refused_unchanged caps p Unknown = λ h. refl

-- ---- well formed again

fitting_cond : (b : Bool) (x y : Operation) → Fitting x → Fitting y → Fitting (cond b x y)
fitting_cond true x y h k = h
fitting_cond false x y h k = k

fitting_unused : (a b c : ℕ) (x : Operation) → Fitting x → Fitting (unused a b c x)
unfolding unused
fitting_unused a b c x h = fitting_cond (eqb a 0 && (eqb b 0 && eqb c 0)) x Unknown h tt

pub decoded_fitting : (code first second low high : ℕ) → low < 2 ^ 32 → high < 2 ^ 32 → Fitting (decoded code first second low high)
unfolding decoded
decoded_fitting code first second low high h k =
    let payload : EdgePayload = record { low = low; high = high } in
    fitting_cond (eqb code 1) _ _ (fitting_unused first second high (AddNode low) h)
    (fitting_cond (eqb code 2) _ _ k
    (fitting_cond (eqb code 3) _ _ (fitting_unused second low high (RemoveEdge first) tt)
    (fitting_cond (eqb code 4) _ _ (fitting_unused second low high (RemoveNode first) tt)
    (fitting_cond (eqb code 5) _ _ (fitting_unused low high 0 _ tt)
    (fitting_cond (eqb code 6) _ _ (fitting_unused low high 0 _ tt)
    (fitting_cond (eqb code 7) _ _ (fitting_unused low high 0 _ tt)
    (fitting_cond (eqb code 8) _ _ (fitting_unused low high 0 _ tt)
    (fitting_cond (eqb code 9) _ _ (fitting_unused second 0 0 (SetPayload first payload) k) tt))))))))

-- the lists of a case's outcome
case_well_formed : {caps : Capacities} {p : Plain} {operation : Operation} {o : Outcome} → Case caps p operation o → Fitting operation → WellFormed caps p
    → WellFormed caps o.lists
case_well_formed (add_node_full k) fits h = h
case_well_formed (add_node k) fits h = node_added_well_formed _ fits k h
case_well_formed (add_edge_inverted o) fits h = h
case_well_formed (add_edge_source_absent o k) fits h = h
case_well_formed (add_edge_source_removed o k) fits h = h
case_well_formed (add_edge_target_absent o k l) fits h = h
case_well_formed (add_edge_target_removed o k l) fits h = h
case_well_formed (add_edge_full o k l m) fits h = h
case_well_formed (add_edge o k l m) fits h = edge_added_well_formed _ _ _ k l (record { in_order = o; fits = fits }) m h
case_well_formed (remove_edge_absent k) fits h = h
case_well_formed (remove_edge_removed k) fits h = h
case_well_formed {p = p} (remove_edge {e} k) fits h = edge_removed_well_formed e (edge_below p e k) h
case_well_formed (remove_node_absent k) fits h = h
case_well_formed (remove_node_removed k) fits h = h
case_well_formed (remove_node {x} k) fits h = node_removed_well_formed x k h
case_well_formed (redirect_edge_absent k) fits h = h
case_well_formed (redirect_edge_removed k) fits h = h
case_well_formed (redirect_node_absent k l) fits h = h
case_well_formed (redirect_node_removed k l) fits h = h
case_well_formed (redirect_same k l m) fits h = h
case_well_formed (redirect {d} {e} {x} k l m) fits h = redirected_well_formed d e x k l m h
case_well_formed (move_onto_itself k) fits h = h
case_well_formed (move_old_absent k l) fits h = h
case_well_formed (move_nothing k l m) fits h = h
case_well_formed (move_new_absent k l m n) fits h = h
case_well_formed (move_new_removed k l m n) fits h = h
case_well_formed (move {d} {old} {new} k l m n) fits h = moved_well_formed d old new k l n h
case_well_formed (set_payload_inverted o) fits h = h
case_well_formed (set_payload_absent o k) fits h = h
case_well_formed (set_payload {e} {v} o k) fits h = payload_set_well_formed e v k (record { in_order = o; fits = fits }) h
case_well_formed unknown fits h = h

-- an operation keeps the lists well formed
pub step_well_formed : {caps : Capacities} {p : Plain} (operation : Operation) → Fitting operation → WellFormed caps p → WellFormed caps (step caps p operation).lists
step_well_formed {caps} {p} operation fits h = case_well_formed (case_of caps p operation) fits h

-- a strip keeps the lists well formed
pub run_well_formed : {caps : Capacities} (s : State) {ops : List Operation} → AllFitting ops → WellFormed caps s.lists
    → WellFormed caps (run caps s ops).lists
unfolding run
run_well_formed s no_more h = h
run_well_formed {caps} s (one_more {x} f fs) h = run_well_formed (stepped caps s x) fs (step_well_formed x f h)

pub operations_fitting : (words : List ℕ) → Words words → AllFitting (operations words)
unfolding operations
operations_fitting [] h = no_more
operations_fitting (a ∷ []) h = no_more
operations_fitting (a ∷ b ∷ []) h = no_more
operations_fitting (a ∷ b ∷ c ∷ []) h = no_more
operations_fitting (a ∷ b ∷ c ∷ d ∷ []) h = no_more
operations_fitting (a ∷ b ∷ c ∷ d ∷ e ∷ rest) h =
    one_more (decoded_fitting a b c d e (h 3) (h 4)) (operations_fitting rest (λ i. h (suc (suc (suc (suc (suc i)))))))
