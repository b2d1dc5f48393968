-- The shape's step refines the plain lists' step, for every operation.
use Rattle.std.specs.Prelude.{◌≡◌, refl, cond, List, [], ◌∷◌, length}
use Rattle.plain.specs.Library.{arith, eq-eqb, ne_eqb}
use Rattle.plain.specs.declared.Operation.{Operation}
use Rattle.plain.specs.Plain.{list_of, end_of}
use Rattle.plain.specs.Step.{Capacities, Outcome, step}
use Rattle.plain.specs.Laws.Cases.{Case, add_node_full, add_node, add_edge_inverted, add_edge_source_absent, add_edge_source_removed, add_edge_target_absent, add_edge_target_removed, add_edge_full, add_edge, remove_edge_absent, remove_edge_removed, remove_edge, remove_node_absent, remove_node_removed, remove_node, redirect_edge_absent, redirect_edge_removed, redirect_node_absent, redirect_node_removed, redirect_same, redirect, move_onto_itself, move_old_absent, move_nothing, move_new_absent, move_new_removed, move, set_payload_inverted, set_payload_absent, set_payload, unknown}
use Rattle.plain.proofs.Laws.Cases.{case_of}
use Rattle.shape.specs.Shape.{Shape, plain_of}
use Rattle.shape.specs.Steps.{acted, acts, shape_step}
use Rattle.shape.specs.Laws.Refining.{Proper}
use Rattle.shape.proofs.Laws.Refining.{add_node_refines, add_edge_refines, remove_edge_refines, remove_node_refines, redirect_refines, move_refines, set_payload_refines}

-- a list that is not empty has a length that is not 0
pub length_some : {A : Type 0} (l : List A) → (l ≡ [] → ⊥) → length l ≡ 0 → ⊥
length_some [] h e = h refl
length_some (x ∷ l) h e = omega arith

case_refines : {caps : Capacities} {s : Shape} {operation : Operation} {o : Outcome} → Proper caps s → Case caps (plain_of s) operation o
    → plain_of (cond (acts operation o) (acted operation s) s) ≡ o.lists
unfolding plain_of
case_refines h (add_node_full k) = refl
case_refines h (add_node {v} k) = add_node_refines h v
case_refines h (add_edge_inverted o) = refl
case_refines h (add_edge_source_absent o k) = refl
case_refines h (add_edge_source_removed o k) = refl
case_refines h (add_edge_target_absent o k l) = refl
case_refines h (add_edge_target_removed o k l) = refl
case_refines h (add_edge_full o k l m) = refl
case_refines h (add_edge {s} {t} {v} o k l m) = add_edge_refines h s t v k l
case_refines h (remove_edge_absent k) = refl
case_refines h (remove_edge_removed k) = refl
case_refines h (remove_edge {e} k) = remove_edge_refines h e k
case_refines h (remove_node_absent k) = refl
case_refines h (remove_node_removed k) = refl
case_refines h (remove_node {x} k) = remove_node_refines h x k
case_refines h (redirect_edge_absent k) = refl
case_refines h (redirect_edge_removed k) = refl
case_refines h (redirect_node_absent k l) = refl
case_refines h (redirect_node_removed k l) = refl
case_refines {s = s} h (redirect_same {d} {e} {x} k l m) = rw (eq-eqb (end_of d (plain_of s) e) x m)
case_refines {s = s} h (redirect {d} {e} {x} k l m) = rw (ne_eqb (end_of d (plain_of s) e) x m) (redirect_refines h d e x k l m)
case_refines h (move_onto_itself k) = refl
case_refines h (move_old_absent k l) = refl
case_refines h (move_nothing k l m) = refl
case_refines h (move_new_absent k l m n) = refl
case_refines h (move_new_removed k l m n) = refl
case_refines {s = s} h (move {d} {old} {new} k l m n) =
    rw (ne_eqb (length (list_of d (plain_of s) old)) 0 (length_some (list_of d (plain_of s) old) m)) (move_refines h d old new k l m n)
case_refines h (set_payload_inverted o) = refl
case_refines h (set_payload_absent o k) = refl
case_refines h (set_payload {e} {v} o k) = set_payload_refines h e v
case_refines h unknown = refl

-- THE REFINEMENT: the plain lists of the shape after an operation are those that document 01 gives
pub step_refines : {caps : Capacities} {s : Shape} → Proper caps s → (operation : Operation)
    → plain_of (shape_step caps s operation) ≡ (step caps (plain_of s) operation).lists
unfolding shape_step
step_refines {caps} {s} h operation = case_refines h (case_of caps (plain_of s) operation)
