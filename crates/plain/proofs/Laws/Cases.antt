-- The table of document 01 as cases: what each operation comes to, by facts on bounds and live flags and in document 01's order. `case_of` and `comes_to` say
-- that `step` gives each outcome exactly in its case; so a definition that refused too much or too little would fail them.
-- ---- what a slot is: at or above the bound, removed or live
use Rattle.std.specs.Prelude.{ℕ, zero, suc, ◌≤◌, ◌<◌, ◌≡◌, refl, Bool, true, false, List, [], ◌∷◌, map, length, get_or, eqb}
use Rattle.plain.specs.Library.{sym, ap, subst, ◌∙◌, ⊎_elim, none, some, length-map, arith, eq-eqb, ne_eqb, eqb-true, eqb-false, le-leb, lt-leb}
use Rattle.std.proofs.Math.Option
use mathlib.Core.List.{nil≢cons}
use Rattle.std.proofs.Math.ListN.{get_elem?}
use Rattle.plain.specs.declared.TraversalDirection.{TraversalDirection}
use Rattle.plain.specs.declared.EdgePayload.{EdgePayload}
use Rattle.plain.specs.declared.Operation.{Operation}
use Rattle.plain.specs.declared.Operation.TheVariants.{AddNode, AddEdge, RemoveEdge, RemoveNode, Redirect, Move, SetPayload, Unknown}
use Rattle.plain.specs.Plain.{Plain, NodeSlot, EdgeSlot, incidence, with_incidence, node_bound, edge_bound, node_flags, edge_flags, list_of, end_of, moved}
use Rattle.plain.specs.Step.{Capacities, Outcome, changed, unless, slot_fault, node_fault, edge_fault, moving, step}
use Rattle.plain.proofs.Laws.Booleans.{by_test, below_or_not, true_false}
use Rattle.plain.specs.Laws.Cases.{Absent, Case, Live, Removed, Slot, absent, add_edge, add_edge_full, add_edge_inverted, add_edge_source_absent, add_edge_source_removed, add_edge_target_absent, add_edge_target_removed, add_node, add_node_full, live, move, move_new_absent, move_new_removed, move_nothing, move_old_absent, move_onto_itself, redirect, redirect_edge_absent, redirect_edge_removed, redirect_node_absent, redirect_node_removed, redirect_same, remove_edge, remove_edge_absent, remove_edge_removed, remove_node, remove_node_absent, remove_node_removed, removed, set_payload, set_payload_absent, set_payload_inverted, unknown}

pub slot : (flags : List Bool) (x : ℕ) → Slot flags x
slot flags x =
    ⊎_elim (λ l. by_test (get_or flags x false) (λ h. live h) (λ h. removed (record { below = l; dead = h }))) (λ l. absent l)
    (below_or_not x (length flags))

-- the lookup of a slot, as what its flag tells
module _ {A : Type 0} (f : A → Bool) where
  pub flag_absent : (l : List A) (x : ℕ) → Absent (map f l) x → Option.map f (get_elem? l x) ≡ none
  flag_absent [] x h = refl
  flag_absent (a ∷ l) zero h = absurd (omega arith)
  flag_absent (a ∷ l) (suc x) h = flag_absent l x (omega arith)

  pub flag_removed : (l : List A) (x : ℕ) → Removed (map f l) x → Option.map f (get_elem? l x) ≡ some false
  flag_removed [] x h = absurd (let b = h.below in omega arith)
  flag_removed (a ∷ l) zero h = ap some h.dead
  flag_removed (a ∷ l) (suc x) h = flag_removed l x (record { below = let b = h.below in omega arith; dead = h.dead })

  pub flag_live : (l : List A) (x : ℕ) → Live (map f l) x → Option.map f (get_elem? l x) ≡ some true
  flag_live [] x h = true_false refl (sym h)
  flag_live (a ∷ l) zero h = ap some h
  flag_live (a ∷ l) (suc x) h = flag_live l x h

-- the number of a slot's fault
module _ {A : Type 0} (f : A → Bool) (a r : ℕ) (l : List A) (x : ℕ) where
  pub fault_absent : Absent (map f l) x → slot_fault a r (Option.map f (get_elem? l x)) ≡ a
  fault_absent h = rw (flag_absent f l x h)

  pub fault_removed : Removed (map f l) x → slot_fault a r (Option.map f (get_elem? l x)) ≡ r
  fault_removed h = rw (flag_removed f l x h)

  pub fault_live : Live (map f l) x → slot_fault a r (Option.map f (get_elem? l x)) ≡ 0
  fault_live h = rw (flag_live f l x h)

-- below the bound, a slot that may be removed has no fault
pub fault_below : {A : Type 0} (f : A → Bool) (a : ℕ) (l : List A) (x : ℕ) → x < length l → slot_fault a 0 (Option.map f (get_elem? l x)) ≡ 0
fault_below f a l x h = below (slot (map f l) x)
  where
    below : Slot (map f l) x → slot_fault a 0 (Option.map f (get_elem? l x)) ≡ 0
    below (absent k) = absurd (omega (arith, length-map l f))
    below (removed k) = fault_removed f a 0 l x k
    below (live k) = fault_live f a 0 l x k

-- ---- the cases, in document 01's order

-- ---- the theorems

module _ (p : Plain) (x : ℕ) where
  node_absent : Absent (node_flags p) x → node_fault p x ≡ 5
  node_absent h = fault_absent (λ (s : NodeSlot). s.live) 5 6 p.nodes x h

  node_dead : Removed (node_flags p) x → node_fault p x ≡ 6
  node_dead h = fault_removed (λ (s : NodeSlot). s.live) 5 6 p.nodes x h

  node_ok : Live (node_flags p) x → node_fault p x ≡ 0
  node_ok h = fault_live (λ (s : NodeSlot). s.live) 5 6 p.nodes x h

  edge_absent : Absent (edge_flags p) x → edge_fault p x ≡ 7
  edge_absent h = fault_absent (λ (s : EdgeSlot). s.live) 7 8 p.edges x h

  edge_dead : Removed (edge_flags p) x → edge_fault p x ≡ 8
  edge_dead h = fault_removed (λ (s : EdgeSlot). s.live) 7 8 p.edges x h

  edge_ok : Live (edge_flags p) x → edge_fault p x ≡ 0
  edge_ok h = fault_live (λ (s : EdgeSlot). s.live) 7 8 p.edges x h

-- a move of something asks for the new node
moving_some : (d : TraversalDirection) (old new : ℕ) (list : List ℕ) (p : Plain) → (list ≡ [] → ⊥)
    → moving d old new list p ≡ unless (node_fault p new) p (changed (length list) (with_incidence d (moved old new (incidence d p)) p))
moving_some d old new [] p h = absurd (h refl)
moving_some d old new (e ∷ es) p h = refl

-- each case's outcome is the one that `step` gives
pub comes_to : {caps : Capacities} {p : Plain} {operation : Operation} {o : Outcome} → Case caps p operation o → step caps p operation ≡ o
unfolding step
comes_to {caps} {p} (add_node_full h) = rw (le-leb caps.nodes (node_bound p) h)
comes_to {caps} {p} (add_node h) = rw (lt-leb caps.nodes (node_bound p) h)
comes_to (add_edge_inverted {v = v} o) = rw (lt-leb v.low v.high o)
comes_to {p = p} (add_edge_source_absent {s} {v = v} o h) = rw (le-leb v.low v.high o, node_absent p s h)
comes_to {p = p} (add_edge_source_removed {s} {v = v} o h) = rw (le-leb v.low v.high o, node_dead p s h)
comes_to {p = p} (add_edge_target_absent {s} {t} {v} o h k) = rw (le-leb v.low v.high o, node_ok p s h, node_absent p t k)
comes_to {p = p} (add_edge_target_removed {s} {t} {v} o h k) = rw (le-leb v.low v.high o, node_ok p s h, node_dead p t k)
comes_to {caps} {p} (add_edge_full {s} {t} {v} o h k l) =
    rw (le-leb v.low v.high o, node_ok p s h, node_ok p t k, le-leb caps.edges (edge_bound p) l)
comes_to {caps} {p} (add_edge {s} {t} {v} o h k l) =
    rw (le-leb v.low v.high o, node_ok p s h, node_ok p t k, lt-leb caps.edges (edge_bound p) l)
comes_to {p = p} (remove_edge_absent {e} h) = rw (flag_absent (λ (s : EdgeSlot). s.live) p.edges e h)
comes_to {p = p} (remove_edge_removed {e} h) = rw (flag_removed (λ (s : EdgeSlot). s.live) p.edges e h)
comes_to {p = p} (remove_edge {e} h) = rw (flag_live (λ (s : EdgeSlot). s.live) p.edges e h)
comes_to {p = p} (remove_node_absent {x} h) = rw (flag_absent (λ (s : NodeSlot). s.live) p.nodes x h)
comes_to {p = p} (remove_node_removed {x} h) = rw (flag_removed (λ (s : NodeSlot). s.live) p.nodes x h)
comes_to {p = p} (remove_node {x} h) = rw (flag_live (λ (s : NodeSlot). s.live) p.nodes x h)
comes_to {p = p} (redirect_edge_absent {e = e} h) = rw (edge_absent p e h)
comes_to {p = p} (redirect_edge_removed {e = e} h) = rw (edge_dead p e h)
comes_to {p = p} (redirect_node_absent {e = e} {x = x} h k) = rw (edge_ok p e h, node_absent p x k)
comes_to {p = p} (redirect_node_removed {e = e} {x = x} h k) = rw (edge_ok p e h, node_dead p x k)
comes_to {p = p} (redirect_same {d} {e} {x} h k q) = rw (edge_ok p e h, node_ok p x k, eq-eqb (end_of d p e) x q)
comes_to {p = p} (redirect {d} {e} {x} h k q) = rw (edge_ok p e h, node_ok p x k, ne_eqb (end_of d p e) x q)
comes_to {p = p} (move_onto_itself {old = old} {new = new} h) = rw (eq-eqb old new h)
comes_to {p = p} (move_old_absent {old = old} {new = new} h k) = rw (ne_eqb old new h, fault_absent (λ (s : NodeSlot). s.live) 5 0 p.nodes old k)
comes_to {p = p} (move_nothing {d} {old} {new} h k l) = rw (ne_eqb old new h, fault_below (λ (s : NodeSlot). s.live) 5 p.nodes old k, l)
comes_to {p = p} (move_new_absent {d} {old} {new} h k l m) =
    rw (ne_eqb old new h, fault_below (λ (s : NodeSlot). s.live) 5 p.nodes old k, moving_some d old new (list_of d p old) p l, node_absent p new m)
comes_to {p = p} (move_new_removed {d} {old} {new} h k l m) =
    rw (ne_eqb old new h, fault_below (λ (s : NodeSlot). s.live) 5 p.nodes old k, moving_some d old new (list_of d p old) p l, node_dead p new m)
comes_to {p = p} (move {d} {old} {new} h k l m) =
    rw (ne_eqb old new h, fault_below (λ (s : NodeSlot). s.live) 5 p.nodes old k, moving_some d old new (list_of d p old) p l, node_ok p new m)
comes_to (set_payload_inverted {v = v} o) = rw (lt-leb v.low v.high o)
comes_to {p = p} (set_payload_absent {e} {v} o h) = rw (le-leb v.low v.high o, fault_absent (λ (s : EdgeSlot). s.live) 7 0 p.edges e h)
comes_to {p = p} (set_payload {e} {v} o h) = rw (le-leb v.low v.high o, fault_below (λ (s : EdgeSlot). s.live) 7 p.edges e h)
comes_to unknown = refl

-- an outcome's case is a case of `step`
settled : {caps : Capacities} {p : Plain} {operation : Operation} {o : Outcome} → Case caps p operation o → Case caps p operation (step caps p operation)
settled {caps} {p} {operation} c = subst (λ (o : Outcome). Case caps p operation o) (sym (comes_to c)) c

module _ (caps : Capacities) (p : Plain) where
  add_edge_case : (s t : ℕ) (v : EdgePayload) → v.low ≤ v.high → Slot (node_flags p) s → Slot (node_flags p) t
      → Case caps p (AddEdge s t v) (step caps p (AddEdge s t v))
  add_edge_case s t v o (absent h) k = settled (add_edge_source_absent o h)
  add_edge_case s t v o (removed h) k = settled (add_edge_source_removed o h)
  add_edge_case s t v o (live h) (absent k) = settled (add_edge_target_absent o h k)
  add_edge_case s t v o (live h) (removed k) = settled (add_edge_target_removed o h k)
  add_edge_case s t v o (live h) (live k) =
      ⊎_elim (λ l. settled (add_edge o h k l)) (λ l. settled (add_edge_full o h k l)) (below_or_not (edge_bound p) caps.edges)

  remove_edge_case : (e : ℕ) → Slot (edge_flags p) e → Case caps p (RemoveEdge e) (step caps p (RemoveEdge e))
  remove_edge_case e (absent h) = settled (remove_edge_absent h)
  remove_edge_case e (removed h) = settled (remove_edge_removed h)
  remove_edge_case e (live h) = settled (remove_edge h)

  remove_node_case : (x : ℕ) → Slot (node_flags p) x → Case caps p (RemoveNode x) (step caps p (RemoveNode x))
  remove_node_case x (absent h) = settled (remove_node_absent h)
  remove_node_case x (removed h) = settled (remove_node_removed h)
  remove_node_case x (live h) = settled (remove_node h)

  redirect_case : (d : TraversalDirection) (e x : ℕ) → Slot (edge_flags p) e → Slot (node_flags p) x → Case caps p (Redirect d e x) (step caps p (Redirect d e x))
  redirect_case d e x (absent h) k = settled (redirect_edge_absent h)
  redirect_case d e x (removed h) k = settled (redirect_edge_removed h)
  redirect_case d e x (live h) (absent k) = settled (redirect_node_absent h k)
  redirect_case d e x (live h) (removed k) = settled (redirect_node_removed h k)
  redirect_case d e x (live h) (live k) =
      by_test (eqb (end_of d p e) x) (λ q. settled (redirect_same h k (eqb-true (end_of d p e) x q))) (λ q. settled (redirect h k (eqb-false (end_of d p e) x q)))

  move_case : (d : TraversalDirection) (old new : ℕ) → (old ≡ new → ⊥) → old < node_bound p → (list : List ℕ) → list_of d p old ≡ list → Slot (node_flags p) new
      → Case caps p (Move d old new) (step caps p (Move d old new))
  move_case d old new h k [] l m = settled (move_nothing h k l)
  move_case d old new h k (e ∷ es) l (absent m) = settled (move_new_absent h k (λ q. nil≢cons (sym q ∙ l)) m)
  move_case d old new h k (e ∷ es) l (removed m) = settled (move_new_removed h k (λ q. nil≢cons (sym q ∙ l)) m)
  move_case d old new h k (e ∷ es) l (live m) = settled (move h k (λ q. nil≢cons (sym q ∙ l)) m)

  -- every operation is in a case, with the outcome that `step` gives it
  pub case_of : (operation : Operation) → Case caps p operation (step caps p operation)
  case_of (AddNode v) = ⊎_elim (λ l. settled (add_node l)) (λ l. settled (add_node_full l)) (below_or_not (node_bound p) caps.nodes)
  case_of (AddEdge s t v) =
      ⊎_elim (λ o. settled (add_edge_inverted o)) (λ o. add_edge_case s t v o (slot (node_flags p) s) (slot (node_flags p) t)) (below_or_not v.high v.low)
  case_of (RemoveEdge e) = remove_edge_case e (slot (edge_flags p) e)
  case_of (RemoveNode x) = remove_node_case x (slot (node_flags p) x)
  case_of (Redirect d e x) = redirect_case d e x (slot (edge_flags p) e) (slot (node_flags p) x)
  case_of (Move d old new) =
      by_test (eqb old new) (λ q. settled (move_onto_itself (eqb-true old new q)))
      (λ q. ⊎_elim (λ l. move_case d old new (eqb-false old new q) l (list_of d p old) refl (slot (node_flags p) new))
      (λ l. settled (move_old_absent (eqb-false old new q) (rw (length-map p.nodes (λ (s : NodeSlot). s.live)) l))) (below_or_not old (node_bound p)))
  case_of (SetPayload e v) =
      ⊎_elim (λ o. settled (set_payload_inverted o))
      (λ o. ⊎_elim (λ l. settled (set_payload o l)) (λ l. settled (set_payload_absent o (rw (length-map p.edges (λ (s : EdgeSlot). s.live)) l)))
      (below_or_not e (edge_bound p))) (below_or_not v.high v.low)
  case_of Unknown = settled unknown
