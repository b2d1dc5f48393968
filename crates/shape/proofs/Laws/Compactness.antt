-- Whether the shape is compact after an operation: as the compact flag beside the plain lists says.
use Rattle.std.specs.Prelude.{ℕ, zero, suc, ◌<◌, ◌≡◌, refl, Bool, true, false, cond, ◌&&◌, not, List, [], ◌∷◌, ◌++◌, length, get_or, set, eqb}
use Rattle.plain.specs.Library.{sym, ap, ◌∙◌, length-set, length-map, length-append, get_or-set_same, arith, eq-eqb, ne_eqb}
use Rattle.std.proofs.Math.Seq.{map-set_same}
use Rattle.plain.specs.declared.TraversalDirection.{TraversalDirection}
use Rattle.plain.specs.declared.TraversalDirection.TheVariants.{Outgoing, Incoming}
use Rattle.plain.specs.declared.EdgePayload.{EdgePayload}
use Rattle.plain.specs.declared.Operation.{Operation}
use Rattle.plain.specs.declared.Operation.TheVariants.{AddNode, AddEdge, RemoveEdge, RemoveNode, Redirect, Move, SetPayload, Unknown}
use Rattle.plain.specs.Lists.{without, all}
use Rattle.plain.specs.Plain.{NodeSlot, EdgeSlot, killed_node, killed_edge, no_node, no_edge, list_of, end_of}
use Rattle.plain.specs.Step.{Capacities, Outcome, step}
use Rattle.plain.proofs.Laws.Booleans.{by_test, and_false, and_true}
use Rattle.plain.proofs.Laws.Deleting.{map_set}
use Rattle.plain.proofs.Laws.Rank.{live_below}
use Rattle.plain.specs.Laws.Cases.{Case, add_node_full, add_node, add_edge_inverted, add_edge_source_absent, add_edge_source_removed, add_edge_target_absent, add_edge_target_removed, add_edge_full, add_edge, remove_edge_absent, remove_edge_removed, remove_edge, remove_node_absent, remove_node_removed, remove_node, redirect_edge_absent, redirect_edge_removed, redirect_node_absent, redirect_node_removed, redirect_same, redirect, move_onto_itself, move_old_absent, move_nothing, move_new_absent, move_new_removed, move, set_payload_inverted, set_payload_absent, set_payload, unknown}
use Rattle.plain.proofs.Laws.Cases.{case_of}
use Rattle.shape.specs.Shape.{Axis, Shape, no_adjacency, axis_in, adjacency_of, node_flags_of, edge_flags_of, has_run, is_compact, plain_of}
use Rattle.shape.specs.Steps.{live_entries, taken, swept, with_run, redirected_axis, moved_axis, with_axis, retired, walk_in, acted, acts, shape_step}
use Rattle.shape.specs.Laws.Refining.{Proper}
use Rattle.shape.proofs.Laws.Refining.{live_node_below}
use Rattle.shape.proofs.Laws.Stepping.{length_some}
use Rattle.shape.proofs.Laws.Keeping.{retired_length}
use Rattle.shape.specs.Laws.Compactness.{Based}

-- a test that one element fails, all do not pass
not_all : {A : Type 0} (test : A → Bool) (l : List A) (x : ℕ) (d : A) → x < length l → test (get_or l x d) ≡ false → all test l ≡ false
unfolding all
not_all test [] x d h k = absurd (omega arith)
not_all test (a ∷ l) zero d h k = rw k
not_all test (a ∷ l) (suc x) d h k = rw (not_all test l x d (omega arith) k, and_false (test a))

-- ---- what makes a shape not compact

module _ (s : Shape) where
  -- a node of the delta
  delta_node : (s.base_nodes ≡ length s.nodes → ⊥) → is_compact s ≡ false
  unfolding is_compact
  delta_node h = rw (ne_eqb s.base_nodes (length s.nodes) h)

  -- an edge of the delta
  delta_edge : (s.base_edges ≡ length s.edges → ⊥) → is_compact s ≡ false
  unfolding is_compact
  delta_edge h = rw (ne_eqb s.base_edges (length s.edges) h, and_false (eqb s.base_nodes (length s.nodes)))

  -- a removed node
  dead_node : (x : ℕ) → x < length s.nodes → get_or (node_flags_of s) x false ≡ false → is_compact s ≡ false
  unfolding is_compact
  dead_node x l h = simp (not_all (λ f. f) (node_flags_of s) x false (rw (length-map s.nodes (λ (n : NodeSlot). n.live)) l) h, and_false)

  -- a removed edge
  dead_edge : (e : ℕ) → e < length s.edges → get_or (edge_flags_of s) e false ≡ false → is_compact s ≡ false
  unfolding is_compact
  dead_edge e l h = simp (not_all (λ f. f) (edge_flags_of s) e false (rw (length-map s.edges (λ (e : EdgeSlot). e.live)) l) h, and_false)

  -- a run
  a_run : (d : TraversalDirection) (x : ℕ) → x < length (axis_in d s).nodes → has_run (adjacency_of d s x) ≡ true → is_compact s ≡ false
  unfolding is_compact
  a_run Outgoing x l h = simp (not_all (λ a. not (has_run a)) s.outgoing.nodes x no_adjacency l (rw h), and_false)
  a_run Incoming x l h = simp (not_all (λ a. not (has_run a)) s.incoming.nodes x no_adjacency l (rw h), and_false)

-- ---- after an operation

-- the direction that is put in place
axis_in_place : (d : TraversalDirection) (axis : Axis) (s : Shape) → axis_in d (with_axis d axis s) ≡ axis
axis_in_place Outgoing axis s = refl
axis_in_place Incoming axis s = refl

module _ {caps : Capacities} {s : Shape} (h : Proper caps s) (b : Based s) where
  node_added_compact : (v : ℕ) → is_compact (acted (AddNode v) s) ≡ false
  unfolding acted
  node_added_compact v =
      delta_node (acted (AddNode v) s) (λ q. let n = length-append s.nodes (record { payload = v; live = true } ∷ []) in let w = b.nodes_within in omega arith)

  edge_added_compact : (x y : ℕ) (v : EdgePayload) → is_compact (acted (AddEdge x y v) s) ≡ false
  unfolding acted
  edge_added_compact x y v =
      delta_edge (acted (AddEdge x y v) s) (λ q. let n = length-append s.edges (record { payload = v; live = true } ∷ []) in let w = b.edges_within in omega arith)

  edge_removed_compact : (e : ℕ) → get_or (edge_flags_of s) e false ≡ true → is_compact (acted (RemoveEdge e) s) ≡ false
  unfolding acted retired
  edge_removed_compact e live =
      let slot = killed_edge (get_or s.edges e no_edge) in
      let low : e < length s.edges = omega (arith, live_below (edge_flags_of s) e live, length-map s.edges (λ (e : EdgeSlot). e.live)) in
      dead_edge (acted (RemoveEdge e) s) e (rw (length-set s.edges e slot) low)
      (rw (map_set (λ (e : EdgeSlot). e.live) s.edges e slot) (get_or-set_same (edge_flags_of s) e false false (live_below (edge_flags_of s) e live)))

  node_removed_compact : (x : ℕ) → get_or (node_flags_of s) x false ≡ true → is_compact (acted (RemoveNode x) s) ≡ false
  unfolding acted
  node_removed_compact x live =
      let slot = killed_node (get_or s.nodes x no_node) in
      let low : x < length s.nodes = omega (arith, live_below (node_flags_of s) x live, length-map s.nodes (λ (n : NodeSlot). n.live)) in
      dead_node (acted (RemoveNode x) s) x (rw (length-set s.nodes x slot) low)
      (rw (map_set (λ (n : NodeSlot). n.live) s.nodes x slot) (get_or-set_same (node_flags_of s) x false false (live_below (node_flags_of s) x live)))

  -- a direction in which node x, below the bound, has a run
  run_compact : (d : TraversalDirection) (axis : Axis) (x : ℕ) → x < length axis.nodes → has_run (get_or axis.nodes x no_adjacency) ≡ true
      → is_compact (with_axis d axis s) ≡ false
  run_compact d axis x low run = a_run (with_axis d axis s) d x (rw (axis_in_place d axis s) low) (rw (axis_in_place d axis s) run)

  redirected_compact : (d : TraversalDirection) (e new : ℕ) → get_or (node_flags_of s) new false ≡ true → is_compact (acted (Redirect d e new) s) ≡ false
  unfolding acted redirected_axis
  redirected_compact d e new live =
      let flags = edge_flags_of s in
      let old = get_or (axis_in d s).ends e 0 in
      let a = with_run (without e (swept flags (taken flags (adjacency_of d s old)))) (adjacency_of d s old) in
      let c = with_run (swept flags (taken flags (adjacency_of d s new)) ++ (e ∷ [])) (adjacency_of d s new) in
      let low : new < length (set (axis_in d s).nodes old a) = rw (length-set (axis_in d s).nodes old a) (live_node_below h d new live) in
      run_compact d (redirected_axis flags e new (axis_in d s)) new (rw (length-set (set (axis_in d s).nodes old a) new c) low)
      (ap has_run (get_or-set_same (set (axis_in d s).nodes old a) new c no_adjacency low))

  moved_compact : (d : TraversalDirection) (old new : ℕ) → get_or (node_flags_of s) new false ≡ true → is_compact (acted (Move d old new) s) ≡ false
  unfolding acted moved_axis
  moved_compact d old new live =
      let flags = edge_flags_of s in
      let a = with_run [] (adjacency_of d s old) in
      let c = with_run (swept flags (taken flags (adjacency_of d s new)) ++ live_entries flags (taken flags (adjacency_of d s old))) (adjacency_of d s new) in
      let low : new < length (set (axis_in d s).nodes old a) = rw (length-set (axis_in d s).nodes old a) (live_node_below h d new live) in
      run_compact d (moved_axis flags old new (axis_in d s)) new (rw (length-set (set (axis_in d s).nodes old a) new c) low)
      (ap has_run (get_or-set_same (set (axis_in d s).nodes old a) new c no_adjacency low))

  payload_set_compact : (e : ℕ) (v : EdgePayload) → is_compact (acted (SetPayload e v) s) ≡ is_compact s
  unfolding acted is_compact
  payload_set_compact e v =
      let slot : EdgeSlot = record { payload = v; live = (get_or s.edges e no_edge).live } in
      rw (length-set s.edges e slot, map-set_same (λ (e : EdgeSlot). e.live) s.edges e slot no_edge refl)

  kept : is_compact s ≡ (is_compact s && true)
  kept = sym (and_true (is_compact s))

  lost : {compact : Bool} → compact ≡ false → compact ≡ (is_compact s && false)
  lost e = e ∙ sym (and_false (is_compact s))

  case_compact : {operation : Operation} {o : Outcome} → Case caps (plain_of s) operation o
      → is_compact (cond (acts operation o) (acted operation s) s) ≡ (is_compact s && o.keeps_compact)
  unfolding plain_of
  case_compact (add_node_full k) = kept
  case_compact (add_node {v} k) = lost (node_added_compact v)
  case_compact (add_edge_inverted o) = kept
  case_compact (add_edge_source_absent o k) = kept
  case_compact (add_edge_source_removed o k) = kept
  case_compact (add_edge_target_absent o k l) = kept
  case_compact (add_edge_target_removed o k l) = kept
  case_compact (add_edge_full o k l m) = kept
  case_compact (add_edge {s = x} {t = y} {v} o k l m) = lost (edge_added_compact x y v)
  case_compact (remove_edge_absent k) = kept
  case_compact (remove_edge_removed k) = kept
  case_compact (remove_edge {e} k) = lost (edge_removed_compact e k)
  case_compact (remove_node_absent k) = kept
  case_compact (remove_node_removed k) = kept
  case_compact (remove_node {x} k) = lost (node_removed_compact x k)
  case_compact (redirect_edge_absent k) = kept
  case_compact (redirect_edge_removed k) = kept
  case_compact (redirect_node_absent k l) = kept
  case_compact (redirect_node_removed k l) = kept
  case_compact (redirect_same {d} {e} {x} k l m) = rw (eq-eqb (end_of d (plain_of s) e) x m) kept
  case_compact (redirect {d} {e} {x} k l m) = rw (ne_eqb (end_of d (plain_of s) e) x m) (lost (redirected_compact d e x l))
  case_compact (move_onto_itself k) = kept
  case_compact (move_old_absent k l) = kept
  case_compact (move_nothing k l m) = kept
  case_compact (move_new_absent k l m n) = kept
  case_compact (move_new_removed k l m n) = kept
  case_compact (move {d} {old} {new} k l m n) =
      rw (ne_eqb (length (list_of d (plain_of s) old)) 0 (length_some (list_of d (plain_of s) old) m)) (lost (moved_compact d old new n))
  case_compact (set_payload_inverted o) = kept
  case_compact (set_payload_absent o k) = kept
  case_compact (set_payload {e} {v} o k) = payload_set_compact e v ∙ kept
  case_compact unknown = kept

  -- whether the shape is compact after an operation is what the flag says
  pub step_compact : (operation : Operation) → is_compact (shape_step caps s operation) ≡ (is_compact s && (step caps (plain_of s) operation).keeps_compact)
  unfolding shape_step
  step_compact operation = case_compact (case_of caps (plain_of s) operation)

-- an operation's own change keeps the base within the bounds
based_acted : {s : Shape} → Based s → (operation : Operation) → Based (acted operation s)
unfolding acted
based_acted {s} b (AddNode v) = record {
  nodes_within = rw (length-append s.nodes (record { payload = v; live = true } ∷ [])) (let w = b.nodes_within in omega arith);
  edges_within = b.edges_within;
}
based_acted {s} b (AddEdge x y v) = record {
  nodes_within = b.nodes_within;
  edges_within = rw (length-append s.edges (record { payload = v; live = true } ∷ [])) (let w = b.edges_within in omega arith);
}
based_acted {s} b (RemoveEdge e) = record { nodes_within = b.nodes_within; edges_within = rw (retired_length (e ∷ []) s.edges) b.edges_within }
based_acted {s} b (RemoveNode x) = record {
  nodes_within = rw (length-set s.nodes x (killed_node (get_or s.nodes x no_node))) b.nodes_within;
  edges_within = rw (retired_length (walk_in Outgoing s x ++ walk_in Incoming s x) s.edges) b.edges_within;
}
based_acted {s} b (Redirect Outgoing e new) = record { nodes_within = b.nodes_within; edges_within = b.edges_within }
based_acted {s} b (Redirect Incoming e new) = record { nodes_within = b.nodes_within; edges_within = b.edges_within }
based_acted {s} b (Move Outgoing old new) = record { nodes_within = b.nodes_within; edges_within = b.edges_within }
based_acted {s} b (Move Incoming old new) = record { nodes_within = b.nodes_within; edges_within = b.edges_within }
based_acted {s} b (SetPayload e v) = record {
  nodes_within = b.nodes_within;
  edges_within = rw (length-set s.edges e (record { payload = v; live = (get_or s.edges e no_edge).live })) b.edges_within;
}
based_acted b Unknown = b

-- the base stays within the bounds
pub step_based : (caps : Capacities) {s : Shape} → Based s → (operation : Operation) → Based (shape_step caps s operation)
unfolding shape_step
step_based caps {s} b operation =
    by_test (acts operation (step caps (plain_of s) operation)) (λ a. rw a (based_acted b operation)) (λ a. rw a b)
