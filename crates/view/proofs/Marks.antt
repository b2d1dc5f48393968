-- Whether a checked store is compact, by its counts and the marks of its runs.
use Rattle.std.specs.Prelude.{ℕ, suc, ◌+◌, ◌≡◌, refl, Bool, true, false, ◌&&◌, not, List, [], ◌∷◌, map, length, eqb, ltb}
use Rattle.plain.specs.Library.{sym, ap, ◌∙◌, arith, eqb-true, eqb-false, lt-ltb, le-ltb}
use Rattle.plain.specs.declared.TraversalDirection.TheVariants.{Outgoing, Incoming}
use Rattle.plain.specs.declared.Counts.{Counts}
use Rattle.plain.specs.Lists.{all, from, count}
use Rattle.plain.specs.Reads.{live_count}
use Rattle.plain.proofs.Laws.Booleans.{by_test, eqb_same, refuted}
use Rattle.plain.proofs.Laws.ListLaws.{count_length}
use Rattle.liveness.specs.Laws.Flags.{length_flags}
use Rattle.shape.specs.Columns.{mark_at}
use Rattle.shape.specs.Shape.{Words, node_capacity, edge_capacity, adjacency_in, axis_of, run_of, has_run, shape_of, is_compact}
use Rattle.shape.specs.Checked.{Checked}
use Rattle.shape.proofs.Laws.Reading.{node_bound_is, edge_bound_is, node_flags_are, edge_flags_are, axis_is}
use Rattle.validate_words.specs.Laws.Passing.{slots_agree}
use Rattle.view.specs.Compact.{unmarked}

-- ---- flags: all are live where as many are live as there are

all_live : (flags : List Bool) → all (λ f. f) flags ≡ eqb (live_count flags) (length flags)
unfolding all count
all_live [] = refl
all_live (true ∷ flags) =
    all_live flags ∙ eqb_same (live_count flags) (length flags) (1 + live_count flags) (suc (length flags)) (λ h. omega arith) (λ h. omega arith)
all_live (false ∷ flags) = sym (refuted (eqb (0 + live_count flags) (suc (length flags))) (λ h. never (eqb-true (0 + live_count flags) (suc (length flags)) h)))
  where
    never : 0 + live_count flags ≡ suc (length flags) → ⊥
    never h = omega (arith, count_length (λ (f : Bool). f) flags)

-- ---- runs: a node has one where its mark is not 0

all_map : {A : Type 0} (test : A → Bool) (f : ℕ → A) (l : List ℕ) → all test (map f l) ≡ all (λ x. test (f x)) l
unfolding all
all_map test f [] = refl
all_map test f (x ∷ l) = ap (λ (b : Bool). test (f x) && b) (all_map test f l)

module _ (ws : List ℕ) (ce cn : ℕ) (counts : Counts) where
  no_run : (x : ℕ) → not (has_run (adjacency_in ws ce cn counts x)) ≡ ltb (mark_at ws ce cn x) 1
  unfolding run_of
  no_run x =
      by_test (eqb (mark_at ws ce cn x) 0)
      (λ q. let z = eqb-true (mark_at ws ce cn x) 0 q in rw q (sym (lt-ltb (mark_at ws ce cn x) 1 (omega arith))))
      (λ q. let some = eqb-false (mark_at ws ce cn x) 0 q in rw q (sym (le-ltb (mark_at ws ce cn x) 1 (omega arith))))

  no_runs : all (λ a. not (has_run a)) (axis_of ws ce cn counts).nodes ≡ unmarked ws ce cn counts.nodes.bound
  unfolding axis_of
  no_runs =
      all_map (λ a. not (has_run a)) (adjacency_in ws ce cn counts) (from 0 counts.nodes.bound)
      ∙ slots_agree (λ x. not (has_run (adjacency_in ws ce cn counts x))) (λ x. ltb (mark_at ws ce cn x) 1) counts.nodes.bound (λ x l. no_run x)

-- ---- the base counts

base_nodes_are : (w : Words) → (shape_of w).base_nodes ≡ w.counts.nodes.base
unfolding shape_of
base_nodes_are w = refl

base_edges_are : (w : Words) → (shape_of w).base_edges ≡ w.counts.edges.base
unfolding shape_of
base_edges_are w = refl

-- ---- all of it

module _ {w : Words} (k : Checked w) where
  pub compact_parts : is_compact (shape_of w)
      ≡ (eqb w.counts.nodes.base w.counts.nodes.bound && (eqb w.counts.edges.base w.counts.edges.bound
      && (eqb w.counts.nodes.live w.counts.nodes.bound && (eqb w.counts.edges.live w.counts.edges.bound
      && (unmarked w.outgoing (edge_capacity w) (node_capacity w) w.counts.nodes.bound
      && unmarked w.incoming (edge_capacity w) (node_capacity w) w.counts.nodes.bound)))))
  unfolding is_compact
  compact_parts =
      rw (
        base_nodes_are w,
        base_edges_are w,
        node_bound_is w,
        edge_bound_is w,
        node_flags_are w,
        edge_flags_are w,
        all_live,
        all_live,
        length_flags,
        length_flags,
        ← k.nodes.live.live_right,
        ← k.edges.live.live_right,
        axis_is w Outgoing,
        axis_is w Incoming,
        no_runs,
        no_runs,
      )
