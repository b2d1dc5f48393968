-- The walks of all nodes, one after the other: what the nodes from one on decide, and that the edges marked are those that the walks before have listed.
use Rattle.std.specs.Prelude.{ℕ, ◌+◌, ◌≤◌, ◌<◌, ◌≡◌, Bool, true, false, ◌&&◌, ◌||◌, not, List, length, get_or, eqb, ltb}
use Rattle.plain.specs.Library.{sym, ap, ◌∙◌, arith, eqb-true, eqb-false, lt-ltb, le-ltb, ltb-true}
use Rattle.plain.specs.declared.Counts.{Counts}
use Rattle.plain.specs.Lists.{member, distinct, all, from}
use Rattle.plain.proofs.Laws.Booleans.{by_test, same_truth, and_left, and_right, both_true, and_true, and_false, or_true, or_false}
use Rattle.plain.proofs.Laws.ListLaws.{all_of, all_member}
use Rattle.liveness.specs.Flags.{live_flags}
use Rattle.liveness.specs.Laws.Flags.{flag_at}
use Rattle.shape.specs.Columns.{end_at}
use Rattle.adjacency.specs.Walk.{walk_in}
use Rattle.validate_words.specs.Laws.Passing.{slots_agree, rest, rest_first, rest_more, rest_fails, rest_none}
use Rattle.marks.specs.Marks.{marked, fresh, passes, Followed}
use Rattle.validate_lists.specs.Walks.{marked_if_live, node_walk, walk_test, listed_test, walks_test}

module _ (ws : List ℕ) (ce cn : ℕ) (counts : Counts) (live_nodes live_edges : List ℕ) where
  abbrev walk : ℕ → List ℕ
  walk = node_walk ws ce cn counts live_nodes live_edges

  abbrev test : ℕ → Bool
  test = walk_test ws ce cn counts live_nodes live_edges

  abbrev own : ℕ → ℕ → Bool
  own x e = eqb (end_at ws e) x

  -- The walks of the nodes before x are right, and their entries are marked.
  pub record Walking (x : ℕ) (seen : List ℕ) : Type 0 where
    pub answers : all test (from 0 counts.nodes.bound) ≡ rest test x counts.nodes.bound
    pub marks : (e : ℕ) → marked seen e ≡ (ltb (end_at ws e) x && member e (walk (end_at ws e)))
    pub long : length seen ≡ 512

  -- at the first node nothing is marked
  pub walking_start : (seen : List ℕ) → ((e : ℕ) → marked seen e ≡ false) → length seen ≡ 512 → Walking 0 seen
  walking_start seen clear long = record {
    answers = rest_first test counts.nodes.bound;
    marks = λ e. clear e ∙ sym (rw (le-ltb (end_at ws e) 0 (omega arith)));
    long = long;
  }

  module _ {x : ℕ} {seen : List ℕ} (w : Walking x seen) where
    -- an edge of the node is not marked yet
    unmarked : (e : ℕ) → end_at ws e ≡ x → marked seen e ≡ false
    unmarked e q = w.marks e ∙ rw (le-ltb (end_at ws e) x (omega arith))

    -- so the walk is right where its entries pass
    passes_walk : passes (own x) (marked seen) (walk x) ≡ test x
    unfolding passes fresh walk_test
    passes_walk =
        let a = all (own x) (walk x) in
        let d = distinct (walk x) in
        let u = all (λ e. not (marked seen e)) (walk x) in
        same_truth (a && (d && u)) (d && a) (λ h. both_true (and_left d u (and_right a (d && u) h)) (and_left a (d && u) h))
        (λ h. both_true (and_right d a h)
        (both_true (and_left d a h)
        (all_of (λ e. not (marked seen e)) (walk x)
        (λ e m. ap not (unmarked e (eqb-true (end_at ws e) x (all_member (own x) (walk x) (and_right d a h) e m)))))))

    module _ {live answer : Bool} {exit : List ℕ} (flag : live ≡ get_or (live_flags live_nodes counts.nodes.bound) x false)
        (f : Followed (own x) true (walk_in ws ce cn counts live_edges x live) seen answer exit) where
      -- the walk that was followed is the node's
      same : walk_in ws ce cn counts live_edges x live ≡ walk x
      unfolding node_walk
      same = rw flag

      -- the answer is the test
      answer_test : answer ≡ test x
      answer_test = f.answers ∙ and_true (passes (own x) (marked seen) (walk_in ws ce cn counts live_edges x live)) ∙ ap (passes (own x) (marked seen)) same ∙ passes_walk

      -- the node's walk is right
      pub walking_on : x < counts.nodes.bound → answer ≡ true → length exit ≡ length seen → Walking (x + 1) exit
      unfolding walk_test
      walking_on l h long = record {
        answers = w.answers ∙ rest_more test x counts.nodes.bound l right;
        marks = λ e. by_test (member e (walk x)) (λ m. listed e m) (λ m. other e m);
        long = long ∙ w.long;
      }
        where
          right : test x ≡ true
          right = sym answer_test ∙ h

          now_marked : (e : ℕ) → marked exit e ≡ (marked seen e || member e (walk x))
          now_marked e = f.marks h e ∙ ap (λ (r : List ℕ). marked seen e || member e r) same

          listed : (e : ℕ) → member e (walk x) ≡ true → marked exit e ≡ (ltb (end_at ws e) (x + 1) && member e (walk (end_at ws e)))
          listed e m =
              let at : end_at ws e ≡ x = eqb-true (end_at ws e) x (all_member (own x) (walk x) (and_right (distinct (walk x)) (all (own x) (walk x)) right) e m) in
              now_marked e ∙ rw (m, or_true (marked seen e))
              (sym (both_true (lt-ltb (end_at ws e) (x + 1) (omega arith)) (ap (λ (y : ℕ). member e (walk y)) at ∙ m)))

          other : (e : ℕ) → member e (walk x) ≡ false → marked exit e ≡ (ltb (end_at ws e) (x + 1) && member e (walk (end_at ws e)))
          other e m =
              now_marked e ∙ rw (m, or_false (marked seen e))
              (by_test (eqb (end_at ws e) x)
              (λ q. let at = eqb-true (end_at ws e) x q in unmarked e at ∙ sym (rw (at, m, and_false (ltb x (x + 1)))))
              (λ q. let away = eqb-false (end_at ws e) x q in
              w.marks e ∙ ap (λ (b : Bool). b && member e (walk (end_at ws e)))
              (same_truth (ltb (end_at ws e) x) (ltb (end_at ws e) (x + 1)) (λ k. let t = ltb-true (end_at ws e) x k in lt-ltb (end_at ws e) (x + 1) (omega arith))
              (λ k. let t = ltb-true (end_at ws e) (x + 1) k in lt-ltb (end_at ws e) x (omega arith)))))

      -- it is not
      pub walking_fails : x < counts.nodes.bound → answer ≡ false → false ≡ walks_test ws ce cn counts live_nodes live_edges
      unfolding walks_test
      walking_fails l h = rw (w.answers ∙ rest_fails test x counts.nodes.bound l (sym answer_test ∙ h))

    -- a removed node's walk is empty
    dead_walk : (y e : ℕ) → (member e (walk y) && get_or (live_flags live_nodes counts.nodes.bound) y false) ≡ member e (walk y)
    unfolding node_walk member
    dead_walk y e =
        by_test (get_or (live_flags live_nodes counts.nodes.bound) y false)
        (λ q. rw q (and_true (member e (walk_in ws ce cn counts live_edges y true)))) (λ q. rw q)

    -- after the last node the marks decide
    pub walking_done : counts.nodes.bound ≤ x → ((e : ℕ) → e < counts.edges.bound → end_at ws e < counts.nodes.bound)
        → all (marked_if_live (live_flags live_edges counts.edges.bound) (live_flags seen counts.edges.bound)) (from 0 counts.edges.bound)
        ≡ walks_test ws ce cn counts live_nodes live_edges
    unfolding walks_test listed_test marked_if_live
    walking_done l below =
        let eb = counts.edges.bound in
        rw (w.answers ∙ rest_none test x counts.nodes.bound l)
        (slots_agree (marked_if_live (live_flags live_edges eb) (live_flags seen eb)) (listed_test ws ce cn counts live_nodes live_edges) eb
        (λ e k. let b = below e k in
        ap (λ (m : Bool). not (get_or (live_flags live_edges eb) e false) || m)
        (flag_at seen eb e k ∙ w.marks e ∙ rw (lt-ltb (end_at ws e) x (omega arith)) (sym (dead_walk (end_at ws e) e)))))
