-- The lists of all nodes: that rules 6 and 7 hold where the three passes of the quick test have found nothing wrong, every
-- live edge is marked and the end of every live edge is live.
--
-- The argument. A node's list is its run or its base part, and its ring behind that. With a run, the first pass has seen that no entry comes twice and that each ends at
-- the node; without one, the second has seen the same of the base part, and rule 5 of the ring, which has edges of the delta alone. So every list holds edges of its
-- node, none twice, and of runs none is in two. What is marked is in the list of its end: an entry of a run or of the ring behind it, a shown entry of the compressed
-- index, or what a shown edge of the delta is linked to. So every live edge is in the list of its end.
use Rattle.std.specs.Prelude.{ℕ, zero, suc, ◌+◌, ◌*◌, ◌≤◌, ◌<◌, ◌≡◌, refl, Bool, true, false, ◌||◌, not, List, [], ◌∷◌, ◌++◌, length, get_or, replicate, eqb, ltb}
use Rattle.plain.specs.Library.{sym, ap, ◌∙◌, inl, inr, ⊎_elim, length-replicate, arith, eq-eqb, eqb-true, ne_eqb, ltb-true}
use Rattle.plain.specs.Numbers.{LIMIT}
use Rattle.plain.specs.declared.Counts.{Counts}
use Rattle.plain.specs.Lists.{member, distinct, all, from, keep, count}
use Rattle.plain.proofs.Laws.Booleans.{by_test, true_false, refuted, and_left, both_true, or_other, or_true}
use Rattle.plain.proofs.Laws.ListLaws.{member_append, member_keep, distinct_append, distinct_left, distinct_keep, all_of, all_member, count_length}
use Rattle.liveness.specs.Flags.{live_flags}
use Rattle.liveness.specs.Laws.Flags.{length_flags, flag_at}
use Rattle.shape.specs.Columns.{cell, end_at, tail_at, mark_at}
use Rattle.shape.specs.Chains.{In}
use Rattle.shape.specs.Shape.{adjacency_in, base_of, run_of, run_list, ring_of, raw, live_in}
use Rattle.shape.specs.Checked.{LiveRight}
use Rattle.shape.specs.Rules.{last_of, runs_right}
use Rattle.shape.proofs.Laws.Chains.{in_none, in_front, ring_once, ring_least}
use Rattle.shape.proofs.Laws.Frames.{run_list_unmarked}
use Rattle.shape.proofs.Laws.Checking.{all_below, below_all, run_sound, runs_complete}
use Rattle.marks.specs.Marks.{marked, Adds}
use Rattle.validate_lists.specs.Runs.{taken, RunsReadable, MapClear, RunsOnce}
use Rattle.validate.specs.Flat.{base_entries, delta_links, BaseFlat, DeltaFlat, ListsOnce, FlatReadable, ListsReadable}
use Rattle.validate_lists.specs.Walks.{marked_if_live, node_walk, walk_test, listed_test, walks_test}
use Rattle.validate.proofs.Flattening.{base_own, base_once, base_low, base_there, entry_shown, link_there, link_shown}

-- what following the runs asks of what rules 1 to 5 establish, and of a pass
pub lists_runs : {ws : List ℕ} {ce cn : ℕ} {counts : Counts} {live_nodes live_edges : List ℕ} → ListsReadable ws ce cn counts live_nodes live_edges
    → RunsReadable ws ce cn counts live_nodes live_edges
lists_runs r = record { axis = r.axis; nodes_long = r.nodes_long; edges_long = r.edges_long }

pub flat_clear : {ws : List ℕ} {ce cn : ℕ} {counts : Counts} {runless : Bool} {seen : List ℕ} → FlatReadable ws ce cn counts runless seen → ((e : ℕ) → marked seen e ≡ false) → MapClear seen
flat_clear r clear = record { marks_long = r.marks_long; clear = clear }

-- the three passes
pub all_once : {ws : List ℕ} {ce cn : ℕ} {counts : Counts} {a b c : List ℕ} → RunsOnce ws ce cn counts a → BaseFlat ws ce cn counts × Adds (base_entries ws ce cn counts.edges.base) a b
    → DeltaFlat ws ce cn counts × Adds (delta_links ws ce cn counts) b c → ListsOnce ws ce cn counts c
all_once r f g = record {
  nodes = r.nodes;
  base = f.0;
  delta = g.0;
  marks = λ e h. ⊎_elim (λ q. ⊎_elim (λ k. inl (r.marks e k)) (λ k. inr (inl k)) (f.1.marks e q)) (λ q. inr (inr q)) (g.1.marks e h);
}

-- what they ask, on a clear map, where a test of the marks has told whether some node has a run
pub flat_readable : {ws : List ℕ} {ce cn : ℕ} {counts : Counts} {live_nodes live_edges : List ℕ} {runless : Bool} → ListsReadable ws ce cn counts live_nodes live_edges
    → runless ≡ all (λ i. ltb (cell ws (4 * ce + 4 * cn) i) 1) (from 0 counts.nodes.bound) → FlatReadable ws ce cn counts runless (replicate 512 0)
flat_readable {ws} {ce} {cn} {counts} r q = record {
  axis = r.axis;
  index = r.index;
  ends_below = r.ends_below;
  no_run = λ h x l. let t = ltb-true (mark_at ws ce cn x) 1 (all_below (λ i. ltb (cell ws (4 * ce + 4 * cn) i) 1) counts.nodes.bound (sym q ∙ h) x l) in omega arith;
  marks_long = omega (arith, length-replicate {A = ℕ} 512 0);
}

-- how long a clear map is
pub map_long : {n : ℕ} → n ≡ length (replicate {A = ℕ} 512 0) → n ≡ 512
map_long q = q ∙ length-replicate {A = ℕ} 512 0

-- ---- the lists

-- where as many flags are set as there are, each is
all_set : (l : List Bool) → count (λ f. f) l ≡ length l → (i : ℕ) → i < length l → get_or l i false ≡ true
unfolding count
all_set [] h i l = absurd (omega arith)
all_set (true ∷ bs) h zero l = refl
all_set (true ∷ bs) h (suc i) l = all_set bs (omega arith) i (omega arith)
all_set (false ∷ bs) h i l = absurd (omega (arith, count_length (λ f. f) bs))

-- every node is live
pub all_live : {words : List ℕ} (counts : Counts) → LiveRight words counts.nodes → counts.nodes.live ≡ counts.nodes.bound → (x : ℕ) → x < counts.nodes.bound
    → get_or (live_flags words counts.nodes.bound) x false ≡ true
all_live {words} counts live whole x l =
    let nb = counts.nodes.bound in
    let long = length_flags words nb in
    all_set (live_flags words nb) (sym live.live_right ∙ whole ∙ sym long) x (rw long l)

module _ {ws : List ℕ} {ce cn : ℕ} {counts : Counts} {live_nodes live_edges seen : List ℕ} (r : ListsReadable ws ce cn counts live_nodes live_edges)
    (o : ListsOnce ws ce cn counts seen)
    (ends : (e : ℕ) → e < counts.edges.bound → get_or (live_flags live_edges counts.edges.bound) e false ≡ true → get_or (live_flags live_nodes counts.nodes.bound) (end_at ws e) false ≡ true)
    (found : all (marked_if_live (live_flags live_edges counts.edges.bound) (live_flags seen counts.edges.bound)) (from 0 counts.edges.bound) ≡ true) where
  abbrev nb : ℕ
  nb = counts.nodes.bound

  abbrev be : ℕ
  be = counts.edges.base

  abbrev eb : ℕ
  eb = counts.edges.bound

  abbrev nodes : List Bool
  nodes = live_flags live_nodes nb

  abbrev edges : List Bool
  edges = live_flags live_edges eb

  abbrev base : ℕ → List ℕ
  base = base_of ws ce cn counts.nodes.base

  abbrev run : ℕ → List ℕ
  run = run_list ws ce cn

  abbrev ring_at : ℕ → List ℕ
  ring_at = ring_of ws ce be eb

  abbrev list : ℕ → List ℕ
  list x = raw (adjacency_in ws ce cn counts x)

  -- a node's list
  list_plain : (x : ℕ) → eqb (mark_at ws ce cn x) 0 ≡ true → list x ≡ base x ++ ring_at x
  unfolding run_of
  list_plain x q = rw q

  list_run : (x : ℕ) → eqb (mark_at ws ce cn x) 0 ≡ false → list x ≡ taken ws ce cn be eb x
  unfolding run_of
  list_run x q = rw q

  -- its entries end at it
  own : (x : ℕ) → x < nb → (e : ℕ) → In e (list x) → end_at ws e ≡ x
  own x l e m =
      by_test (eqb (mark_at ws ce cn x) 0)
      (λ q. let h : (member e (base x) || member e (ring_at x)) ≡ true = sym (member_append e (base x) (ring_at x)) ∙ ap (member e) (sym (list_plain x q)) ∙ m in
      by_test (member e (base x)) (λ k. base_own r.index o.base x q e k) (λ k. r.rings.own x e l (or_other h k)))
      (λ q. (o.nodes x l).own e (ap (member e) (sym (list_run x q)) ∙ m))

  -- none comes twice
  once : (x : ℕ) → x < nb → distinct (list x) ≡ true
  once x l =
      by_test (eqb (mark_at ws ce cn x) 0)
      (λ q. ap distinct (list_plain x q)
      ∙ distinct_append (base x) (ring_at x)
      ∙ both_true (base_once r.index o.base x q)
      (both_true (ring_once (r.rings.ring x l))
      (all_of (λ e. not (member e (ring_at x))) (base x)
      (λ e m. ap not (refuted (member e (ring_at x)) (λ k. omega (arith, base_low r.index o.base x e m, ring_least (r.rings.ring x l) e k)))))))
      (λ q. ap distinct (list_run x q) ∙ (o.nodes x l).once)

  -- the entries of a run end at its node, and none comes twice
  run_own : (x : ℕ) → x < nb → (e : ℕ) → In e (run x) → end_at ws e ≡ x
  run_own x l e m =
      by_test (eqb (mark_at ws ce cn x) 0) (λ q. in_none e (rw (run_list_unmarked ws ce cn x (eqb-true (mark_at ws ce cn x) 0 q)) at m))
      (λ q. (o.nodes x l).own e (rw q (in_front e (run x) (ring_at x) m)))

  run_distinct : (x : ℕ) → x < nb → (mark_at ws ce cn x ≡ 0 → ⊥) → distinct (run x) ≡ true
  run_distinct x l some = distinct_left (run x) (ring_at x) (rw (ne_eqb (mark_at ws ce cn x) 0 some) at (o.nodes x l).once)

  -- a live edge is marked, so it is in the list of its end
  there : (e : ℕ) → e < eb → get_or edges e false ≡ true → In e (list (end_at ws e))
  unfolding marked_if_live
  there e l q =
      let x = end_at ws e in
      let limit = r.axis.sized.edges_within in
      let bounded = r.axis.edges.bound_within in
      let few : eb ≤ LIMIT = omega (arith, limit, bounded) in
      let flag : get_or (live_flags seen eb) e false ≡ true = or_other (all_below (marked_if_live edges (live_flags seen eb)) eb found e l) (ap not q) in
      ⊎_elim
      (λ m. by_test (eqb (mark_at ws ce cn x) 0) (λ k. in_none e (rw k at m)) (λ k. ap (member e) (list_run x k) ∙ m))
      (λ h. ⊎_elim
      (λ m. shown x (entry_shown ws ce cn be e m) (rw (base_there r.index o.base e m)))
      (λ m. shown x (link_shown o.delta e m) (rw (link_there few r.ends_below r.rings o.delta e m, or_true (member e (base x)))))
      h)
      (o.marks e (sym (flag_at seen eb e l) ∙ flag))
    where
      shown : (x : ℕ) → eqb (mark_at ws ce cn x) 0 ≡ true → (member e (base x) || member e (ring_at x)) ≡ true → In e (list x)
      shown x k h = ap (member e) (list_plain x k) ∙ member_append e (base x) (ring_at x) ∙ h

  -- rule 6
  pub runs_hold : runs_right ce cn counts nodes edges ws ≡ true
  runs_hold =
      runs_complete ws ce cn counts nodes edges
      (record {
        run = λ x l some. run_sound ws ce cn eb x some (run_distinct x l some) (o.nodes x l).right;
        apart = λ x y e l k m n. sym (run_own x l e m) ∙ run_own y k e n;
      })
      (λ x e l dead m. refuted (get_or edges e false)
      (λ live. true_false (ap (λ (y : ℕ). get_or nodes y false) (sym (run_own x l e m)) ∙ ends e (run_low x l e m) live) dead))
    where
      run_low : (x : ℕ) → x < nb → (e : ℕ) → In e (run x) → e < eb
      run_low x l e m =
          ltb-true e eb
          (all_member (λ e. ltb e eb) (run x) (and_left (all (λ e. ltb e eb) (run x)) (eqb (last_of (run x) (tail_at ws ce cn x)) (tail_at ws ce cn x)) (o.nodes x l).right) e m)

  -- a node's walk
  abbrev walk : ℕ → List ℕ
  walk = node_walk ws ce cn counts live_nodes live_edges

  walk_live : (x : ℕ) → get_or nodes x false ≡ true → walk x ≡ keep (live_in edges) (list x)
  unfolding node_walk
  walk_live x q = rw q

  walk_dead : (x : ℕ) → get_or nodes x false ≡ false → walk x ≡ []
  unfolding node_walk
  walk_dead x q = rw q

  walk_right : (x : ℕ) → x < nb → walk_test ws ce cn counts live_nodes live_edges x ≡ true
  unfolding walk_test distinct all
  walk_right x l =
      by_test (get_or nodes x false)
      (λ q. rw (walk_live x q)
      (both_true (distinct_keep (live_in edges) (list x) (once x l))
      (all_of (λ e. eqb (end_at ws e) x) (keep (live_in edges) (list x))
      (λ e m. eq-eqb (end_at ws e) x
      (own x l e (and_left (member e (list x)) (live_in edges e) (sym (member_keep (live_in edges) e (list x)) ∙ m)))))))
      (λ q. rw (walk_dead x q))

  -- rule 7
  pub walks_hold : walks_test ws ce cn counts live_nodes live_edges ≡ true
  unfolding walks_test listed_test
  walks_hold =
      both_true (below_all (walk_test ws ce cn counts live_nodes live_edges) nb walk_right)
      (below_all (listed_test ws ce cn counts live_nodes live_edges) eb
      (λ e l. by_test (get_or edges e false)
      (λ q. let live = ends e l q in
      rw q (both_true (ap (member e) (walk_live (end_at ws e) live) ∙ member_keep (live_in edges) e (list (end_at ws e)) ∙ both_true (there e l q) q) live))
      (λ q. rw q)))
