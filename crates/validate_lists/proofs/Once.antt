-- Nodes with a run, one after the other, where their rings are followed too: that no entry comes twice, each ends at its node, and what is marked is in the list of
-- its end.
use Rattle.std.specs.Prelude.{ℕ, suc, ◌+◌, ◌-◌, ◌*◌, ◌≤◌, ◌<◌, ◌≡◌, refl, Bool, true, false, cond, ◌||◌, not, List, [], ◌∷◌, ◌++◌, length, get_or, eqb, ltb}
use Rattle.plain.specs.Library.{sym, ap, subst, ◌∙◌, ⊎_elim, arith, eq-eqb, eqb-true, ne_eqb}
use Rattle.plain.specs.Numbers.{NONE}
use Rattle.plain.specs.declared.Counts.{Counts}
use Rattle.plain.specs.Lists.{member, distinct, all}
use Rattle.plain.proofs.Laws.Booleans.{by_test, below_or_not, true_false, and_left, and_right, both_true, or_other}
use Rattle.plain.proofs.Laws.ListLaws.{member_append, all_of, all_member}
use Rattle.shape.specs.Columns.{cell, end_at, last_at, tail_at, mark_at}
use Rattle.shape.specs.Chains.{In, until, ring}
use Rattle.shape.specs.Shape.{run_list, ring_of}
use Rattle.shape.specs.Rules.{runs_right}
use Rattle.shape.proofs.Laws.Chains.{in_none}
use Rattle.shape.proofs.Laws.Frames.{run_list_unmarked}
use Rattle.shape.proofs.Laws.Checking.{run_complete, runs_complete}
use Rattle.marks.specs.Marks.{marked, Passed, Followed, Adds}
use Rattle.validate_lists.specs.Runs.{entry_test, run_test, ends_in, taken, NodeOnce, RunsOnce}
use Rattle.marks.specs.Laws.Following.{Following, follow_start, follow_done, pass_fails, pass_more, followed_all, followed_final, both_once, both_adds, adds_none}

-- ---- one node

module _ (ws : List ℕ) (ce cn be eb x : ℕ) where
  -- with no run there is nothing to see
  pub node_plain : mark_at ws ce cn x ≡ 0 → (seen : List ℕ) → NodeOnce ws ce cn be eb x × Adds (taken ws ce cn be eb x) seen seen
  unfolding distinct
  node_plain q seen =
      let none : eqb (mark_at ws ce cn x) 0 ≡ true = eq-eqb (mark_at ws ce cn x) 0 q in (
        record {
          right = run_complete ws ce cn eb x (λ some. absurd (some q));
          own = λ e m. in_none e (rw none at m);
          once = rw none;
        },
        rw none (adds_none seen),
      )

  module _ (some : mark_at ws ce cn x ≡ 0 → ⊥) where
    -- its run, and its ring
    taken_is : taken ws ce cn be eb x ≡ run_list ws ce cn x ++ ring_of ws ce be eb x
    taken_is = rw (ne_eqb (mark_at ws ce cn x) 0 some)

    module _ (live : Bool) (flags : List Bool) {a b : List ℕ} (f : Followed (run_test ws true x eb live flags) (ends_in (run_list ws ce cn x) (tail_at ws ce cn x)) (run_list ws ce cn x) a true b) where
      passing : (l : List ℕ) → all (run_test ws true x eb live flags) l ≡ true → (e : ℕ) → In e l → end_at ws e ≡ x
      passing l h e m = eqb-true (end_at ws e) x (and_left (eqb (end_at ws e) x) (entry_test eb live flags e) (all_member (run_test ws true x eb live flags) l h e m))

      low : all (λ e. ltb e eb) (run_list ws ce cn x) ≡ true
      unfolding entry_test
      low =
          all_of (λ e. ltb e eb) (run_list ws ce cn x)
          (λ e m. and_left (ltb e eb) (live || not (get_or flags e false))
          (and_right (eqb (end_at ws e) x) (entry_test eb live flags e) (all_member (run_test ws true x eb live flags) (run_list ws ce cn x) (followed_all f) e m)))

      -- and then its ring
      both : {c : List ℕ} → Followed (run_test ws true x eb live flags) true (ring_of ws ce be eb x) b true c → NodeOnce ws ce cn be eb x × Adds (taken ws ce cn be eb x) a c
      both g = (
        record {
          right = both_true low (followed_final f);
          own = λ e m. by_test (member e (run_list ws ce cn x)) (λ q. passing (run_list ws ce cn x) (followed_all f) e q)
              (λ q. passing (ring_of ws ce be eb x) (followed_all g) e
              (or_other (sym (member_append e (run_list ws ce cn x) (ring_of ws ce be eb x)) ∙ ap (member e) (sym taken_is) ∙ m) q));
          once = ap distinct taken_is ∙ both_once f g;
        },
        rw taken_is (both_adds f g),
      )

      -- which it has not
      pub node_bare : last_at ws ce x ≡ NONE → NodeOnce ws ce cn be eb x × Adds (taken ws ce cn be eb x) a b
      unfolding ring_of ring
      node_bare q = both (rw (eq-eqb (last_at ws ce x) NONE q) (follow_done (follow_start (run_test ws true x eb live flags) [] b) true refl))

      -- or has
      pub node_ring : {c : List ℕ} → (last_at ws ce x ≡ NONE → ⊥)
          → Followed (run_test ws true x eb live flags) true (until (cell ws (2 * ce)) (last_at ws ce x) (eb - be) (cell ws (2 * ce) (last_at ws ce x))) b true c
          → NodeOnce ws ce cn be eb x × Adds (taken ws ce cn be eb x) a c
      unfolding ring_of ring
      node_ring some-ring g = both (rw (ne_eqb (last_at ws ce x) NONE some-ring) g)

-- ---- a ring that is followed

module _ (test : ℕ → Bool) (link : ℕ → ℕ) (last n first : ℕ) where
  -- Of the entries of a ring those from e on are still to be followed, i being passed and marked.
  pub record Circling (seen₀ seen : List ℕ) (i e : ℕ) : Type 0 where
    pub following : Following test (until link last n first) seen₀ seen (until link last (n - i) e)

  pub circling_start : (seen : List ℕ) → Circling seen seen 0 first
  circling_start seen = record { following = let q : n - 0 ≡ n = omega arith in rw q (follow_start test (until link last n first) seen) }

  module _ {seen₀ seen : List ℕ} {i e : ℕ} (c : Circling seen₀ seen i e) where
    -- past as many as may be
    pub circling_done : n ≤ i → Followed test true (until link last n first) seen₀ true seen
    unfolding until
    circling_done l = follow_done c.following true (let q : n - i ≡ 0 = omega arith in rw q refl)

    module _ {exit : List ℕ} {answer : Bool} (l : i < n) (p : Passed (test e) seen e answer exit) where
      -- an entry, and those after it, unless it is the last
      next : until link last (n - i) e ≡ e ∷ cond (eqb e last) [] (until link last (n - (i + 1)) (link e))
      unfolding until
      next = let q : n - i ≡ suc (n - (i + 1)) = omega arith in ap (λ (z : ℕ). until link last z e) q

      pub circling_fails : answer ≡ false → Followed test true (until link last n first) seen₀ false exit
      circling_fails a = pass_fails c.following next p true a

      module _ (a : answer ≡ true) (long : length exit ≡ length seen) where
        pub circling_last : e ≡ last → Followed test true (until link last n first) seen₀ true exit
        circling_last q = follow_done (pass_more c.following next p a long) true (rw (eq-eqb e last q))

        pub circling_on : (e ≡ last → ⊥) → Circling seen₀ exit (i + 1) (link e)
        circling_on q = record { following = rw (ne_eqb e last q) at (pass_more c.following next p a long) }

-- ---- all nodes

module _ (ws : List ℕ) (ce cn be eb : ℕ) where
  -- The nodes before x are right, and only their entries are marked.
  pub record Listing (size : ℕ) (x : ℕ) (seen : List ℕ) : Type 0 where
    pub nodes : (y : ℕ) → y < x → NodeOnce ws ce cn be eb y
    pub marks : (e : ℕ) → marked seen e ≡ true → In e (taken ws ce cn be eb (end_at ws e))
    pub long : length seen ≡ size

  pub listing_start : (seen : List ℕ) → ((e : ℕ) → marked seen e ≡ false) → Listing (length seen) 0 seen
  listing_start seen clear = record { nodes = λ y l. absurd (omega arith); marks = λ e h. true_false h (clear e); long = refl }

  pub listing_on : {size x : ℕ} {seen exit : List ℕ} → Listing size x seen → NodeOnce ws ce cn be eb x × Adds (taken ws ce cn be eb x) seen exit → length exit ≡ length seen
      → Listing size (x + 1) exit
  listing_on {x = x} w n long = record {
    nodes = λ y l. ⊎_elim (λ k. w.nodes y k) (λ (k : x ≤ y). let at : x ≡ y = omega arith in subst (NodeOnce ws ce cn be eb) at n.0) (below_or_not y x);
    marks = λ e h. ⊎_elim (λ k. w.marks e k) (λ k. subst (λ (y : ℕ). In e (taken ws ce cn be eb y)) (sym (n.0.own e k)) k) (n.1.marks e h);
    long = long ∙ w.long;
  }

-- past the last
pub listing_done : {ws : List ℕ} {ce cn : ℕ} {counts : Counts} {size x : ℕ} {seen : List ℕ} → Listing ws ce cn counts.edges.base counts.edges.bound size x seen
    → counts.nodes.bound ≤ x → RunsOnce ws ce cn counts seen
listing_done w l = record { nodes = λ y k. w.nodes y (omega arith); marks = w.marks }

-- where no node has a run
pub listing_none : {ws : List ℕ} {ce cn : ℕ} {counts : Counts} {seen : List ℕ} → ((x : ℕ) → x < counts.nodes.bound → mark_at ws ce cn x ≡ 0)
    → ((e : ℕ) → marked seen e ≡ false) → RunsOnce ws ce cn counts seen
listing_none {ws} {ce} {cn} {counts} {seen} none clear = record { nodes = λ y k. (node_plain ws ce cn counts.edges.base counts.edges.bound y (none y k) seen).0; marks = λ e h. true_false h (clear e) }

-- where no node has a run the runs are right
pub runless_right : (ws : List ℕ) (ce cn : ℕ) (counts : Counts) (nodes edges : List Bool) → ((x : ℕ) → x < counts.nodes.bound → mark_at ws ce cn x ≡ 0)
    → runs_right ce cn counts nodes edges ws ≡ true
runless_right ws ce cn counts nodes edges none =
    runs_complete ws ce cn counts nodes edges
    (record {
      run = λ x l some. absurd (some (none x l));
      apart = λ x y e l k m n. in_none e (rw (run_list_unmarked ws ce cn x (none x l)) at m);
    })
    (λ x e l dead m. in_none e (rw (run_list_unmarked ws ce cn x (none x l)) at m))
