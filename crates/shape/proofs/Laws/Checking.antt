-- The tests of the check and what they mean: `broken` is 0 exactly where the words are a checked store.
-- ---- tests of all slots
use Rattle.std.specs.Prelude.{ℕ, zero, suc, ◌*◌, ◌-◌, ◌≤◌, ◌<◌, ◌≡◌, refl, Bool, true, false, ◌&&◌, ◌||◌, not, List, [], ◌∷◌, ◌++◌, map, length, get_or, eqb, leb, ltb}
use Rattle.plain.specs.Library.{sym, ap, subst, ◌∙◌, inl, inr, ⊎_elim, length-append, length-map, get_or-eq_default, zero-add, arith, eq-eqb, ne_eqb, eqb-true, eqb-false, leb-true, le-leb, ltb-true, lt-ltb, not-true}
use Rattle.std.proofs.Math.Nat.{suc_inj}
use Rattle.plain.specs.declared.Counts.{Counts}
use Rattle.plain.specs.declared.TraversalDirection.{TraversalDirection}
use Rattle.plain.specs.Numbers.{NONE}
use Rattle.plain.specs.Lists.{member, distinct, all, from, joined}
use Rattle.plain.specs.Plain.{Plain, incidence, node_bound, edge_bound, node_flags, edge_flags, list_of, end_of}
use Rattle.plain.specs.Step.{Capacities}
use Rattle.plain.specs.WellFormed.{Incident, WellFormed}
use Rattle.plain.proofs.Laws.Operating.{incident, edge_below}
use Rattle.plain.proofs.Laws.Booleans.{by_test, below_or_not, same_truth, true_false, and_left, and_right, both_true, refuted, or_other, or_true}
use Rattle.plain.proofs.Laws.ListLaws.{get_d_map, get_or_from, length_from, all_of, all_member, member_below, member_joined, joined_member, distinct_apart, distinct_right, distinct_at}
use Rattle.plain.proofs.Laws.Deleting.{distinct_appended}
use Rattle.shape.specs.Columns.{cell, end_at, last_at, first_at, tail_at, count_at, mark_at, adjacency_at, offset_at}
use Rattle.shape.specs.Chains.{chain, until, ring, In, Seg, Line, Run, Ring}
use Rattle.shape.specs.Shape.{ring_of, run_list}
use Rattle.shape.specs.Checked.{Index, Runs}
use Rattle.shape.specs.Rules.{index_right, ring_right, last_of, run_right, runs_right, walks_right}
use Rattle.shape.proofs.Laws.Chains.{in_snoc, in_none, until_is, line_last, ring_line, chain_length, run_below, run_once}
use Rattle.shape.proofs.Laws.Frames.{run_list_unmarked}
use Rattle.shape.specs.Laws.Checking.{Framed}

pub all_below : (test : ℕ → Bool) (n : ℕ) → all test (from 0 n) ≡ true → (x : ℕ) → x < n → test x ≡ true
all_below test n h x l = all_member test (from 0 n) h x (member_below x n ∙ lt-ltb x n l)

pub below_all : (test : ℕ → Bool) (n : ℕ) → ((x : ℕ) → x < n → test x ≡ true) → all test (from 0 n) ≡ true
below_all test n h = all_of test (from 0 n) (λ x m. h x (ltb-true x n (sym (member_below x n) ∙ m)))

-- ---- a ring by its test

-- the second part of a disjunction that fails
tail_false : (a b : Bool) → (a || b) ≡ false → b ≡ false
tail_false true b h = true_false refl h
tail_false false b h = h

-- the links from a later entry on
record Suffix (link : ℕ → ℕ) (x t : ℕ) (xs : List ℕ) : Type 0 where
  rest : List ℕ
  visits : Seg link x (x ∷ rest) t
  shorter : length (x ∷ rest) ≤ length xs
  without_end : member t (x ∷ rest) ≡ false

suffix : (link : ℕ → ℕ) (x p t : ℕ) (xs : List ℕ) → In x xs → Seg link p xs t → member t xs ≡ false → Suffix link x t xs
unfolding member
suffix link x p t [] m s never = in_none x m
suffix link x p t (y ∷ xs) m s never =
    by_test (eqb x y)
    (λ q. let same : x ≡ y = eqb-true x y q in record {
      rest = xs;
      visits = (refl, subst (λ (z : ℕ). Seg link (link z) xs t) (sym same) s.1);
      shorter = omega arith;
      without_end = rw same never;
    })
    (λ q. let r = suffix link x (link y) t xs (rw q at m) s.1 (tail_false (eqb t y) (member t xs) never) in
    record { rest = r.rest; visits = r.visits; shorter = let k = r.shorter in omega arith; without_end = r.without_end })

-- links that come to t for the first time have come by different entries
pub seg_once : (link : ℕ → ℕ) (e t : ℕ) (xs : List ℕ) → Seg link e xs t → member t xs ≡ false → distinct (xs ++ (t ∷ [])) ≡ true
unfolding distinct member
seg_once link e t [] s never = refl
seg_once link e t (x ∷ xs) s never =
    let later : member t xs ≡ false = tail_false (eqb t x) (member t xs) never in
    rw (refuted (member x (xs ++ (t ∷ []))) (λ m. ⊎_elim (λ k. again k) (λ k. let here : (eqb t x || member t xs) ≡ true = rw (eq-eqb t x (sym k)) in true_false here never) (in_snoc x xs t m)))
    (seg_once link (link x) t xs s.1 later)
  where
    -- an entry that came twice would come to t in two numbers of steps
    again : In x xs → ⊥
    again k =
        let r = suffix link x (link x) t xs k s.1 (tail_false (eqb t x) (member t xs) never) in
        let n : ℕ = suc (length (x ∷ xs)) in
        let long = until_is link t n x (x ∷ xs) (refl, s.1) never (omega arith) in
        let short = until_is link t n x (x ∷ r.rest) r.visits r.without_end (let l = r.shorter in omega arith) in
        let same = ap length (sym long ∙ short) in
        let l = r.shorter in
        omega (arith, length-append (x ∷ xs) (t ∷ []), length-append (x ∷ r.rest) (t ∷ []))

-- what is read up to `last`, where it comes there
record Closed (link : ℕ → ℕ) (last e : ℕ) (entries : List ℕ) : Type 0 where
  front : List ℕ
  ends : entries ≡ front ++ (last ∷ [])
  visits : Seg link e front last
  first : member last front ≡ false

-- one entry before
closed_more : {link : ℕ → ℕ} {last e : ℕ} {entries : List ℕ} → eqb last e ≡ false → Closed link last (link e) entries → Closed link last e (e ∷ entries)
unfolding member
closed_more {e = e} q c = record {
  front = e ∷ c.front;
  ends = ap (λ (l : List ℕ). e ∷ l) c.ends;
  visits = (refl, c.visits);
  first = rw q c.first;
}

until_closed : (link : ℕ → ℕ) (last n e : ℕ) → In last (until link last n e) → Closed link last e (until link last n e)
unfolding until member
until_closed link last zero e m = in_none last m
until_closed link last (suc n) e m =
    by_test (eqb e last)
    (λ q. rw q (record { front = []; ends = ap (λ (z : ℕ). z ∷ []) (eqb-true e last q); visits = eqb-true e last q; first = refl }))
    (λ q. let other : eqb last e ≡ false = ne_eqb last e (λ r. eqb-false e last q (sym r)) in
    rw q (closed_more other (until_closed link last n (link e) (or_other (rw q at m) other))))

-- a ring whose test passes is a ring of the node's own edges
module _ (ce be eb : ℕ) (ws : List ℕ) (x : ℕ) where
  pub ring_sound : ring_right ce be eb ws x ≡ true → Ring (cell ws (2 * ce)) be eb (last_at ws ce x) (ring_of ws ce be eb x)
  unfolding ring_right ring_of ring
  ring_sound h =
      let link = cell ws (2 * ce) in
      let last = last_at ws ce x in
      by_test (eqb last NONE) (λ q. rw q (inl (eqb-true last NONE q, refl)))
      (λ q. let k = rw q at h in
      let entries = until link last (eb - be) (link last) in
      let ranged = and_left (all (λ e. leb be e && (ltb e eb && eqb (end_at ws e) x)) entries) (member last entries) k in
      let c = until_closed link last (eb - be) (link last) (and_right (all (λ e. leb be e && (ltb e eb && eqb (end_at ws e) x)) entries) (member last entries) k) in
      rw q (inr (record {
        front = c.front;
        ends = c.ends;
        visits = c.visits;
        once = ap distinct c.ends ∙ seg_once link (link last) last c.front c.visits c.first;
        least = λ e m. leb-true be e (and_left (leb be e) (ltb e eb && eqb (end_at ws e) x) (all_member (λ e. leb be e && (ltb e eb && eqb (end_at ws e) x)) entries ranged e m));
        below = λ e m. ltb-true e eb (and_left (ltb e eb) (eqb (end_at ws e) x)
            (and_right (leb be e) (ltb e eb && eqb (end_at ws e) x) (all_member (λ e. leb be e && (ltb e eb && eqb (end_at ws e) x)) entries ranged e m)));
      })))

  pub ring_own : ring_right ce be eb ws x ≡ true → (e : ℕ) → In e (ring_of ws ce be eb x) → end_at ws e ≡ x
  unfolding ring_right ring_of ring
  ring_own h e =
      let link = cell ws (2 * ce) in
      let last = last_at ws ce x in
      let entries = until link last (eb - be) (link last) in
      by_test (eqb last NONE) (λ q. rw q (λ m. in_none e m))
      (λ q. let k = rw q at h in
      let ranged = and_left (all (λ e. leb be e && (ltb e eb && eqb (end_at ws e) x)) entries) (member last entries) k in
      rw q (λ m. eqb-true (end_at ws e) x
      (and_right (ltb e eb) (eqb (end_at ws e) x)
      (and_right (leb be e) (ltb e eb && eqb (end_at ws e) x) (all_member (λ e. leb be e && (ltb e eb && eqb (end_at ws e) x)) entries ranged e m)))))

  -- a ring of the node's own edges passes the test
  pub ring_complete : Ring (cell ws (2 * ce)) be eb (last_at ws ce x) (ring_of ws ce be eb x)
      → ((e : ℕ) → In e (ring_of ws ce be eb x) → end_at ws e ≡ x) → ring_right ce be eb ws x ≡ true
  unfolding ring_right ring_of ring
  ring_complete r own =
      let last = last_at ws ce x in
      by_test (eqb last NONE) (λ q. rw q)
      (λ q. let line = ring_line (eqb-false last NONE q) r in
      let held = rw q at line in
      let mine = rw q at own in
      let entries = until (cell ws (2 * ce)) last (eb - be) (cell ws (2 * ce) last) in
      rw (q, line_last held)
      (rw (all_of (λ e. leb be e && (ltb e eb && eqb (end_at ws e) x)) entries
      (λ e m. both_true (le-leb be e (held.least e m)) (both_true (lt-ltb e eb (held.below e m)) (eq-eqb (end_at ws e) x (mine e m)))))))

-- ---- runs by their tests

-- the last entry of a chain, and the way there
record Ended (link : ℕ → ℕ) (e t : ℕ) (entries : List ℕ) : Type 0 where
  front : List ℕ
  ends : entries ≡ front ++ (t ∷ [])
  visits : Seg link e front t

ended_more : {link : ℕ → ℕ} {e t : ℕ} {entries : List ℕ} → Ended link (link e) t entries → Ended link e t (e ∷ entries)
ended_more {e = e} c = record { front = e ∷ c.front; ends = ap (λ (l : List ℕ). e ∷ l) c.ends; visits = (refl, c.visits) }

chain_ended : (link : ℕ → ℕ) (n e : ℕ) → Ended link e (last_of (chain link n (link e)) e) (chain link (suc n) e)
unfolding chain last_of
chain_ended link zero e = record { front = []; ends = refl; visits = refl }
chain_ended link (suc n) e = ended_more (chain_ended link n (link e))

-- the last of a list that ends in t
last_snoc : (l : List ℕ) (t d : ℕ) → last_of (l ++ (t ∷ [])) d ≡ t
unfolding last_of
last_snoc [] t d = refl
last_snoc (x ∷ l) t d = last_snoc l t x

-- what is in two of the lists that have no repeats together is in one list
pub joined_apart : (ls : List (List ℕ)) → distinct (joined ls) ≡ true → (x y e : ℕ) → In e (get_or ls x []) → In e (get_or ls y []) → x ≡ y
unfolding joined
joined_apart [] h x y e m k = in_none e m
joined_apart (l ∷ ls) h zero zero e m k = refl
joined_apart (l ∷ ls) h zero (suc y) e m k = true_false (member_joined e ls y k) (distinct_apart l (joined ls) h e m)
joined_apart (l ∷ ls) h (suc x) zero e m k = true_false (member_joined e ls x m) (distinct_apart l (joined ls) h e k)
joined_apart (l ∷ ls) h (suc x) (suc y) e m k = ap suc (joined_apart ls (distinct_right l (joined ls) h) x y e m k)

-- lists without repeats that share no entry have none together
pub apart_joined : (ls : List (List ℕ)) → ((x : ℕ) → distinct (get_or ls x []) ≡ true) → ((x y e : ℕ) → In e (get_or ls x []) → In e (get_or ls y []) → x ≡ y)
    → distinct (joined ls) ≡ true
unfolding joined distinct
apart_joined [] h apart = refl
apart_joined (l ∷ ls) h apart =
    distinct_appended l (joined ls) (h zero) (apart_joined ls (λ x. h (suc x)) (λ x y e m k. suc_inj (apart (suc x) (suc y) e m k)))
    (λ e m. refuted (member e (joined ls)) (λ k. let j = joined_member e ls k in let z = apart zero (suc j.0) e m j.1 in omega arith))

-- a chain by its tests
chain_run : (link : ℕ → ℕ) (hi n f t : ℕ) → distinct (chain link n f) ≡ true → all (λ e. ltb e hi) (chain link n f) ≡ true → last_of (chain link n f) t ≡ t
    → Run link hi f t n (chain link n f)
unfolding chain last_of
chain_run link hi zero f t once below ends = record { counted = refl; line = inl refl }
chain_run link hi (suc n) f t once below ends =
    let c = subst (λ (z : ℕ). Ended link f z (chain link (suc n) f)) ends (chain_ended link n f) in
    record {
      counted = sym (chain_length link (suc n) f);
      line = inr (record {
        front = c.front;
        ends = c.ends;
        visits = c.visits;
        once = once;
        least = λ e m. omega arith;
        below = λ e m. ltb-true e hi (all_member (λ e. ltb e hi) (chain link (suc n) f) below e m);
      });
    }

-- and back
run_last : {link : ℕ → ℕ} {hi f t n : ℕ} {xs : List ℕ} → Run link hi f t n xs → last_of xs t ≡ t
unfolding last_of
run_last {t = t} r = ⊎_elim (λ q. rw q) (λ (w : Line _ 0 _ _ t _). rw w.ends (last_snoc w.front t t)) r.line

module _ (ws : List ℕ) (ce cn eb : ℕ) where
  -- the run of a node with a mark, by its test
  pub run_sound : (x : ℕ) → (mark_at ws ce cn x ≡ 0 → ⊥) → distinct (run_list ws ce cn x) ≡ true → run_right ce cn eb ws x ≡ true
      → Run (cell ws (3 * ce)) eb (first_at ws ce cn x) (tail_at ws ce cn x) (count_at ws ce cn x) (run_list ws ce cn x)
  unfolding run_list
  run_sound x marked once h =
      let q = ne_eqb (mark_at ws ce cn x) 0 marked in
      let list = chain (cell ws (3 * ce)) (count_at ws ce cn x) (first_at ws ce cn x) in
      let t = tail_at ws ce cn x in
      let k = rw q at h in
      rw q (chain_run (cell ws (3 * ce)) eb (count_at ws ce cn x) (first_at ws ce cn x) t (rw q at once)
      (and_left (all (λ e. ltb e eb) list) (eqb (last_of list t) t) k) (eqb-true (last_of list t) t (and_right (all (λ e. ltb e eb) list) (eqb (last_of list t) t) k)))

  -- a run passes its test, and so does a node with none
  pub run_complete : (x : ℕ) → ((mark_at ws ce cn x ≡ 0 → ⊥) → Run (cell ws (3 * ce)) eb (first_at ws ce cn x) (tail_at ws ce cn x) (count_at ws ce cn x) (run_list ws ce cn x))
      → run_right ce cn eb ws x ≡ true
  unfolding all last_of
  run_complete x r =
      let t = tail_at ws ce cn x in
      by_test (eqb (mark_at ws ce cn x) 0)
      (λ q. rw (run_list_unmarked ws ce cn x (eqb-true (mark_at ws ce cn x) 0 q)) (eq-eqb t t refl))
      (λ q. let run = r (eqb-false (mark_at ws ce cn x) 0 q) in
      both_true (all_of (λ e. ltb e eb) (run_list ws ce cn x) (λ e m. lt-ltb e eb (run_below run e m))) (eq-eqb (last_of (run_list ws ce cn x) t) t (run_last run)))

-- ---- rule 4

module _ (ce cn bn be : ℕ) (ws : List ℕ) where
  pub index_sound : index_right ce cn bn be ws ≡ true → Index ws ce cn bn be
  unfolding index_right
  index_sound h =
      by_test (eqb bn 0 && eqb be 0)
      (λ q. inl (eqb-true bn 0 (and_left (eqb bn 0) (eqb be 0) q), eqb-true be 0 (and_right (eqb bn 0) (eqb be 0) q)))
      (λ q. let k = rw q at h in
      let a = eqb (offset_at ws ce cn 0) 0 in
      let ups = all (λ x. leb (offset_at ws ce cn x) (offset_at ws ce cn (suc x))) (from 0 bn) in
      let c = eqb (offset_at ws ce cn bn) be in
      let entries = all (λ i. ltb (adjacency_at ws ce i) be) (from 0 be) in
      let rest = and_right a (ups && (c && entries)) k in
      let last = and_right ups (c && entries) rest in
      inr (record {
        starts = eqb-true (offset_at ws ce cn 0) 0 (and_left a (ups && (c && entries)) k);
        ascends = λ x l. leb-true (offset_at ws ce cn x) (offset_at ws ce cn (suc x))
            (all_below (λ x. leb (offset_at ws ce cn x) (offset_at ws ce cn (suc x))) bn (and_left ups (c && entries) rest) x l);
        stops = eqb-true (offset_at ws ce cn bn) be (and_left c entries last);
        entries = λ i l. ltb-true (adjacency_at ws ce i) be (all_below (λ i. ltb (adjacency_at ws ce i) be) be (and_right c entries last) i l);
      }))

  pub index_complete : Index ws ce cn bn be → index_right ce cn bn be ws ≡ true
  unfolding index_right
  index_complete (inl w) = rw (eq-eqb bn 0 w.0, eq-eqb be 0 w.1)
  index_complete (inr w) =
      rw (
        eq-eqb (offset_at ws ce cn 0) 0 w.starts,
        below_all (λ x. leb (offset_at ws ce cn x) (offset_at ws ce cn (suc x))) bn (λ x l. le-leb (offset_at ws ce cn x) (offset_at ws ce cn (suc x)) (w.ascends x l)),
        eq-eqb (offset_at ws ce cn bn) be w.stops,
        below_all (λ i. ltb (adjacency_at ws ce i) be) be (λ i l. lt-ltb (adjacency_at ws ce i) be (w.entries i l)),
      ) (or_true (eqb bn 0 && eqb be 0))

-- ---- rule 6

distinct_none : distinct [] ≡ true
unfolding distinct
distinct_none = refl

module _ (ws : List ℕ) (ce cn : ℕ) (counts : Counts) (nodes edges : List Bool) where
  -- the runs of all node slots
  runs : List (List ℕ)
  runs = map (run_list ws ce cn) (from 0 counts.nodes.bound)

  run_at : (x : ℕ) → x < counts.nodes.bound → get_or runs x [] ≡ run_list ws ce cn x
  unfolding runs
  run_at x l =
      get_d_map (run_list ws ce cn) (from 0 counts.nodes.bound) x 0 [] (rw (length_from 0 counts.nodes.bound) l)
      ∙ ap (run_list ws ce cn) (get_or_from 0 counts.nodes.bound x 0 l ∙ zero-add x)

  past_runs : (x : ℕ) → counts.nodes.bound ≤ x → get_or runs x [] ≡ []
  unfolding runs
  past_runs x l = get_or-eq_default runs [] (rw (length-map (from 0 counts.nodes.bound) (run_list ws ce cn), length_from 0 counts.nodes.bound) l)

  pub runs_sound : runs_right ce cn counts nodes edges ws ≡ true → Runs ws ce cn counts.nodes.bound counts.edges.bound
  unfolding runs_right runs
  runs_sound h =
      let a = all (run_right ce cn counts.edges.bound ws) (from 0 counts.nodes.bound) in
      let b = distinct (joined runs) in
      let c = all (λ x. get_or nodes x false || all (λ e. not (get_or edges e false)) (run_list ws ce cn x)) (from 0 counts.nodes.bound) in
      let once = and_left b c (and_right a (b && c) h) in
      record {
        run = λ x l marked. run_sound ws ce cn counts.edges.bound x marked (ap distinct (sym (run_at x l)) ∙ distinct_at runs once x)
            (all_below (run_right ce cn counts.edges.bound ws) counts.nodes.bound (and_left a (b && c) h) x l);
        apart = λ x y e l k m n. joined_apart runs once x y e (ap (member e) (run_at x l) ∙ m) (ap (member e) (run_at y k) ∙ n);
      }

  pub dead_runs_sound : runs_right ce cn counts nodes edges ws ≡ true → (x e : ℕ) → x < counts.nodes.bound → get_or nodes x false ≡ false
      → In e (run_list ws ce cn x) → get_or edges e false ≡ false
  unfolding runs_right runs
  dead_runs_sound h x e l dead m =
      let a = all (run_right ce cn counts.edges.bound ws) (from 0 counts.nodes.bound) in
      let b = distinct (joined runs) in
      let c = all (λ x. get_or nodes x false || all (λ e. not (get_or edges e false)) (run_list ws ce cn x)) (from 0 counts.nodes.bound) in
      let test = all_below (λ x. get_or nodes x false || all (λ e. not (get_or edges e false)) (run_list ws ce cn x)) counts.nodes.bound
      (and_right b c (and_right a (b && c) h)) x l in
      not-true (get_or edges e false) (all_member (λ e. not (get_or edges e false)) (run_list ws ce cn x) (or_other test dead) e m)

  pub runs_complete : Runs ws ce cn counts.nodes.bound counts.edges.bound
      → ((x e : ℕ) → x < counts.nodes.bound → get_or nodes x false ≡ false → In e (run_list ws ce cn x) → get_or edges e false ≡ false)
      → runs_right ce cn counts nodes edges ws ≡ true
  unfolding runs_right runs
  runs_complete r dead =
      rw (
        below_all (run_right ce cn counts.edges.bound ws) counts.nodes.bound (λ x l. run_complete ws ce cn counts.edges.bound x (r.run x l)),
        apart_joined runs once apart,
      )
      (below_all (λ x. get_or nodes x false || all (λ e. not (get_or edges e false)) (run_list ws ce cn x)) counts.nodes.bound
      (λ x l. by_test (get_or nodes x false) (λ q. rw q)
      (λ q. rw q (all_of (λ e. not (get_or edges e false)) (run_list ws ce cn x) (λ e m. rw (dead x e l q m))))))
    where
      once : (x : ℕ) → distinct (get_or runs x []) ≡ true
      once x =
          ⊎_elim (λ l. ap distinct (run_at x l) ∙ by_test (eqb (mark_at ws ce cn x) 0)
          (λ q. ap distinct (run_list_unmarked ws ce cn x (eqb-true (mark_at ws ce cn x) 0 q)) ∙ distinct_none) (λ q. run_once (r.run x l (eqb-false (mark_at ws ce cn x) 0 q))))
          (λ l. ap distinct (past_runs x l) ∙ distinct_none) (below_or_not x counts.nodes.bound)

      apart : (x y e : ℕ) → In e (get_or runs x []) → In e (get_or runs y []) → x ≡ y
      apart x y e m n =
          ⊎_elim
          (λ l. ⊎_elim (λ k. r.apart x y e l k (ap (member e) (sym (run_at x l)) ∙ m) (ap (member e) (sym (run_at y k)) ∙ n))
          (λ k. in_none e (ap (member e) (sym (past_runs y k)) ∙ n)) (below_or_not y counts.nodes.bound))
          (λ l. in_none e (ap (member e) (sym (past_runs x l)) ∙ m)) (below_or_not x counts.nodes.bound)

-- ---- rule 7

module _ (p : Plain) (d : TraversalDirection) where
  node_test : ℕ → Bool
  node_test x = distinct (list_of d p x) && all (λ e. eqb (end_of d p e) x) (list_of d p x)

  edge_test : ℕ → Bool
  edge_test e = not (get_or (edge_flags p) e false) || (member e (list_of d p (end_of d p e)) && get_or (node_flags p) (end_of d p e) false)

  passes_node : walks_right p d ≡ true → (x : ℕ) → x < node_bound p → node_test x ≡ true
  unfolding walks_right node_test edge_test
  passes_node h = all_below node_test (node_bound p) (and_left (all node_test (from 0 (node_bound p))) (all edge_test (from 0 (edge_bound p))) h)

  passes_edge : walks_right p d ≡ true → (e : ℕ) → e < edge_bound p → edge_test e ≡ true
  unfolding walks_right node_test edge_test
  passes_edge h = all_below edge_test (edge_bound p) (and_right (all node_test (from 0 (node_bound p))) (all edge_test (from 0 (edge_bound p))) h)

  -- a live edge is listed at its end, which is live
  live_listed : walks_right p d ≡ true → (e : ℕ) → get_or (edge_flags p) e false ≡ true
      → (member e (list_of d p (end_of d p e)) && get_or (node_flags p) (end_of d p e) false) ≡ true
  unfolding edge_test
  live_listed h e live = or_other {a = not (get_or (edge_flags p) e false)} (passes_edge h e (edge_below p e live)) (rw live)

  pub walks_live : walks_right p d ≡ true → (e : ℕ) → get_or (edge_flags p) e false ≡ true → get_or (node_flags p) (end_of d p e) false ≡ true
  walks_live h e live = and_right (member e (list_of d p (end_of d p e))) (get_or (node_flags p) (end_of d p e) false) (live_listed h e live)

  pub walks_sound : walks_right p d ≡ true → Framed p d → Incident (edge_flags p) (node_bound p) (incidence d p)
  unfolding node_test
  walks_sound h f = record {
    ends_length = f.ends_length;
    lists_length = f.lists_length;
    ends_below = f.ends_below;
    listed = λ x e. same_truth (member e (list_of d p x)) (get_or (edge_flags p) e false && eqb (end_of d p e) x)
        (λ m. both_true (f.entries_live x e m)
        (⊎_elim (λ l. all_member (λ e. eqb (end_of d p e) x) (list_of d p x)
        (and_right (distinct (list_of d p x)) (all (λ e. eqb (end_of d p e) x) (list_of d p x)) (passes_node h x l)) e m)
        (λ l. in_none e (ap (member e) (sym (past x l)) ∙ m)) (below_or_not x (node_bound p))))
        (λ k. let live = and_left (get_or (edge_flags p) e false) (eqb (end_of d p e) x) k in
        let at : end_of d p e ≡ x = eqb-true (end_of d p e) x (and_right (get_or (edge_flags p) e false) (eqb (end_of d p e) x) k) in
        ap (λ (y : ℕ). member e (list_of d p y)) (sym at) ∙ and_left (member e (list_of d p (end_of d p e))) (get_or (node_flags p) (end_of d p e) false) (live_listed h e live));
    once = λ x. ⊎_elim (λ l. and_left (distinct (list_of d p x)) (all (λ e. eqb (end_of d p e) x) (list_of d p x)) (passes_node h x l))
        (λ l. ap distinct (past x l) ∙ distinct_none) (below_or_not x (node_bound p));
  }
    where
      past : (x : ℕ) → node_bound p ≤ x → list_of d p x ≡ []
      past x l = get_or-eq_default (incidence d p).lists [] (rw f.lists_length l)

  -- well-formed lists pass
  pub walks_complete : {caps : Capacities} → WellFormed caps p → walks_right p d ≡ true
  unfolding walks_right
  walks_complete w =
      let t = incident w d in
      both_true
      (below_all (λ x. distinct (list_of d p x) && all (λ e. eqb (end_of d p e) x) (list_of d p x)) (node_bound p)
      (λ x l. both_true (t.once x) (all_of (λ e. eqb (end_of d p e) x) (list_of d p x)
      (λ e m. and_right (get_or (edge_flags p) e false) (eqb (end_of d p e) x) (sym (t.listed x e) ∙ m)))))
      (below_all (λ e. not (get_or (edge_flags p) e false) || (member e (list_of d p (end_of d p e)) && get_or (node_flags p) (end_of d p e) false)) (edge_bound p)
      (λ e l. by_test (get_or (edge_flags p) e false)
      (λ q. rw (q, t.listed (end_of d p e) e, q, eq-eqb (end_of d p e) (end_of d p e) refl) (w.ends_live d e q)) (λ q. rw q)))
