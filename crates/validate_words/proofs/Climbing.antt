-- Rings that climb: a step past an edge, the edges one after the other, and that every ring closes where all climb and as many are a last as there are rings.
use Rattle.std.specs.Prelude.{ℕ, zero, suc, ◌+◌, ◌-◌, ◌*◌, ◌≤◌, ◌<◌, ◌≡◌, refl, Bool, true, false, cond, ◌&&◌, not, List, map, length, eqb, ltb, leb}
use mir.Val.{bool_byte}
use Rattle.plain.specs.Library.{sym, ap, subst, ◌∙◌, ⊎_elim, length-map, arith, eq-eqb, ne_eqb, eqb-true, eqb-false, lt-ltb, le-leb, ltb-true, leb-true}
use Rattle.plain.specs.Numbers.{NONE, LIMIT}
use Rattle.plain.specs.Lists.{member, distinct, all, from, keep, count}
use Rattle.plain.proofs.Laws.Booleans.{by_test, below_or_not, and_left, and_right, both_true}
use Rattle.plain.proofs.Laws.ListLaws.{length_keep, member_keep, member_source, member_from, member_below, distinct_full, distinct_map, distinct_keep, distinct_from}
use Rattle.shape.specs.Columns.{cell, end_at, next_at, last_at}
use Rattle.shape.specs.Rules.{ring_right}
use Rattle.shape.proofs.Laws.Checking.{below_all}
use Rattle.validate_words.specs.Laws.Passing.{slots_from, slots_more, slots_none}
use Rattle.validate_words.specs.Rings.{own_test}
use Rattle.validate_words.specs.Climbs.{Picked, is_last, some_at, Linked, Climbs}
use Rattle.validate_words.proofs.Ringing.{closes, closes_last, closes_more, ring_none, ring_some}

-- a truth as a number
pub byte_is : (b : Bool) → bool_byte b ≡ cond b 1 0
byte_is true = refl
byte_is false = refl

pub byte_few : (b : Bool) → bool_byte b ≤ 1
byte_few b = by_test b (λ t. rw (byte_is b, t) (omega arith)) (λ t. rw (byte_is b, t) (omega arith))

-- what a link is by the four tests
pub link_tested : {ws : List ℕ} {ce be eb e reach : ℕ} → be ≤ next_at ws ce e → next_at ws ce e < eb → end_at ws (next_at ws ce e) ≡ end_at ws e
    → Picked (last_at ws ce (end_at ws e)) e eb (next_at ws ce e) reach → e < reach → Linked ws ce be eb e
link_tested {ws} {ce} {e = e} least below own is up = record {
  least = least;
  below = below;
  own = own;
  up = λ other. let q = rw (ne_eqb (last_at ws ce (end_at ws e)) e other) at is.is in omega arith;
}

module _ (ws : List ℕ) (ce be eb nb : ℕ) where
  abbrev last : ℕ → Bool
  last = is_last ws ce

  -- The edges of the delta before e climb, and the lasts among them are counted.
  pub record Climbing (e lasts : ℕ) : Type 0 where
    pub least : be ≤ e
    pub climbs : (k : ℕ) → be ≤ k → k < e → Climbs ws ce be eb nb k
    pub counted : lasts + count last (slots_from e eb) ≡ count last (slots_from be eb)
    pub few : lasts ≤ e

  pub climbing_start : Climbing be 0
  climbing_start = record { least = omega arith; climbs = λ k l m. absurd (omega arith); counted = omega arith; few = omega arith }

  -- an edge climbs
  pub climbing_on : {e lasts step : ℕ} → Climbing e lasts → e < eb → Climbs ws ce be eb nb e → step ≡ cond (last e) 1 0 → Climbing (e + 1) (lasts + step)
  unfolding count
  climbing_on {e} {lasts} {step} c l s q = record {
    least = omega arith;
    climbs = λ k low m. ⊎_elim (λ b. c.climbs k low b) (λ (b : e ≤ k). let at : k ≡ e = omega arith in rw at s) (below_or_not k e);
    counted =
        let more : count last (slots_from e eb) ≡ cond (last e) 1 0 + count last (slots_from (e + 1) eb) = rw (slots_more e eb l) in
        omega (arith, c.counted, q);
    few = let one : cond (last e) 1 0 ≤ 1 = by_test (last e) (λ t. rw t (omega arith)) (λ t. rw t (omega arith)) in omega (arith, q);
  }

  -- What the test has found when it passes.
  pub record Climbed : Type 0 where
    pub small : eb ≤ LIMIT
    pub within : be ≤ eb
    pub climbs : (k : ℕ) → be ≤ k → k < eb → Climbs ws ce be eb nb k
    pub counted : count (some_at ws (4 * ce)) (from 0 nb) ≡ count last (from be (eb - be))

  -- past the last edge
  pub climbing_done : {e lasts : ℕ} → eb ≤ LIMIT → be ≤ eb → Climbing e lasts → eb ≤ e → count (some_at ws (4 * ce)) (from 0 nb) ≡ lasts → Climbed
  unfolding count
  climbing_done {e} {lasts} small within c l q = record {
    small = small;
    within = within;
    climbs = λ k low m. c.climbs k low (omega arith);
    counted = let none : count last (slots_from e eb) ≡ 0 = rw (slots_none e eb l) in omega (arith, c.counted);
  }

  -- An edge of the delta whose end is x.
  record Own (x e : ℕ) : Type 0 where
    least : be ≤ e
    below : e < eb
    at : end_at ws e ≡ x

  own_true : {x e : ℕ} → Own x e → own_test be eb ws x e ≡ true
  unfolding own_test
  own_true {x} {e} o = both_true (le-leb be e o.least) (both_true (lt-ltb e eb o.below) (eq-eqb (end_at ws e) x o.at))

  -- the edges that are a last, and the nodes with a ring
  abbrev lasts : List ℕ
  lasts = keep last (from be (eb - be))

  abbrev rings : List ℕ
  rings = keep (some_at ws (4 * ce)) (from 0 nb)

  -- what a last is
  record IsLast (e : ℕ) : Type 0 where
    least : be ≤ e
    below : e < eb
    last : last_at ws ce (end_at ws e) ≡ e

  a_last : be ≤ eb → (e : ℕ) → member e lasts ≡ true → IsLast e
  a_last within e m =
      let h : (member e (from be (eb - be)) && last e) ≡ true = sym (member_keep last e (from be (eb - be))) ∙ m in
      let r : (leb be e && ltb e (be + (eb - be))) ≡ true = sym (member_from e be (eb - be)) ∙ and_left (member e (from be (eb - be))) (last e) h in
      let low = leb-true be e (and_left (leb be e) (ltb e (be + (eb - be))) r) in
      let high = ltb-true e (be + (eb - be)) (and_right (leb be e) (ltb e (be + (eb - be))) r) in
      record { least = low; below = omega arith; last = eqb-true (last_at ws ce (end_at ws e)) e (and_right (member e (from be (eb - be))) (last e) h) }

  module _ (c : Climbed) where
    -- the ends of the lasts are different nodes
    ends_once : distinct (map (end_at ws) lasts) ≡ true
    ends_once =
        distinct_map (end_at ws) lasts
        (λ x y a b q. sym (a_last c.within x a).last ∙ ap (last_at ws ce) q ∙ (a_last c.within y b).last)
        ∙ distinct_keep last (from be (eb - be)) (distinct_from be (eb - be))

    -- that have a ring
    ends_within : (x : ℕ) → member x (map (end_at ws) lasts) ≡ true → member x rings ≡ true
    ends_within x m =
        let s = member_source (end_at ws) x lasts m in
        let k = s.0 in
        let l = a_last c.within k s.1 in
        let at : end_at ws k ≡ x = s.2 in
        let low = (c.climbs k l.least l.below).end_below in
        member_keep (some_at ws (4 * ce)) x (from 0 nb)
        ∙ both_true (member_below x nb ∙ lt-ltb x nb (omega arith))
        (ap not (ne_eqb (last_at ws ce x) NONE (λ q. let r = ap (last_at ws ce) at in omega (arith, l.last, c.small))))

    -- as many as there are, so each node with a ring is the end of its last
    last_own : (x : ℕ) → x < nb → (last_at ws ce x ≡ NONE → ⊥) → Own x (last_at ws ce x)
    last_own x l some =
        let there : member x rings ≡ true =
        member_keep (some_at ws (4 * ce)) x (from 0 nb) ∙ both_true (member_below x nb ∙ lt-ltb x nb l) (ap not (ne_eqb (last_at ws ce x) NONE some)) in
        let long : length rings ≤ length (map (end_at ws) lasts) =
        omega (arith, length_keep (some_at ws (4 * ce)) (from 0 nb), length_keep last (from be (eb - be)), length-map lasts (end_at ws), c.counted) in
        let s = member_source (end_at ws) x lasts (distinct_full (map (end_at ws) lasts) rings ends_once ends_within long x there) in
        let k = s.0 in
        let a = a_last c.within k s.1 in
        let q : k ≡ last_at ws ce x = sym a.last ∙ ap (last_at ws ce) s.2 in
        subst (λ (e : ℕ). Own x e) q (record { least = a.least; below = a.below; at = s.2 })

    module _ (x : ℕ) (some : last_at ws ce x ≡ NONE → ⊥) where
      -- an edge of its own is linked to another
      linked : {e : ℕ} → Own x e → Linked ws ce be eb e
      linked {e} o = (c.climbs e o.least o.below).linked (λ q. some (ap (last_at ws ce) (sym o.at) ∙ q))

      next_own : {e : ℕ} → Own x e → Own x (next_at ws ce e)
      next_own o = let k = linked o in record { least = k.least; below = k.below; at = k.own ∙ o.at }

      -- the links climb to the last
      climb : (n e : ℕ) → Own x e → eb - e ≤ n → closes (cell ws (2 * ce)) (last_at ws ce x) (own_test be eb ws x) n e ≡ true
      climb zero e o l = absurd (omega (arith, o.below))
      climb (suc n) e o l =
          let end = last_at ws ce x in
          by_test (eqb e end) (λ q. closes_last (cell ws (2 * ce)) end (own_test be eb ws x) (suc n) e (omega arith) (own_true o) (eqb-true e end q))
          (λ q. let other = eqb-false e end q in
          let up = (linked o).up (λ r. other (sym r ∙ ap (last_at ws ce) o.at)) in
          let one : suc n - 1 ≡ n = omega arith in
          closes_more (cell ws (2 * ce)) end (own_test be eb ws x) (suc n) e (omega arith) (own_true o) other
          ∙ ap (λ (z : ℕ). closes (cell ws (2 * ce)) end (own_test be eb ws x) z (next_at ws ce e)) one
          ∙ climb n (next_at ws ce e) (next_own o) (omega arith))

    -- every ring closes
    ring_closes : (x : ℕ) → x < nb → ring_right ce be eb ws x ≡ true
    ring_closes x l =
        by_test (eqb (last_at ws ce x) NONE) (λ q. sym (ring_none ws ce be eb x (eqb-true (last_at ws ce x) NONE q)))
        (λ q. let some = eqb-false (last_at ws ce x) NONE q in
        let first = next_own x some (last_own x l some) in
        sym (ring_some ws ce be eb x some) ∙ climb x some (eb - be) (cell ws (2 * ce) (last_at ws ce x)) first (omega (arith, first.least)))

    pub rings_close : all (ring_right ce be eb ws) (from 0 nb) ≡ true
    rings_close = below_all (ring_right ce be eb ws) nb ring_closes
