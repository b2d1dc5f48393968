-- Following a ring: what the entries from one on decide, and rule 5 for one node by it.
use Rattle.std.specs.Prelude.{ℕ, zero, suc, ◌-◌, ◌*◌, ◌≤◌, ◌<◌, ◌≡◌, refl, Bool, true, false, ◌&&◌, List, eqb, ltb, leb}
use Rattle.plain.specs.Library.{sym, ap, ◌∙◌, arith, eq-eqb, ne_eqb, ltb-true}
use Rattle.plain.specs.Numbers.{NONE}
use Rattle.plain.specs.Lists.{member, all}
use Rattle.plain.proofs.Laws.Booleans.{and_left, and_right, refuted}
use Rattle.plain.proofs.Laws.ListLaws.{all_member}
use Rattle.shape.specs.Columns.{cell, end_at, last_at}
use Rattle.shape.specs.Chains.{until}
use Rattle.shape.specs.Rules.{ring_right}
use Rattle.validate_words.specs.Rings.{own_test}

module _ (link : ℕ → ℕ) (last : ℕ) (test : ℕ → Bool) where
  -- whether the links from e on come to `last` within n entries that all pass
  unfoldable pub closes : ℕ → ℕ → Bool
  closes n e = all test (until link last n e) && member last (until link last n e)

  -- they do not within none
  pub closes_none : (n e : ℕ) → n ≤ 0 → closes n e ≡ false
  unfolding closes all until member
  closes_none zero e l = refl
  closes_none (suc n) e l = absurd (omega arith)

  module _ (n e : ℕ) (l : 0 < n) where
    entry : n ≡ suc (n - 1)
    entry = omega arith

    -- an entry fails
    pub closes_fails : test e ≡ false → closes n e ≡ false
    unfolding closes all until
    closes_fails h = rw (entry, h)

    -- the last entry passes
    pub closes_last : test e ≡ true → e ≡ last → closes n e ≡ true
    unfolding closes all until member
    closes_last h q = rw (entry, h, eq-eqb e last q, eq-eqb last e (sym q))

    -- an entry before it passes
    pub closes_more : test e ≡ true → (e ≡ last → ⊥) → closes n e ≡ closes (n - 1) (link e)
    unfolding closes all until member
    closes_more h q =
        let more : closes (suc (n - 1)) e ≡ closes (n - 1) (link e) = rw (h, ne_eqb e last q, ne_eqb last e (λ r. q (sym r))) in
        ap (λ (z : ℕ). closes z e) entry ∙ more

module _ (ws : List ℕ) (ce be eb x : ℕ) where
  -- an edge of its own is below the bound
  pub own_below : (e : ℕ) → own_test be eb ws x e ≡ true → e < eb
  unfolding own_test
  own_below e h =
      let b = ltb e eb in
      let c = eqb (end_at ws e) x in
      ltb-true e eb (and_left b c (and_right (leb be e) (b && c) h))

  -- no ring
  pub ring_none : last_at ws ce x ≡ NONE → true ≡ ring_right ce be eb ws x
  unfolding ring_right
  ring_none q = rw (eq-eqb (last_at ws ce x) NONE q)

  -- a ring is what its links decide
  pub ring_some : (last_at ws ce x ≡ NONE → ⊥)
      → closes (cell ws (2 * ce)) (last_at ws ce x) (own_test be eb ws x) (eb - be) (cell ws (2 * ce) (last_at ws ce x)) ≡ ring_right ce be eb ws x
  unfolding ring_right closes own_test
  ring_some n = rw (ne_eqb (last_at ws ce x) NONE n)

  -- its last edge is below the bound
  pub ring_out : (last_at ws ce x ≡ NONE → ⊥) → eb ≤ last_at ws ce x → false ≡ ring_right ce be eb ws x
  unfolding closes
  ring_out n l =
      let last = last_at ws ce x in
      let entries = until (cell ws (2 * ce)) last (eb - be) (cell ws (2 * ce) last) in
      let a = all (own_test be eb ws x) entries in
      let b = member last entries in
      sym (refuted (a && b) (λ h. let k = own_below last (all_member (own_test be eb ws x) entries (and_left a b h) last (and_right a b h)) in omega arith)) ∙ ring_some n
