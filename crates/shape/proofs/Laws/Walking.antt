-- Laws for walks over linked lists and over parts of a column: what is read next, and that a list is the same, read from a column that is handed out
-- as a slice of its own. A ring read up to its last entry is closed where that entry is on the way; more room then reads no more.
use Rattle.std.specs.Prelude.{ℕ, zero, suc, ◌+◌, ◌-◌, ◌≤◌, ◌<◌, ◌≡◌, true, false, cond, ◌&&◌, List, [], ◌∷◌, length, eqb, leb, ltb}
use Rattle.plain.specs.Library.{sym, ap, ◌∙◌, subst, length-map, add-one, arith, eq-eqb, ne_eqb, leb-true, ltb-true}
use Prim.Native.Nat.{zero-le, suc-le-suc}
use Rattle.std.proofs.Common.{not-suc-le-zero, le_of_suc-le-suc}
use Rattle.plain.specs.Lists.{member, from}
use Rattle.plain.proofs.Laws.Booleans.{by_test, and_left, and_right, or_other, eqb_comm}
use Rattle.plain.proofs.Laws.ListLaws.{member_first, member_source, member_from, length_from}
use Rattle.shape.specs.Chains.{until, In}
use Rattle.shape.specs.Shape.{between}
use Rattle.shape.proofs.Laws.Chains.{in_none}

-- ---- parts of a column

module _ (column : ℕ → ℕ) (a b : ℕ) where
  -- nothing between a bound and a lower one
  pub between_none : b ≤ a → between column a b ≡ []
  unfolding from
  between_none h = let none : b - a ≡ 0 = omega arith in rw none

  -- the first entry, and those from the next one on
  pub between_some : a < b → between column a b ≡ column a ∷ between column (a + 1) b
  unfolding from
  between_some h = let more : b - a ≡ suc (b - suc a) = omega arith in rw (more, add-one a)

  -- as many entries as places
  pub between_length : length (between column a b) ≡ b - a
  between_length = length-map (from a (b - a)) column ∙ length_from a (b - a)

  -- each entry stands at a place within
  pub between_member : (e : ℕ) → In e (between column a b) → (i : ℕ) × (a ≤ i) × (i < b) × (column i ≡ e)
  between_member e m =
      let found = member_source column e (from a (b - a)) m in
      let i = found.0 in
      let within : (leb a i && ltb i (a + (b - a))) ≡ true = sym (member_from i a (b - a)) ∙ found.1 in
      let low = leb-true a i (and_left (leb a i) (ltb i (a + (b - a))) within) in
      let high = ltb-true i (a + (b - a)) (and_right (leb a i) (ltb i (a + (b - a))) within) in
      (i, low, omega arith, found.2)

-- ---- rings

module _ (link : ℕ → ℕ) (last : ℕ) where
  -- past an entry that is not the last, a closed ring is closed
  closed_rest : (n e : ℕ) → eqb e last ≡ false → In last (until link last (suc n) e) → In last (until link last n (link e))
  unfolding until member
  closed_rest n e q m = or_other (rw q at m) (eqb_comm last e ∙ q)

  -- no more is read than there is room for
  pub until_short : (n e : ℕ) → length (until link last n e) ≤ n
  unfolding until
  until_short zero e = zero-le
  until_short (suc n) e =
      by_test (eqb e last) (λ q. rw q (suc-le-suc zero-le)) (λ q. rw q (suc-le-suc (until_short n (link e))))

  -- more room reads no more of a closed ring
  pub until_wider : (n m e : ℕ) → n ≤ m → In last (until link last n e) → until link last m e ≡ until link last n e
  unfolding until
  until_wider zero m e h c = in_none last c
  until_wider (suc n) zero e h c = absurd (not-suc-le-zero h)
  until_wider (suc n) (suc m) e h c =
      by_test (eqb e last) (λ q. rw q)
      (λ q. rw q (ap (λ (l : List ℕ). e ∷ l) (until_wider n m (link e) (le_of_suc-le-suc h) (closed_rest n e q c))))

  module _ (n e : ℕ) (closed : In last (until link last n e)) where
    -- the first entry of a closed ring is a member
    pub until_first : In e (until link last n e)
    unfolding until
    until_first = first n closed
      where
        first : (k : ℕ) → In last (until link last k e) → In e (until link last k e)
        first zero c = in_none last c
        first (suc k) c = member_first e (cond (eqb e last) [] (until link last k (link e)))

    -- of a closed ring the last entry is read, and nothing after it
    pub until_end : e ≡ last → until link last n e ≡ e ∷ []
    unfolding until
    until_end q = end n closed
      where
        end : (k : ℕ) → In last (until link last k e) → until link last k e ≡ e ∷ []
        end zero c = in_none last c
        end (suc k) c = rw (eq-eqb e last q)

    -- before the last entry a closed ring goes on to a closed ring
    pub until_on : (e ≡ last → ⊥) → (until link last n e ≡ e ∷ until link last n (link e)) × In last (until link last n (link e))
    unfolding until
    until_on ne = on n closed
      where
        on : (k : ℕ) → In last (until link last k e) → (until link last k e ≡ e ∷ until link last k (link e)) × In last (until link last k (link e))
        on zero c = in_none last c
        on (suc k) c =
            let rest = closed_rest k e (ne_eqb e last ne) c in
            let same = until_wider k (suc k) (link e) (omega arith) rest in
            (rw (ne_eqb e last ne) (ap (λ (l : List ℕ). e ∷ l) (sym same)), subst (λ (l : List ℕ). In last l) (sym same) rest)
