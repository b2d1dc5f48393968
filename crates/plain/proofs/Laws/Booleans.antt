-- Laws of tests: cases on a test, equality of two tests, conjunction, and when two comparisons give the same.
use Rattle.std.specs.Prelude.{ℕ, ◌≤◌, ◌<◌, ◌≡◌, refl, Bool, true, false, ◌&&◌, ◌||◌, ◌⊎◌, eqb, leb, ltb}
use Rattle.plain.specs.Library.{sym, ◌∙◌, inl, inr, ltb-true, leb-true, le-leb, eqb-true, eq-eqb}
use Rattle.std.proofs.Common.{true≢false, ltb-false}

-- by cases on a test
pub by_test : {P : Type 0} (b : Bool) → (b ≡ true → P) → (b ≡ false → P) → P
by_test true yes-case no-case = yes-case refl
by_test false yes-case no-case = no-case refl

-- what is true is not false
pub true_false : {P : Type 0} {b : Bool} → b ≡ true → b ≡ false → P
true_false t f = absurd (true≢false (sym t ∙ f))

-- one number is below another, or not
pub below_or_not : (m n : ℕ) → (m < n) ⊎ (n ≤ m)
below_or_not m n = by_test (ltb m n) (λ h. inl (ltb-true m n h)) (λ h. inr (ltb-false m n h))

-- two tests are equal if each passes where the other does
pub same_truth : (a b : Bool) → (a ≡ true → b ≡ true) → (b ≡ true → a ≡ true) → a ≡ b
same_truth true b f g = sym (f refl)
same_truth false true f g = g refl
same_truth false false f g = refl

-- a test that cannot pass is false
pub refuted : (a : Bool) → (a ≡ true → ⊥) → a ≡ false
refuted true h = absurd (h refl)
refuted false h = refl

-- both parts of a conjunction hold where it does
pub and_left : (a b : Bool) → (a && b) ≡ true → a ≡ true
and_left true b h = refl
and_left false b h = h

pub and_right : (a b : Bool) → (a && b) ≡ true → b ≡ true
and_right true b h = h
and_right false b h = true_false h refl

-- a conjunction holds where both parts do
pub both_true : {a b : Bool} → a ≡ true → b ≡ true → (a && b) ≡ true
both_true h k = rw (h, k)

-- one part of a disjunction that holds, where the other part does not
pub or_other : {a b : Bool} → (a || b) ≡ true → a ≡ false → b ≡ true
or_other h k = rw k at h

-- comparisons give the same where each passes if the other does
pub leb_same : (a b c d : ℕ) → (a ≤ b → c ≤ d) → (c ≤ d → a ≤ b) → leb a b ≡ leb c d
leb_same a b c d f g = same_truth (leb a b) (leb c d) (λ h. le-leb c d (f (leb-true a b h))) (λ h. le-leb a b (g (leb-true c d h)))

pub eqb_same : (a b c d : ℕ) → (a ≡ b → c ≡ d) → (c ≡ d → a ≡ b) → eqb a b ≡ eqb c d
eqb_same a b c d f g = same_truth (eqb a b) (eqb c d) (λ h. eq-eqb c d (f (eqb-true a b h))) (λ h. eq-eqb a b (g (eqb-true c d h)))

-- the order of the two does not matter to a test for equality
pub eqb_comm : (a b : ℕ) → eqb a b ≡ eqb b a
eqb_comm a b = eqb_same a b b a sym sym

-- a conjunction with what is false, a disjunction with what is true
pub and_false : (a : Bool) → (a && false) ≡ false
and_false true = refl
and_false false = refl

pub and_true : (a : Bool) → (a && true) ≡ a
and_true true = refl
and_true false = refl

pub or_true : (a : Bool) → (a || true) ≡ true
or_true true = refl
or_true false = refl

pub or_false : (a : Bool) → (a || false) ≡ a
or_false true = refl
or_false false = refl
