-- Lists whose entries are all below a bound: bits below 2, bytes below 256, values below the power of two that holds them.
use Rattle.std.specs.Prelude.{ℕ, zero, suc, ◌≤◌, ◌<◌, ◌≡◌, refl, true, List, [], ◌∷◌, ◌++◌, length, take, drop, get_or, ltb}
use Rattle.plain.specs.Library.{lt_of_lt_of_le, arith, ltb-true, lt-ltb}
use Rattle.std.proofs.Math.Bool.{and-eq-true_iff}
use Rattle.plain.specs.Lists.{all}
use Rattle.plain.specs.Laws.Below.{Below, more, none}

-- of two lists, one after the other
pub below_append : {b : ℕ} {k l : List ℕ} → Below b k → Below b l → Below b (k ++ l)
below_append none t = t
below_append (more h s) t = more h (below_append s t)

-- of a front
pub below_take : {b : ℕ} {l : List ℕ} (n : ℕ) → Below b l → Below b (take n l)
below_take zero s = none
below_take (suc n) none = none
below_take (suc n) (more h s) = more h (below_take n s)

-- of a rest
pub below_drop : {b : ℕ} {l : List ℕ} (n : ℕ) → Below b l → Below b (drop n l)
below_drop zero s = s
below_drop (suc n) none = none
below_drop (suc n) (more h s) = below_drop n s

-- of a higher bound
pub below_mono : {a b : ℕ} {l : List ℕ} → a ≤ b → Below a l → Below b l
below_mono h none = none
below_mono h (more l s) = more (lt_of_lt_of_le l h) (below_mono h s)

-- of each place, also past the end, where 0 stands
pub below_at : {b : ℕ} {l : List ℕ} → 0 < b → Below b l → (i : ℕ) → get_or l i 0 < b
below_at p none i = p
below_at p (more h s) zero = h
below_at p (more h s) (suc i) = below_at p s i

-- and within the list whatever the bound
pub below_within : {b : ℕ} {l : List ℕ} → Below b l → (i : ℕ) → i < length l → get_or l i 0 < b
below_within none i k = absurd (omega arith)
below_within (more h s) zero k = h
below_within (more h s) (suc i) k = below_within s i (omega arith)

-- from each place within the list
pub below_of : {b : ℕ} (l : List ℕ) → ((i : ℕ) → i < length l → get_or l i 0 < b) → Below b l
below_of [] f = none
below_of (x ∷ l) f = more (f 0 (omega arith)) (below_of l (λ i h. f (suc i) (omega arith)))

-- the test of an entry, of all
pub below_all : {b : ℕ} (l : List ℕ) → all (λ e. ltb e b) l ≡ true → Below b l
unfolding all
below_all [] e = none
below_all {b} (x ∷ l) e =
    let both = (and-eq-true_iff (ltb x b) (all (λ y. ltb y b) l)).0 e in
    more (ltb-true x b both.0) (below_all l both.1)

-- and back
pub all_below : {b : ℕ} {l : List ℕ} → Below b l → all (λ e. ltb e b) l ≡ true
unfolding all
all_below none = refl
all_below {b} (more {x = x} h s) = rw (lt-ltb x b h) (all_below s)
