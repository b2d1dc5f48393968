-- Laws of the least width: it holds every number below n, and no lesser one does.
use Rattle.std.specs.Prelude.{ℕ, zero, suc, ◌+◌, ◌-◌, ◌^◌, ◌≤◌, ◌<◌, ◌≡◌, ltb}
use Rattle.plain.specs.Library.{⊎_elim, pow_pos, arith, ltb-true}
use Rattle.std.proofs.Common.{add-zero, eq-or-lt_of_le, ltb-false}
use Rattle.plain.specs.Bits.{least_from, least_width}
use Rattle.plain.proofs.Laws.Booleans.{by_test}

from_holds : (t w k : ℕ) → k < 2 ^ (w + t) → k < 2 ^ least_from t w k
unfolding least_from
from_holds zero w k h = rw add-zero at h
from_holds (suc t) w k h =
    by_test (ltb k (2 ^ w)) (λ q. rw q (ltb-true k (2 ^ w) q))
    (λ q. rw q (from_holds t (suc w) k (let e : suc w + t ≡ w + suc t = omega arith in rw e h)))

from_least : (t w k j : ℕ) → w ≤ j → j < least_from t w k → 2 ^ j ≤ k
unfolding least_from
from_least zero w k j h l = absurd (omega arith)
from_least (suc t) w k j h l =
    by_test (ltb k (2 ^ w)) (λ q. absurd (let m = rw q at l in omega arith))
    (λ q. ⊎_elim (λ e. rw (← e) (ltb-false k (2 ^ w) q)) (λ e. from_least t (suc w) k j e (rw q at l)) (eq-or-lt_of_le h))

from_most : (t w k : ℕ) → least_from t w k ≤ w + t
unfolding least_from
from_most zero w k = omega arith
from_most (suc t) w k =
    by_test (ltb k (2 ^ w)) (λ q. rw q (omega arith)) (λ q. rw q (omega (arith, from_most t (suc w) k)))

-- the width holds every number below n
pub width_holds : (n : ℕ) → n ≤ 2 ^ 32 → n ≤ 2 ^ least_width n
unfolding least_width
width_holds n h = omega (arith, from_holds 32 0 (n - 1) (omega arith))

-- no lesser width does
pub width_least : (n w : ℕ) → n ≤ 2 ^ w → least_width n ≤ w
unfolding least_width
width_least n w h =
    by_test (ltb w (least_width n))
    (λ q. absurd (let m = from_least 32 0 (n - 1) w (omega arith) (ltb-true w (least_width n) q) in omega (arith, pow_pos w)))
    (λ q. ltb-false w (least_width n) q)

-- it is at most 32
pub width_most : (n : ℕ) → least_width n ≤ 32
unfolding least_width
width_most n = from_most 32 0 (n - 1)

-- a width that holds them, of which no lesser does, is the least
pub width_is : (n w : ℕ) → n ≤ 2 ^ 32 → n ≤ 2 ^ w → ((k : ℕ) → k < w → 2 ^ k < n) → w ≡ least_width n
width_is n w b h m =
    by_test (ltb (least_width n) w)
    (λ q. absurd (let g = m (least_width n) (ltb-true (least_width n) w q) in omega (arith, width_holds n b)))
    (λ q. let g = ltb-false (least_width n) w q in omega (arith, width_least n w h))
