-- Decimal numbers digit by digit, from the last: how many there are, and what stands in the text as they are written.
use Rattle.std.specs.Prelude.{ℕ, zero, suc, ◌+◌, ◌-◌, ◌*◌, ◌/◌, ◌%◌, ◌^◌, ◌≤◌, ◌<◌, ◌≡◌, refl, List, [], ◌∷◌, ◌++◌, length, set, ltb}
use Rattle.plain.specs.Library.{sym, ap, ◌∙◌, append-nil, arith, lt-ltb, le-ltb, ltb-true}
use Rattle.std.proofs.Common.{ltb-false}
use lib.ListN.{drop_of_length-le}
use native.Mathlib.Nat.{div-lt_iff_lt-mul, pow-suc}
use Rattle.plain.specs.Lotstrip.{digits_before, decimal}
use Rattle.plain.proofs.Laws.Booleans.{by_test}
use Rattle.bits.specs.Put.{Put}
use Rattle.bits.specs.Laws.Put.{put_none, put_before, put_written}

-- ---- the definition by its cases

digit_last : (t n : ℕ) (rest : List ℕ) → n < 10 → digits_before (suc t) n rest ≡ (48 + n) ∷ rest
unfolding digits_before
digit_last t n rest h = rw (lt-ltb n 10 h)

digit_more : (t n : ℕ) (rest : List ℕ) → 10 ≤ n → digits_before (suc t) n rest ≡ digits_before t (n / 10) ((48 + n % 10) ∷ rest)
unfolding digits_before
digit_more t n rest h = rw (le-ltb n 10 h)

-- a digit a turn, and no more
digits_most : (t n : ℕ) (rest : List ℕ) → length (digits_before t n rest) ≤ t + length rest
unfolding digits_before
digits_most zero n rest = omega arith
digits_most (suc t) n rest =
    by_test (ltb n 10) (λ q. rw q (omega arith)) (λ q. rw q (let h = digits_most t (n / 10) ((48 + n % 10) ∷ rest) in omega arith))

digits_least : (t n : ℕ) (rest : List ℕ) → length rest ≤ length (digits_before t n rest)
unfolding digits_before
digits_least zero n rest = omega arith
digits_least (suc t) n rest =
    by_test (ltb n 10) (λ q. rw q (omega arith)) (λ q. rw q (let h = digits_least t (n / 10) ((48 + n % 10) ∷ rest) in omega arith))

-- twenty digits at the most
pub decimal_most : (n : ℕ) → length (decimal n) ≤ 20
decimal_most n = let h = digits_most 20 n [] in omega arith

-- ---- the last digits taken off

-- The digits `rest` of n were taken off, and `left` is what they left. Its digits are not more than there are turns for.
pub record Taken (n left : ℕ) (rest : List ℕ) : Type 0 where
  pub turns : ℕ
  pub whole : digits_before (suc turns) left rest ≡ decimal n
  pub below : left < 10 ^ suc turns

taken_none : (n : ℕ) → n < 2 ^ 64 → Taken n n []
taken_none n h = record { turns = 19; whole = refl; below = omega arith }

taken_more : {n left : ℕ} {rest : List ℕ} → Taken n left rest → 10 ≤ left → Taken n (left / 10) ((48 + left % 10) ∷ rest)
taken_more {n} {left} {rest} k h = on k.turns k.whole k.below
  where
    on : (t : ℕ) → digits_before (suc t) left rest ≡ decimal n → left < 10 ^ suc t → Taken n (left / 10) ((48 + left % 10) ∷ rest)
    on zero whole below = absurd (omega arith)
    on (suc t) whole below = record {
      turns = t;
      whole = sym (digit_more (suc t) left rest h) ∙ whole;
      below = (div-lt_iff_lt-mul {k = 10} {x = left} {y = 10 ^ suc t} (omega arith)).1 (rw pow-suc at below);
    }

-- one digit is left
taken_last : {n left : ℕ} {rest : List ℕ} → Taken n left rest → left < 10 → decimal n ≡ (48 + left) ∷ rest
taken_last {n} {left} {rest} k h = sym k.whole ∙ digit_last k.turns left rest h

-- one at least is
taken_one : {n left : ℕ} {rest : List ℕ} → Taken n left rest → 1 + length rest ≤ length (decimal n)
unfolding digits_before
taken_one {n} {left} {rest} k =
    let more = digits_least k.turns (left / 10) ((48 + left % 10) ∷ rest) in
    let long : 1 + length rest ≤ length (digits_before (suc k.turns) left rest) =
    by_test (ltb left 10) (λ q. rw q (omega arith)) (λ q. rw q (omega arith)) in
    rw k.whole at long

-- ---- counting

power_some : (k : ℕ) → 0 < 10 ^ k
power_some zero = omega arith
power_some (suc k) = let h = power_some k in rw pow-suc (omega arith)

-- of so many powers of ten a number has one digit more
digits_long : (k t n : ℕ) (rest : List ℕ) → k < t → 10 ^ k ≤ n → n < 10 * 10 ^ k → length (digits_before t n rest) ≡ k + 1 + length rest
digits_long k zero n rest few low high = absurd (omega arith)
digits_long zero (suc t) n rest few low high = rw (digit_last t n rest (omega arith)) (omega arith)
digits_long (suc k) (suc t) n rest few low high =
    let low_power : 10 ^ k * 10 ≤ n = rw pow-suc at low in
    let high_power : n < 10 * (10 ^ k * 10) = rw pow-suc at high in
    let some = power_some k in
    let h = digits_long k t (n / 10) ((48 + n % 10) ∷ rest) (omega arith) (omega arith) (omega arith) in
    rw (digit_more t n rest (omega arith)) (omega arith)

pub digits_of_power : (k n : ℕ) → k < 20 → 10 ^ k ≤ n → n < 10 * 10 ^ k → length (decimal n) ≡ k + 1
digits_of_power k n few low high = let h = digits_long k 20 n [] few low high in omega arith

pub digits_of_zero : length (decimal 0) ≡ 1
digits_of_zero = rw (digit_last 19 0 [] (omega arith)) refl

-- ---- writing

-- The last k digits of n are written, to stand before `end` in s, and `left` is left.
pub record WritingDigits (s : List ℕ) (end n left k : ℕ) (t : List ℕ) : Type 0 where
  pub rest : List ℕ
  pub many : length rest ≡ k
  pub some : k < length (decimal n) → Taken n left rest
  pub all : k ≡ length (decimal n) → rest ≡ decimal n
  pub put : Put s (end - k) rest t

pub digits_start : (s : List ℕ) (end n : ℕ) → n < 2 ^ 64 → end ≤ length s → WritingDigits s end n n 0 s
digits_start s end n h room = record {
  rest = [];
  many = refl;
  some = λ l. taken_none n h;
  all = λ e. absurd (omega (arith, taken_one (taken_none n h)));
  put = put_none s (end - 0) (omega arith);
}

pub digits_next : {s t : List ℕ} {end n left k : ℕ} → WritingDigits s end n left k t → k < length (decimal n) → length (decimal n) ≤ end
    → WritingDigits s end n (left / 10) (k + 1) (set t (end - 1 - k) (48 + left % 10))
digits_next {s} {t} {end} {n} {left} {k} w l fits =
    by_test (ltb left 10) (λ q. last (ltb-true left 10 q)) (λ q. more (ltb-false left 10 q))
  where
    taken : Taken n left w.rest
    taken = w.some l

    before : Put s (end - (k + 1)) ((48 + left % 10) ∷ w.rest) (set t (end - 1 - k) (48 + left % 10))
    before =
        let e : suc (end - (k + 1)) ≡ end - k = omega arith in
        let f : end - 1 - k ≡ end - (k + 1) = omega arith in
        rw f (put_before (48 + left % 10) (rw (← e) at w.put))

    last : left < 10 → WritingDigits s end n (left / 10) (k + 1) (set t (end - 1 - k) (48 + left % 10))
    last h =
        let same : left % 10 ≡ left = omega arith in
        let whole : (48 + left % 10) ∷ w.rest ≡ decimal n = rw same (sym (taken_last taken h)) in
        record {
          rest = (48 + left % 10) ∷ w.rest;
          many = omega (arith, w.many);
          some = λ m. absurd (omega (arith, w.many, ap length whole));
          all = λ e. whole;
          put = before;
        }

    more : 10 ≤ left → WritingDigits s end n (left / 10) (k + 1) (set t (end - 1 - k) (48 + left % 10))
    more h =
        let further = taken_more taken h in
        record {
          rest = (48 + left % 10) ∷ w.rest;
          many = omega (arith, w.many);
          some = λ m. further;
          all = λ e. absurd (omega (arith, w.many, taken_one further));
          put = before;
        }

-- all are written
pub digits_end : {s t : List ℕ} {n left k : ℕ} → WritingDigits s (length s) n left k t → k ≡ length (decimal n) → length s ≡ length (decimal n) → t ≡ decimal n
digits_end {s} {t} {n} w e long =
    let from : length s - length (decimal n) ≡ 0 = omega (arith, long) in
    let put : Put s 0 (decimal n) t = rw from at rw (w.all e, e) at w.put in
    put_written put ∙ ap (λ (l : List ℕ). decimal n ++ l) (drop_of_length-le s (omega (arith, long))) ∙ append-nil (decimal n)
