-- Laws of the live flags: read at a slot, one more slot, one slot changed.
use Rattle.std.specs.Prelude.{ℕ, zero, suc, ◌+◌, ◌*◌, ◌/◌, ◌%◌, ◌^◌, ◌≤◌, ◌<◌, ◌≡◌, refl, Bool, true, false, List, [], ◌∷◌, ◌++◌, map, length, get_or, set, take, eqb}
use Rattle.plain.specs.Library.{sym, ap, ◌∙◌, length-set, length-map, get_or-eq_default, ext_get_or, get_or-set_same, get_or-set_other, pow_pos, arith, eq-eqb, ne_eqb, eqb-true}
use Rattle.std.proofs.Common.{add-zero, div-lt_iff_lt-mul, get_or-take, length-take-le}
use Rattle.std.proofs.Math.Nat.{div-eq_of_lt}
use Rattle.std.proofs.Math.Decide.{ℕ_discrete, dec_le}
use Rattle.plain.specs.Lists.{from}
use Rattle.liveness.specs.Flags.{bit, live_bit, live_flags, packed}
use Rattle.liveness.specs.Laws.Bits.{bit_small, same_bits}
use Rattle.plain.specs.Reads.{live_count}
use Rattle.plain.proofs.Laws.ListLaws.{count_length}

-- one number more at the end
from_suc : (a n : ℕ) → from a (suc n) ≡ from a n ++ ((a + n) ∷ [])
unfolding from
from_suc a zero = rw (add-zero a)
from_suc a (suc n) = let e : suc a + n ≡ a + suc n = omega arith in ap (λ (l : List ℕ). a ∷ l) (rw e at (from_suc (suc a) n))

length_from : (a n : ℕ) → length (from a n) ≡ n
unfolding from
length_from a zero = refl
length_from a (suc n) = ap suc (length_from (suc a) n)

map_append : {A B : Type 0} (f : A → B) (s t : List A) → map f (s ++ t) ≡ map f s ++ map f t
map_append f [] t = refl
map_append f (x ∷ s) t = ap (λ l. f x ∷ l) (map_append f s t)

-- the number at a place
map_from : (f : ℕ → Bool) (a n i : ℕ) → i < n → get_or (map f (from a n)) i false ≡ f (a + i)
unfolding from
map_from f a zero i h = absurd (omega arith)
map_from f a (suc n) zero h = rw (add-zero a)
map_from f a (suc n) (suc i) h = let e : suc a + i ≡ a + suc i = omega arith in rw e at (map_from f (suc a) n i (omega arith))

-- as many flags as slots
pub length_flags : (words : List ℕ) (n : ℕ) → length (live_flags words n) ≡ n
unfolding live_flags
length_flags words n = length-map (from 0 n) (live_bit words) ∙ length_from 0 n

-- the flag of a slot is its bit
pub flag_at : (words : List ℕ) (n i : ℕ) → i < n → get_or (live_flags words n) i false ≡ live_bit words i
unfolding live_flags
flag_at words n i h = let e : 0 + i ≡ i = omega arith in rw e at (map_from (live_bit words) 0 n i h)

-- a slot out of range is not live
pub flag_past : (words : List ℕ) (n i : ℕ) → n ≤ i → get_or (live_flags words n) i false ≡ false
flag_past words n i h = get_or-eq_default (live_flags words n) false (rw (length_flags words n) h)

-- one slot more
pub flags_suc : (words : List ℕ) (n : ℕ) → live_flags words (suc n) ≡ live_flags words n ++ (live_bit words n ∷ [])
unfolding live_flags
flags_suc words n = let e : 0 + n ≡ n = omega arith in rw e at (ap (map (live_bit words)) (from_suc 0 n) ∙ map_append (live_bit words) (from 0 n) ((0 + n) ∷ []))

-- flags are equal where the bits are
pub flags_same : (a b : List ℕ) (n : ℕ) → ((i : ℕ) → i < n → live_bit a i ≡ live_bit b i) → live_flags a n ≡ live_flags b n
flags_same a b n h =
    ext_get_or false (live_flags a n) (live_flags b n) (length_flags a n ∙ sym (length_flags b n))
    (λ i k. let l : i < n = omega (arith, length_flags a n) in flag_at a n i l ∙ h i l ∙ sym (flag_at b n i l))

-- the flags of fewer slots are the first of the flags
pub flags_take : (words : List ℕ) (n m : ℕ) → m ≤ n → take m (live_flags words n) ≡ live_flags words m
flags_take words n m h =
    ext_get_or false (take m (live_flags words n)) (live_flags words m) (long ∙ sym (length_flags words m))
    (λ i k.
    let l : i < m = omega (arith, long) in
    get_or-take m (live_flags words n) i false l ∙ flag_at words n i (omega arith) ∙ sym (flag_at words m i l))
  where
    long : length (take m (live_flags words n)) ≡ m
    long = length-take-le m (live_flags words n) (rw (length_flags words n) h)

-- one slot changed: the other bits are as they were
pub flags_set : (a b : List ℕ) (n k : ℕ) (v : Bool) → live_bit b k ≡ v → ((i : ℕ) → (i ≡ k → ⊥) → live_bit b i ≡ live_bit a i)
    → live_flags b n ≡ set (live_flags a n) k v
flags_set a b n k v here others =
    ext_get_or false (live_flags b n) (set (live_flags a n) k v) (length_flags b n ∙ sym (length-set (live_flags a n) k v ∙ length_flags a n))
    (λ i l. at i (omega (arith, length_flags b n)) (ℕ_discrete i k))
  where
    at : (i : ℕ) → i < n → Dec (i ≡ k) → get_or (live_flags b n) i false ≡ get_or (set (live_flags a n) k v) i false
    at i l (yes e) =
        rw (e, flag_at b n k (omega arith), get_or-set_same (live_flags a n) k v false (omega (arith, length_flags a n))) here
    at i l (no e) = rw (flag_at b n i l, get_or-set_other (live_flags a n) k i v false e, flag_at a n i l) (others i e)

-- ---- one word changed

-- the bits of the word that is changed
pub bit_in : (words : List ℕ) (at w i : ℕ) → at < length words → i / 64 ≡ at → live_bit (set words at w) i ≡ eqb (bit w (i % 64)) 1
unfolding live_bit
bit_in words at w i l e = rw (e, get_or-set_same words at w 0 l)

-- and those of the others
pub bit_out : (words : List ℕ) (at w i : ℕ) → (i / 64 ≡ at → ⊥) → live_bit (set words at w) i ≡ live_bit words i
unfolding live_bit
bit_out words at w i n = rw (get_or-set_other words at (i / 64) w 0 n)

-- a slot's bit, in the word that holds it
pub bit_of : (words : List ℕ) (at i : ℕ) → i / 64 ≡ at → live_bit words i ≡ eqb (bit (get_or words at 0) (i % 64)) 1
unfolding live_bit
bit_of words at i e = rw e

-- a word changed in the bit of one slot: the bits of all other slots are as they were
pub bit_other : (words : List ℕ) (s w : ℕ) → s / 64 < length words → ((j : ℕ) → (j ≡ s % 64 → ⊥) → bit w j ≡ bit (get_or words (s / 64) 0) j)
    → (i : ℕ) → (i ≡ s → ⊥) → live_bit (set words (s / 64) w) i ≡ live_bit words i
bit_other words s w l same i n = at (ℕ_discrete (i / 64) (s / 64))
  where
    at : Dec (i / 64 ≡ s / 64) → live_bit (set words (s / 64) w) i ≡ live_bit words i
    at (yes e) =
        bit_in words (s / 64) w i l e ∙ ap (λ (x : ℕ). eqb x 1) (same (i % 64) (λ q. n (omega arith))) ∙ sym (bit_of words (s / 64) i e)
    at (no e) = bit_out words (s / 64) w i e

-- ---- the packed shape

-- where the slots fill their words there is no unused bit
pub packed_full : (words : List ℕ) (slots : ℕ) → slots % 64 ≡ 0 → packed words slots ≡ true
unfolding packed
packed_full words slots e = rw (eq-eqb (slots % 64) 0 e)

-- else the last word is below its first unused bit
pub packed_below : (words : List ℕ) (slots : ℕ) → (slots % 64 ≡ 0 → ⊥) → packed words slots ≡ true → get_or words (slots / 64) 0 < 2 ^ (slots % 64)
unfolding packed
packed_below words slots n h =
    let e = eqb-true (get_or words (slots / 64) 0 / 2 ^ (slots % 64)) 0 (rw (ne_eqb (slots % 64) 0 n) at h) in
    let l : get_or words (slots / 64) 0 / 2 ^ (slots % 64) < 1 = omega arith in
    omega (arith, (div-lt_iff_lt-mul (pow_pos (slots % 64))).0 l)

pub packed_is : (words : List ℕ) (slots : ℕ) → get_or words (slots / 64) 0 < 2 ^ (slots % 64) → packed words slots ≡ true
unfolding packed
packed_is words slots h = at (ℕ_discrete (slots % 64) 0)
  where
    at : Dec (slots % 64 ≡ 0) → packed words slots ≡ true
    at (yes e) = rw (eq-eqb (slots % 64) 0 e)
    at (no n) = rw (ne_eqb (slots % 64) 0 n, div-eq_of_lt h)

-- ---- words by their flags

-- two bits with one test are one
same_tests : (a b : ℕ) → a < 2 → b < 2 → eqb a 1 ≡ eqb b 1 → a ≡ b
same_tests zero zero h l t = refl
same_tests zero (suc b) h l t = let z = eqb-true zero 1 (t ∙ eq-eqb (suc b) 1 (omega arith)) in omega arith
same_tests (suc a) zero h l t = let z = eqb-true zero 1 (sym t ∙ eq-eqb (suc a) 1 (omega arith)) in omega arith
same_tests (suc a) (suc b) h l t = omega arith

-- words of 64 bits that are packed are known by their flags
pub words_same : (a b : List ℕ) (n : ℕ) → live_flags a n ≡ live_flags b n → packed a n ≡ true → packed b n ≡ true → (i : ℕ) → 64 * i < n
    → get_or a i 0 < 2 ^ 64 → get_or b i 0 < 2 ^ 64 → get_or a i 0 ≡ get_or b i 0
words_same a b n same a-packed b-packed i h a-fits b-fits = at (dec_le (64 * i + 64) n)
  where
    -- the bits of slots
    each : (j : ℕ) → j < 64 → 64 * i + j < n → bit (get_or a i 0) j ≡ bit (get_or b i 0) j
    each j l k =
        let place : (64 * i + j) / 64 ≡ i = omega arith in
        let bits : (64 * i + j) % 64 ≡ j = omega arith in
        let told : eqb (bit (get_or a i 0) ((64 * i + j) % 64)) 1 ≡ eqb (bit (get_or b i 0) ((64 * i + j) % 64)) 1
        = sym (bit_of a i (64 * i + j) place) ∙ sym (flag_at a n (64 * i + j) k) ∙ ap (λ (f : List Bool). get_or f (64 * i + j) false) same
        ∙ flag_at b n (64 * i + j) k ∙ bit_of b i (64 * i + j) place in
        same_tests (bit (get_or a i 0) j) (bit (get_or b i 0) j) (bit_small (get_or a i 0) j) (bit_small (get_or b i 0) j) (rw bits at told)

    at : Dec (64 * i + 64 ≤ n) → get_or a i 0 ≡ get_or b i 0
    -- a word that is full of slots
    at (yes full) = same_bits 64 (get_or a i 0) (get_or b i 0) a-fits b-fits (λ j l. each j l (omega arith))
    -- the last word
    at (no part) =
        let last : n / 64 ≡ i = omega arith in
        let some_left : n % 64 ≡ 0 → ⊥ = λ q. omega arith in
        same_bits (n % 64) (get_or a i 0) (get_or b i 0) (rw last at (packed_below a n some_left a-packed)) (rw last at (packed_below b n some_left b-packed))
        (λ j l. each j (omega arith) (omega arith))

-- ---- counting a word at a time

-- a count is at most the number of slots
pub count_le : (words : List ℕ) (slots : ℕ) → live_count (live_flags words slots) ≤ slots
count_le words slots = omega (arith, count_length (λ f. f) (live_flags words slots), length_flags words slots)
