-- How a field is read in parts, and out of a window of whole bytes.
use Rattle.std.specs.Prelude.{ℕ, zero, suc, refl, ◌+◌, ◌-◌, ◌*◌, ◌/◌, ◌%◌, ◌^◌, ◌≤◌, ◌<◌, ◌≡◌, List, ◌∷◌, ◌++◌, length, take, drop, get_or}
use Rattle.plain.specs.Library.{sym, ap, ◌∙◌, length-drop, take_at, lt_of_lt_of_le, arith}
use native.Mathlib.Nat.{mod-eq_of_lt, one-mul}
use native.Mathlib.Numerals.{add-one}
use Rattle.std.specs.Int.{from_be_bytes}
use mir.Syntax.{w64}
use lib.ListN.{length-take}
use Rattle.std.proofs.Common.{get_or-take, get_or-drop}
use lib.Seq.{drop_at, take-add, drop-drop, split_at}
use lib.Pow.{pow_mono, shl_exact, shr-shr, high, low}
use lib.Dec.{lit<}
use Rattle.plain.specs.Bits.{bits_of, value_of, bits, field_at}
use Rattle.plain.proofs.Laws.Bits.{length_bits_of, value_of_append, value_of_bits_of, length_bits, bits_append, field_at_lt, field_at_zero}

-- `1 << k` at a width of w bits
pub one_shl : (k w : ℕ) → k < w → 1 * 2 ^ k % 2 ^ w ≡ 2 ^ k
one_shl k w h = shl_exact {a = 1} 1 k w (lit< tt) (omega arith) ∙ one-mul (2 ^ k)

-- two fields, one after the other, are one
pub field_at_add : (s : List ℕ) (p j k : ℕ) → p + (j + k) ≤ 8 * length s → field_at s p (j + k) ≡ field_at s p j * 2 ^ k + field_at s (p + j) k
unfolding field_at
field_at_add s p j k h =
    let l : length (take k (drop (p + j) (bits s))) ≡ k = simp (length-take, length-drop, length_bits) (omega arith) in
    rw (take-add j k, drop-drop j p, value_of_append, l)

-- a field of up to 32 bits is a number of 32 bits
pub field_at_fits : (s : List ℕ) (p w : ℕ) → w ≤ 32 → field_at s p w < 2 ^ 32
field_at_fits s p w l = lt_of_lt_of_le (field_at_lt s p w) (pow_mono l)

-- ---- windows of whole bytes

-- one byte
pub window_byte : (s : List ℕ) (i : ℕ) → i < length s → get_or s i 0 < 256 → get_or s i 0 ≡ field_at s (8 * i) 8
unfolding field_at bits
window_byte s i h l =
    let b : ℕ = get_or s i 0 in
    let front : length (bits (take i s)) ≡ 8 * i = simp (length_bits, length-take) (omega arith) in
    let e : bits s ≡ bits (take i s) ++ (bits_of 8 b ++ bits (drop (suc i) s)) = ap bits (split_at s i 0 h) ∙ bits_append (take i s) (b ∷ drop (suc i) s) in
    sym (ap (λ (z : List ℕ). value_of (take 8 (drop (8 * i) z))) e
    ∙ ap (λ (z : List ℕ). value_of (take 8 z)) (drop_at (bits (take i s)) (bits_of 8 b ++ bits (drop (suc i) s)) (8 * i) front)
    ∙ ap value_of (take_at (bits_of 8 b) (bits (drop (suc i) s)) 8 (length_bits_of 8 b)) ∙ value_of_bits_of 8 b ∙ mod-eq_of_lt l)

-- two windows, one after the other
window_join : (s : List ℕ) (i j v : ℕ) → 8 * i + (8 * j + v) ≤ 8 * length s
    → field_at s (8 * i) (8 * j) * 2 ^ v + field_at s (8 * (i + j)) v ≡ field_at s (8 * i) (8 * j + v)
window_join s i j v h = let e : 8 * (i + j) ≡ 8 * i + 8 * j = omega arith in rw e (sym (field_at_add s (8 * i) (8 * j) v h))

-- a byte of the window is one of all
pub window_item : (s : List ℕ) (i n j : ℕ) → j < n → get_or (take n (drop i s)) j 0 ≡ get_or s (i + j) 0
window_item s i n j h = rw (get_or-take, get_or-drop)

-- one byte more
pub window_more : (s : List ℕ) (i j : ℕ) {v b : ℕ} → i + j < length s → get_or s (i + j) 0 < 256 → v ≡ field_at s (8 * i) (8 * j) → b ≡ get_or s (i + j) 0
    → v * 2 ^ 8 + b ≡ field_at s (8 * i) (8 * (j + 1))
window_more s i j {v} {b} h l ev eb =
    let e : 8 * (j + 1) ≡ 8 * j + 8 = omega arith in
    rw (ev, eb, e, window_byte s (i + j) h l) (window_join s i j 8 (omega arith))

-- n bytes from byte i on as one number, the first the highest
joined : List ℕ → ℕ → ℕ → ℕ
joined s i zero = 0
joined s i (suc n) = joined s i n * 256 + get_or s (i + n) 0

joined_is : (s : List ℕ) (i n : ℕ) → i + n ≤ length s → ((k : ℕ) → get_or s k 0 < 256) → joined s i n ≡ field_at s (8 * i) (8 * n)
unfolding joined
joined_is s i zero h bytes = sym (field_at_zero s (8 * i))
joined_is s i (suc n) h bytes = rw add-one at (window_more s i n (omega arith) (bytes (i + n)) (joined_is s i n (omega arith) bytes) refl)

-- eight of them
pub window_eight : (s : List ℕ) (i : ℕ) (bs : List ℕ) → i + 8 ≤ length s → ((k : ℕ) → get_or s k 0 < 256) → bs ≡ take 8 (drop i s)
    → from_be_bytes w64 bs ≡ field_at s (8 * i) 64
unfolding joined
window_eight s i bs h bytes is =
    let item : (k : ℕ) → k < 8 → get_or bs k 0 ≡ get_or s (i + k) 0 = λ k l. ap (λ (x : List ℕ). get_or x k 0) is ∙ window_item s i 8 k l in
    let sum : from_be_bytes w64 bs
    ≡ get_or bs 0 0 * 256 ^ 7 + get_or bs 1 0 * 256 ^ 6 + get_or bs 2 0 * 256 ^ 5 + get_or bs 3 0 * 256 ^ 4 + get_or bs 4 0 * 256 ^ 3 + get_or bs 5 0 * 256 ^ 2 + get_or bs 6 0 * 256
    + get_or bs 7 0
    = refl in
    let all : from_be_bytes w64 bs ≡ joined s i 8 =
    sum ∙ omega (arith, item 0 (omega arith), item 1 (omega arith), item 2 (omega arith), item 3 (omega arith), item 4 (omega arith), item 5 (omega arith), item 6 (omega arith), item 7 (omega arith)) in
    all ∙ joined_is s i 8 h bytes

-- a field in a window of n bits
pub window_field : (s : List ℕ) (p o w r n : ℕ) → o + w + r ≡ n → p + n ≤ 8 * length s → field_at s p n / 2 ^ r % 2 ^ w ≡ field_at s (p + o) w
window_field s p o w r n e h =
    let l : field_at s (p + (o + w)) r < 2 ^ r = field_at_lt s (p + (o + w)) r in
    let m : field_at s (p + o) w < 2 ^ w = field_at_lt s (p + o) w in
    rw (← e, field_at_add s p (o + w) r (omega arith), high (field_at s p (o + w)) r l, field_at_add s p o w (omega arith), low (field_at s p o) w m)

-- the same, of a window that starts at the field's first byte
pub window_at : (s : List ℕ) (p w n : ℕ) → p % 8 + w ≤ n → 8 * (p / 8) + n ≤ 8 * length s
    → field_at s (8 * (p / 8)) n / 2 ^ (n - p % 8 - w) % 2 ^ w ≡ field_at s p w
window_at s p w n h l =
    window_field s (8 * (p / 8)) (p % 8) w (n - p % 8 - w) n (omega arith) l ∙ ap (λ (q : ℕ). field_at s q w) (omega arith)

-- the same, of a window of 64 bits that is first shifted by one
pub window_past : (s : List ℕ) (p w : ℕ) → p % 8 + w ≤ 63 → 8 * (p / 8) + 64 ≤ 8 * length s
    → field_at s (8 * (p / 8)) 64 / 2 / 2 ^ (63 - p % 8 - w) % 2 ^ w ≡ field_at s p w
window_past s p w h l =
    let e : 1 + (63 - p % 8 - w) ≡ 64 - p % 8 - w = omega arith in
    ap (λ (z : ℕ). z % 2 ^ w) (shr-shr (field_at s (8 * (p / 8)) 64) 1 (63 - p % 8 - w) ∙ ap (λ (k : ℕ). field_at s (8 * (p / 8)) 64 / 2 ^ k) e)
    ∙ window_at s p w 64 (omega arith) l

-- ---- a window byte by byte

-- a window of up to four bytes has room for one more in a number of 64 bits
pub window_room : (s : List ℕ) (i j : ℕ) {v : ℕ} → j ≤ 4 → v ≡ field_at s (8 * i) (8 * j) → v < 2 ^ 32
window_room s i j h e = rw e (lt_of_lt_of_le (field_at_lt s (8 * i) (8 * j)) (pow_mono {j = 32} (omega arith)))

-- the field in a window of n bytes, which ends with the byte that the field ends in
pub window_end : (s : List ℕ) (p w n r : ℕ) {v : ℕ} → p % 8 + w + r ≡ 8 * n → 8 * (p / 8) + 8 * n ≤ 8 * length s → v ≡ field_at s (8 * (p / 8)) (8 * n)
    → v / 2 ^ r % 2 ^ w ≡ field_at s p w
window_end s p w n r e h is =
    let first : 8 * (p / 8) + p % 8 ≡ p = omega arith in
    rw (is, window_field s (8 * (p / 8)) (p % 8) w r (8 * n) e h, first)
