-- Laws of bits: a number and its bits at a width, the bits of bytes, and fields and rows of fields within them.
use Rattle.std.specs.Prelude.{ℕ, zero, suc, ◌+◌, ◌*◌, ◌/◌, ◌%◌, ◌^◌, ◌≤◌, ◌<◌, ◌≡◌, refl, List, [], ◌∷◌, ◌++◌, length, take, drop}
use Rattle.plain.specs.Library.{sym, ap, ap₂, ◌∙◌, append_assoc, length-append, take_at, zero-add, lt_of_lt_of_le, arith}
use Rattle.std.proofs.Common.{one-add, suc-add, add_comm, mod-eq_of_lt, pow-suc, length-take, drop_at, pow-add, pow_mono, shr-shr}
use Rattle.std.proofs.lemmas.Nat.{mod-pow-add}
use Rattle.std.proofs.Math.Pow.{mod-mod-pow, field, high, low}
use Rattle.std.proofs.Math.Arith.{digits_lt}
use Rattle.plain.specs.Bits.{bits_of, value_of, bits, field_at, fields_at, row}
use Rattle.plain.specs.Laws.Below.{Below, none, more}
use Rattle.plain.proofs.Laws.Below.{below_append, below_take, below_drop}

-- ---- a number and its bits

-- as many bits as the width
pub length_bits_of : (w v : ℕ) → length (bits_of w v) ≡ w
unfolding bits_of
length_bits_of zero v = refl
length_bits_of (suc w) v = ap suc (length_bits_of w v)

-- the high bits, then the low ones
pub bits_of_split : (j k v : ℕ) → bits_of (j + k) v ≡ bits_of j (v / 2 ^ k) ++ bits_of k v
unfolding bits_of
bits_of_split zero k v = rw zero-add
bits_of_split (suc j) k v = rw (suc-add, bits_of_split j k v, shr-shr, add_comm k j)

-- bits of a width see only the value below the width
pub bits_of_ext : (k a b : ℕ) → a % 2 ^ k ≡ b % 2 ^ k → bits_of k a ≡ bits_of k b
unfolding bits_of
bits_of_ext zero a b e = refl
bits_of_ext (suc w) a b e =
    let d : a % 2 ^ (1 + w) ≡ b % 2 ^ (1 + w) = rw (one-add w) e in
    ap₂ {C = List ℕ} (λ x l. x ∷ l)
    (sym (field a 1 w) ∙ ap (λ (x : ℕ). x / 2 ^ w) d ∙ field b 1 w)
    (bits_of_ext w a b (sym (mod-mod-pow a 1 w) ∙ ap (λ (x : ℕ). x % 2 ^ w) d ∙ mod-mod-pow b 1 w))

-- each is 0 or 1
pub below_bits_of : (w v : ℕ) → Below 2 (bits_of w v)
unfolding bits_of
below_bits_of zero v = none
below_bits_of (suc w) v = more {x = v / 2 ^ w % 2} (omega arith) (below_bits_of w v)

-- bits after others count as lower digits
pub value_of_append : (a b : List ℕ) → value_of (a ++ b) ≡ value_of a * 2 ^ length b + value_of b
unfolding value_of
value_of_append [] b = omega arith
value_of_append (x ∷ a) b = rw (value_of_append a b, length-append a b, pow-add) (omega arith)

-- the bits of a number stand for what of it the width holds
pub value_of_bits_of : (w v : ℕ) → value_of (bits_of w v) ≡ v % 2 ^ w
unfolding bits_of value_of
value_of_bits_of zero v = omega arith
value_of_bits_of (suc w) v = rw (value_of_bits_of w v, length_bits_of w v, ← mod-pow-add v 1 w) (ap (λ (x : ℕ). v % 2 ^ x) (omega arith))

-- as many bits hold what they stand for
pub value_of_lt : {bs : List ℕ} → Below 2 bs → value_of bs < 2 ^ length bs
unfolding value_of
value_of_lt none = omega arith
value_of_lt (more {xs = bs} h s) = omega (arith, pow-suc 2 (length bs), digits_lt h (value_of_lt s))

-- bits are those of the number that they stand for
pub bits_of_value_of : {bs : List ℕ} → Below 2 bs → bits_of (length bs) (value_of bs) ≡ bs
unfolding value_of bits_of
bits_of_value_of none = refl
bits_of_value_of (more {x = b} {xs = bs} h s) =
    let l : value_of bs < 2 ^ length bs = value_of_lt s in
    ap₂ {C = List ℕ} (λ x l. x ∷ l) (rw (high b (length bs) l) (mod-eq_of_lt h))
    (bits_of_ext (length bs) (b * 2 ^ length bs + value_of bs) (value_of bs) (low b (length bs) l ∙ sym (mod-eq_of_lt l)) ∙ bits_of_value_of s)

-- numbers that fit a width are told apart by their bits
pub bits_of_injective : (w u v : ℕ) → u < 2 ^ w → v < 2 ^ w → bits_of w u ≡ bits_of w v → u ≡ v
bits_of_injective w u v hu hv e = sym (mod-eq_of_lt hu) ∙ sym (value_of_bits_of w u) ∙ ap value_of e ∙ value_of_bits_of w v ∙ mod-eq_of_lt hv

-- ---- the bits of bytes

-- eight bits a byte
pub length_bits : (bytes : List ℕ) → length (bits bytes) ≡ 8 * length bytes
unfolding bits
length_bits [] = refl
length_bits (b ∷ bytes) = rw (length-append, length_bits_of, length_bits bytes) (omega arith)

-- of two lists of bytes, one after the other
pub bits_append : (a b : List ℕ) → bits (a ++ b) ≡ bits a ++ bits b
unfolding bits
bits_append [] b = refl
bits_append (x ∷ a) b = rw (bits_append a b, append_assoc)

-- each is 0 or 1
pub below_bits : (bytes : List ℕ) → Below 2 (bits bytes)
unfolding bits
below_bits [] = none
below_bits (b ∷ bytes) = below_append (below_bits_of 8 b) (below_bits bytes)

-- equal bits are of equal bytes
pub bits_injective : {a b : List ℕ} → Below 256 a → Below 256 b → bits a ≡ bits b → a ≡ b
unfolding bits
bits_injective none none e = refl
bits_injective none (more {x = y} {xs = b} k t) e = absurd (omega (arith, length_bits (y ∷ b), ap length e))
bits_injective (more {x = x} {xs = a} h s) none e = absurd (omega (arith, length_bits (x ∷ a), ap length e))
bits_injective (more {x = x} {xs = a} h s) (more {x = y} {xs = b} k t) e =
    let lx : length (bits_of 8 x) ≡ 8 = length_bits_of 8 x in
    let ly : length (bits_of 8 y) ≡ 8 = length_bits_of 8 y in
    let front : bits_of 8 x ≡ bits_of 8 y = sym (take_at (bits_of 8 x) (bits a) 8 lx) ∙ ap (take 8) e ∙ take_at (bits_of 8 y) (bits b) 8 ly in
    let rest : bits a ≡ bits b = sym (drop_at (bits_of 8 x) (bits a) 8 lx) ∙ ap (drop 8) e ∙ drop_at (bits_of 8 y) (bits b) 8 ly in
    ap₂ {C = List ℕ} (λ z l. z ∷ l) (bits_of_injective 8 x y h k front) (bits_injective s t rest)

-- ---- fields

-- a field is below the power of its width, wherever it stands
pub field_at_lt : (bytes : List ℕ) (p w : ℕ) → field_at bytes p w < 2 ^ w
unfolding field_at
field_at_lt bytes p w =
    let f : List ℕ = take w (drop p (bits bytes)) in
    let l : length f ≤ w = simp length-take (omega arith) in
    lt_of_lt_of_le (value_of_lt (below_take w (below_drop p (below_bits bytes)))) (pow_mono l)

-- a field of no width is 0
pub field_at_zero : (bytes : List ℕ) (p : ℕ) → field_at bytes p 0 ≡ 0
unfolding field_at value_of
field_at_zero bytes p = refl

-- as many fields as asked for
pub length_fields_at : (bytes : List ℕ) (p w n : ℕ) → length (fields_at bytes p w n) ≡ n
unfolding fields_at
length_fields_at bytes p w zero = refl
length_fields_at bytes p w (suc n) = ap suc (length_fields_at bytes (p + w) w n)

-- each is below the power of the width
pub below_fields_at : (bytes : List ℕ) (p w n : ℕ) → Below (2 ^ w) (fields_at bytes p w n)
unfolding fields_at
below_fields_at bytes p w zero = none
below_fields_at bytes p w (suc n) = more (field_at_lt bytes p w) (below_fields_at bytes (p + w) w n)

-- ---- rows

-- a row has as many bits as its values at the width
pub length_row : (w : ℕ) (vs : List ℕ) → length (row w vs) ≡ w * length vs
unfolding row
length_row w [] = omega arith
length_row w (v ∷ vs) = rw (length-append (bits_of w v) (row w vs), length_bits_of w v, length_row w vs) (omega arith)

-- of two lists of values, one after the other
pub row_append : (w : ℕ) (a b : List ℕ) → row w (a ++ b) ≡ row w a ++ row w b
unfolding row
row_append w [] b = refl
row_append w (v ∷ a) b = rw (row_append w a b) (simp append_assoc)

-- each bit is 0 or 1
pub below_row : (w : ℕ) (vs : List ℕ) → Below 2 (row w vs)
unfolding row
below_row w [] = none
below_row w (v ∷ vs) = below_append (below_bits_of w v) (below_row w vs)
