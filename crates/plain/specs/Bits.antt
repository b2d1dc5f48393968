-- Bits and bytes. A bit is 0 or 1, a byte is below 256. Document 01, "The image": "Bit-packed, most significant bit first".
use Rattle.std.specs.Prelude.{ℕ, zero, suc, ◌+◌, ◌*◌, ◌/◌, ◌%◌, ◌^◌, ◌-◌, cond, List, [], ◌∷◌, ◌++◌, length, take, drop, replicate, ltb}

-- the bits of v at width w
unfoldable pub bits_of : ℕ → ℕ → List ℕ
bits_of zero v = []
bits_of (suc w) v = v / 2 ^ w % 2 ∷ bits_of w v

-- the number that bits stand for
unfoldable pub value_of : List ℕ → ℕ
value_of [] = 0
value_of (b ∷ bs) = b * 2 ^ length bs + value_of bs

-- the bits of bytes
unfoldable pub bits : List ℕ → List ℕ
bits [] = []
bits (b ∷ bytes) = bits_of 8 b ++ bits bytes

-- the field of width w at bit p of bytes
unfoldable pub field_at : List ℕ → ℕ → ℕ → ℕ
field_at bytes p w = value_of (take w (drop p (bits bytes)))

-- n fields of width w from bit p on
unfoldable pub fields_at : List ℕ → ℕ → ℕ → ℕ → List ℕ
fields_at bytes p w zero = []
fields_at bytes p w (suc n) = field_at bytes p w ∷ fields_at bytes (p + w) w n

-- values of one width, one after the other
unfoldable pub row : ℕ → List ℕ → List ℕ
row w [] = []
row w (v ∷ vs) = bits_of w v ++ row w vs

-- the bytes that n bits take
abbrev pub bytes_for : ℕ → ℕ
bytes_for n = (n + 7) / 8

-- the bits of n bits' last byte that are left over
abbrev pub padding : ℕ → ℕ
padding n = 8 * bytes_for n - n

-- the first n bytes of bits
unfoldable pub bytes_of : ℕ → List ℕ → List ℕ
bytes_of zero bs = []
bytes_of (suc n) bs = value_of (take 8 bs) ∷ bytes_of n (drop 8 bs)

-- bits as bytes: "zero bits to a byte"
unfoldable pub pack : List ℕ → List ℕ
pack bs = bytes_of (bytes_for (length bs)) (bs ++ replicate 7 0)

-- the first of w, w + 1, .. that holds the number k, of t tries
unfoldable pub least_from : ℕ → ℕ → ℕ → ℕ
least_from zero w k = w
least_from (suc t) w k = cond (ltb k (2 ^ w)) w (least_from t (suc w) k)

-- "w is the least width holding n−1, 0 if n is at most 1"
unfoldable pub least_width : ℕ → ℕ
least_width n = least_from 32 0 (n - 1)
