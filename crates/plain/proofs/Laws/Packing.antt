-- Laws of packing: where bits stand in bytes, what is packed is read back, and bytes are packed from their bits.
-- ---- bits that stand at a place
use Rattle.std.specs.Prelude.{ℕ, zero, suc, ◌+◌, ◌-◌, ◌*◌, ◌/◌, ◌^◌, ◌≤◌, ◌<◌, ◌≡◌, refl, List, [], ◌∷◌, ◌++◌, length, take, drop, replicate}
use Rattle.plain.specs.Library.{sym, ap, ap₂, ◌∙◌, length-append, length-drop, length-replicate, take_at, zero-add, arith}
use Rattle.std.proofs.Common.{suc-add, mod-eq_of_lt, length-take, take-add, take-take, take_all, drop-drop}
use Rattle.std.proofs.Math.Nat.{zero-div}
use Rattle.std.proofs.Math.Seq.{take-length, take-nil, take-append_seam, take-append-add, drop-append_seam}
use Rattle.plain.specs.Bits.{bits_of, value_of, bits, field_at, fields_at, row, bytes_for, padding, bytes_of, pack}
use Rattle.plain.specs.Laws.Below.{Below, none, more}
use Rattle.plain.proofs.Laws.Below.{below_append, below_take, below_drop}
use Rattle.plain.proofs.Laws.Bits.{length_bits_of, bits_of_split, below_bits_of, value_of_bits_of, value_of_lt, bits_of_value_of, length_bits, below_bits, bits_injective}
use Rattle.plain.specs.Laws.Packing.{Stands}

drop_take : (n m : ℕ) (l : List ℕ) → drop n (take (n + m) l) ≡ take m (drop n l)
drop_take zero m l = rw zero-add
drop_take (suc n) m [] = rw (take-nil (suc n + m), take-nil m)
drop_take (suc n) m (x ∷ l) = rw suc-add (drop_take n m l)

-- the first of the bits that stand there
pub stands_front : {bytes : List ℕ} {p : ℕ} (a b : List ℕ) → Stands bytes p (a ++ b) → Stands bytes p a
stands_front {bytes} {p} a b s =
    record {
      there = sym (take-take (length a) (length (a ++ b)) (drop p (bits bytes)) (rw length-append (omega arith)))
          ∙ ap (take (length a)) s.there ∙ take-append_seam a b;
    }

-- and those after them
pub stands_rest : {bytes : List ℕ} {p n : ℕ} (a b : List ℕ) → length a ≡ n → Stands bytes p (a ++ b) → Stands bytes (p + n) b
stands_rest {bytes} {p} a b e s =
    let l : List ℕ = drop p (bits bytes) in
    record {
      there = ap (λ (k : ℕ). take (length b) (drop (p + k) (bits bytes))) (sym e) ∙ ap (take (length b)) (sym (drop-drop (length a) p (bits bytes)))
          ∙ sym (drop_take (length a) (length b) l) ∙ ap (λ (k : ℕ). drop (length a) (take k l)) (sym (length-append a b))
          ∙ ap (drop (length a)) s.there ∙ drop-append_seam a b;
    }

-- and both together
pub stands_append : {bytes : List ℕ} {p n : ℕ} (a b : List ℕ) → length a ≡ n → Stands bytes p a → Stands bytes (p + n) b → Stands bytes p (a ++ b)
stands_append {bytes} {p} a b e s t =
    record {
      there = rw (length-append a b, take-add (length a) (length b) (drop p (bits bytes)), drop-drop (length a) p (bits bytes), s.there, e, t.there);
    }

-- a place that is known by an equation
pub stands_at : {bytes : List ℕ} {p q : ℕ} {f : List ℕ} → p ≡ q → Stands bytes p f → Stands bytes q f
stands_at {bytes} {p} {q} {f} e s = rw e at s

-- a number whose bits stand there is the field there
pub stands_field : {bytes : List ℕ} {p : ℕ} (w v : ℕ) → v < 2 ^ w → Stands bytes p (bits_of w v) → field_at bytes p w ≡ v
unfolding field_at
stands_field {bytes} {p} w v h s =
    ap value_of (ap (λ (n : ℕ). take n (drop p (bits bytes))) (sym (length_bits_of w v)) ∙ s.there) ∙ value_of_bits_of w v ∙ mod-eq_of_lt h

-- the bits of a field stand where it was read
pub field_stands : (bytes : List ℕ) (p w : ℕ) → p + w ≤ 8 * length bytes → Stands bytes p (bits_of w (field_at bytes p w))
unfolding field_at
field_stands bytes p w h =
    let f : List ℕ = take w (drop p (bits bytes)) in
    let l : length f ≡ w = simp (length-take, length-drop, length_bits) (omega arith) in
    let e : bits_of w (value_of f) ≡ f = rw l at (bits_of_value_of (below_take w (below_drop p (below_bits bytes)))) in
    record { there = rw (e, l) }

-- values whose row stands there are the fields there
pub stands_row : (w : ℕ) {bytes : List ℕ} {p : ℕ} {vs : List ℕ} → Below (2 ^ w) vs → Stands bytes p (row w vs) → fields_at bytes p w (length vs) ≡ vs
unfolding row fields_at
stands_row w none s = refl
stands_row w {bytes} {p} (more {x = v} {xs = vs} h t) s =
    ap₂ {C = List ℕ} (λ x l. x ∷ l) (stands_field w v h (stands_front (bits_of w v) (row w vs) s))
    (stands_row w {p = p + w} t (stands_rest (bits_of w v) (row w vs) (length_bits_of w v) s))

-- the row of fields stands where they were read
pub fields_stand : (bytes : List ℕ) (p w n : ℕ) → p + w * n ≤ 8 * length bytes → Stands bytes p (row w (fields_at bytes p w n))
unfolding row fields_at
fields_stand bytes p w zero h = record { there = refl }
fields_stand bytes p w (suc n) h =
    let v : ℕ = field_at bytes p w in
    stands_append (bits_of w v) (row w (fields_at bytes (p + w) w n)) (length_bits_of w v) (field_stands bytes p w (omega arith))
    (fields_stand bytes (p + w) w n (omega arith))

-- bits as many as the bytes have are the bytes' bits
pub stands_whole : {bytes : List ℕ} (f : List ℕ) → length f ≡ 8 * length bytes → Stands bytes 0 f → bits bytes ≡ f
stands_whole {bytes} f e s = sym (take_all (length f) (bits bytes) (rw length_bits (omega arith))) ∙ s.there

-- ---- packing

-- as many bytes as asked for
pub length_bytes_of : (n : ℕ) (bs : List ℕ) → length (bytes_of n bs) ≡ n
unfolding bytes_of
length_bytes_of zero bs = refl
length_bytes_of (suc n) bs = ap suc (length_bytes_of n (drop 8 bs))

-- each of the bytes is one
pub below_bytes_of : (n : ℕ) {bs : List ℕ} → Below 2 bs → 8 * n ≤ length bs → Below 256 (bytes_of n bs)
unfolding bytes_of
below_bytes_of zero s h = none
below_bytes_of (suc n) {bs} s h =
    let l : length (take 8 bs) ≡ 8 = simp length-take (omega arith) in
    more (rw l at (value_of_lt (below_take 8 s))) (below_bytes_of n (below_drop 8 s) (rw length-drop (omega arith)))

-- the bits of bytes that were made of bits are these bits
pub bits_bytes_of : (n : ℕ) {bs : List ℕ} → Below 2 bs → 8 * n ≤ length bs → bits (bytes_of n bs) ≡ take (8 * n) bs
unfolding bits bytes_of
bits_bytes_of zero s h = refl
bits_bytes_of (suc n) {bs} s h =
    let e : length (take 8 bs) ≡ 8 = rw length-take (omega arith) in
    let f : 8 * suc n ≡ 8 + 8 * n = omega arith in
    let g : bits_of 8 (value_of (take 8 bs)) ≡ take 8 bs = rw e at (bits_of_value_of (below_take 8 s)) in
    rw (f, take-add 8 (8 * n) bs, g, bits_bytes_of n (below_drop 8 s) (rw length-drop (omega arith)))

-- as many bytes as the bits take
pub length_pack : (bs : List ℕ) → length (pack bs) ≡ bytes_for (length bs)
unfolding pack
length_pack bs = length_bytes_of (bytes_for (length bs)) (bs ++ replicate 7 0)

zeros : (p : ℕ) → p ≤ 7 → take p (replicate 7 0) ≡ bits_of p 0
unfolding bits_of
zeros p h =
    let e : p + (7 - p) ≡ 7 = omega arith in
    let f : bits_of 7 0 ≡ bits_of p (0 / 2 ^ (7 - p)) ++ bits_of (7 - p) 0 = rw e at (bits_of_split p (7 - p) 0) in
    ap (take p) f ∙ take_at (bits_of p (0 / 2 ^ (7 - p))) (bits_of (7 - p) 0) p (length_bits_of p (0 / 2 ^ (7 - p))) ∙ rw zero-div

below_padded : {bs : List ℕ} → Below 2 bs → Below 2 (bs ++ replicate 7 0)
unfolding bits_of
below_padded s = below_append s (below_bits_of 7 0)

room : (bs : List ℕ) → 8 * bytes_for (length bs) ≤ length (bs ++ replicate 7 0)
room bs = rw (length-append, length-replicate) (omega arith)

-- each of what is packed is a byte
pub below_pack : {bs : List ℕ} → Below 2 bs → Below 256 (pack bs)
unfolding pack
below_pack {bs} s = below_bytes_of (bytes_for (length bs)) (below_padded s) (room bs)

-- what is packed stands in front, and then zero bits to a byte
pub bits_pack : {bs : List ℕ} → Below 2 bs → bits (pack bs) ≡ bs ++ bits_of (padding (length bs)) 0
unfolding pack
bits_pack {bs} s =
    let n : ℕ = bytes_for (length bs) in
    let f : 8 * n ≡ length bs + padding (length bs) = omega arith in
    bits_bytes_of n (below_padded s) (room bs) ∙ ap (λ (m : ℕ). take m (bs ++ replicate 7 0)) f
    ∙ take-append-add bs (replicate 7 0) (padding (length bs)) ∙ ap (λ (z : List ℕ). bs ++ z) (zeros (padding (length bs)) (omega arith))

-- the same, as bits that stand at the start
pub pack_stands : {bs : List ℕ} → Below 2 bs → Stands (pack bs) 0 (bs ++ bits_of (padding (length bs)) 0)
pack_stands {bs} s = record { there = rw (bits_pack s) (take-length (bs ++ bits_of (padding (length bs)) 0)) }

-- bytes whose bits are these, and then zero bits to a byte, are these bits packed
pub packed : {bytes bs : List ℕ} → Below 256 bytes → Below 2 bs → bits bytes ≡ bs ++ bits_of (padding (length bs)) 0 → pack bs ≡ bytes
packed s t e = bits_injective (below_pack t) s (bits_pack t ∙ sym e)
