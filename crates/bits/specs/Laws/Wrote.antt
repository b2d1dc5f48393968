-- Laws of `Wrote`: whole bytes, and what was written from the first bit on.
use Rattle.std.specs.Prelude.{ℕ, ◌+◌, ◌*◌, ◌≤◌, ◌≡◌, List, ◌++◌, length, take, drop}
use Rattle.plain.specs.Library.{sym, ap, ap₂, ◌∙◌, length-append, take_at, arith}
use Rattle.std.proofs.Common.{length-take, take-append-drop, drop_at}
use Rattle.plain.specs.Lists.{written}
use Rattle.plain.specs.Bits.{bits_of, bits, bytes_for, padding, pack}
use Rattle.plain.specs.Laws.Below.{Below}
use Rattle.plain.proofs.Laws.Below.{below_append, below_drop}
use Rattle.plain.proofs.Laws.Bits.{length_bits_of, length_bits, bits_append, bits_injective}
use Rattle.plain.proofs.Laws.Packing.{length_pack, below_pack, bits_pack}
use Rattle.bits.specs.Wrote.{Wrote}

-- the first bytes, and the others
pub take_bits : (n : ℕ) (s : List ℕ) → n ≤ length s → take (8 * n) (bits s) ≡ bits (take n s)
take_bits n s h =
    let l : length (bits (take n s)) ≡ 8 * n = simp (length_bits, length-take) (omega arith) in
    ap (λ (z : List ℕ). take (8 * n) (bits z)) (sym (take-append-drop n s)) ∙ ap (take (8 * n)) (bits_append (take n s) (drop n s))
    ∙ take_at (bits (take n s)) (bits (drop n s)) (8 * n) l

pub drop_bits : (n : ℕ) (s : List ℕ) → n ≤ length s → drop (8 * n) (bits s) ≡ bits (drop n s)
drop_bits n s h =
    let l : length (bits (take n s)) ≡ 8 * n = simp (length_bits, length-take) (omega arith) in
    ap (λ (z : List ℕ). drop (8 * n) (bits z)) (sym (take-append-drop n s)) ∙ ap (drop (8 * n)) (bits_append (take n s) (drop n s))
    ∙ drop_at (bits (take n s)) (bits (drop n s)) (8 * n) l

-- bits and then zero bits to a byte are these bits packed, and the bytes past them are as before
pub wrote_pack : {s t bs : List ℕ} → Below 256 s → Below 256 t → Below 2 bs → Wrote s 0 (bs ++ bits_of (padding (length bs)) 0) t → t ≡ written (pack bs) s
wrote_pack {s} {t} {bs} hs ht hb a =
    let f : List ℕ = bs ++ bits_of (padding (length bs)) 0 in
    let n : ℕ = bytes_for (length bs) in
    let l : 0 + length f ≡ 8 * n = simp (length-append, length_bits_of) (omega arith) in
    let e : drop (0 + length f) (bits s) ≡ bits (drop (length (pack bs)) s) =
    ap (λ (k : ℕ). drop k (bits s)) l ∙ drop_bits n s (omega (arith, a.within)) ∙ ap (λ (k : ℕ). bits (drop k s)) (sym (length_pack bs)) in
    bits_injective ht (below_append (below_pack hb) (below_drop (length (pack bs)) hs))
    (a.whole ∙ ap₂ (λ (x y : List ℕ). x ++ y) (sym (bits_pack hb)) e ∙ sym (bits_append (pack bs) (drop (length (pack bs)) s)))
