-- What a put does to the stream: the value's bits wait with the others, or four bytes of them are written; and what finishing writes.
use Rattle.std.specs.Prelude.{ℕ, ◌+◌, ◌-◌, ◌*◌, ◌/◌, ◌%◌, ◌^◌, ◌≤◌, ◌<◌, ◌≡◌, refl, List, ◌++◌, length, take, drop}
use Rattle.plain.specs.Library.{sym, ap, ap₂, ◌∙◌, append_assoc, length-append, take_at, pow_pos, lt_of_lt_of_le, arith}
use native.Mathlib.Nat.{mod-lt, mod-eq_of_lt}
use lib.ListN.{length-take}
use lib.Seq.{drop_at}
use lib.Pow.{pow-add, pow_mono, shl_lt, shr_lt}
use lib.Arith.{digits_lt}
use Rattle.plain.specs.Bits.{bits_of, bits, padding}
use Rattle.plain.proofs.Laws.Bits.{length_bits_of, bits_of_split, bits_of_ext, length_bits}
use Rattle.bits.specs.declared.pen.Pen.{Pen}
use Rattle.bits.specs.Wrote.{Wrote}
use Rattle.bits.specs.Penned.{Ready, Puts, Penned, reach, waiting}
use Rattle.bits.specs.Laws.Penned.{bits_behind}

-- a write by its two sides: the front with it, and what is past it
front : {s t f : List ℕ} {p n : ℕ} → Wrote s p f t → n ≡ p + length f → take n (bits t) ≡ take p (bits s) ++ f
front {s} {t} {f} {p} {n} a e =
    let l : length (take p (bits s) ++ f) ≡ n = simp (length-append, length-take, length_bits) (omega (arith, a.within)) in
    ap (take n) (a.whole ∙ sym (append_assoc (take p (bits s)) f (drop (p + length f) (bits s)))) ∙ take_at (take p (bits s) ++ f) (drop (p + length f) (bits s)) n l

behind : {s t f : List ℕ} {p n : ℕ} → Wrote s p f t → n ≡ p + length f → drop n (bits t) ≡ drop n (bits s)
behind {s} {t} {f} {p} {n} a e =
    let l : length (take p (bits s) ++ f) ≡ n = simp (length-append, length-take, length_bits) (omega (arith, a.within)) in
    ap (drop n) (a.whole ∙ sym (append_assoc (take p (bits s)) f (drop (p + length f) (bits s)))) ∙ drop_at (take p (bits s) ++ f) (drop (p + length f) (bits s)) n l
    ∙ ap (λ (k : ℕ). drop k (bits s)) (sym e)

module _ {s : List ℕ} {p : Pen} {w v : ℕ} (h : Puts s p w v) where
  -- what waits with the value behind it
  abbrev all : ℕ
  all = p.pending * 2 ^ w + v

  pub all_small : all < 2 ^ (p.count + w)
  all_small = rw pow-add (digits_lt h.ready.small h.fits)

  -- it is a number of 64 bits
  pub all_fits : all < 2 ^ 64
  all_fits = let l : p.count + w ≤ 64 = omega (arith, h.narrow, h.ready.few) in lt_of_lt_of_le all_small (pow_mono l)

  -- its first four bytes are a number of 32 bits
  pub front_fits : 32 ≤ p.count + w → all / 2 ^ (p.count + w - 32) < 2 ^ 32
  front_fits many = let e : 32 + (p.count + w - 32) ≡ p.count + w = omega arith in shr_lt 32 (p.count + w - 32) (rw e all_small)

  -- fewer than four bytes
  pub put_waits : p.count + w < 32 → Penned s p (bits_of w v) s (record { at = p.at; pending = all; count = p.count + w })
  put_waits few = record {
    long = refl;
    next = rw length_bits_of (omega arith);
    later = omega arith;
    whole = ap (λ (l : List ℕ). take (8 * p.at) (bits s) ++ l) (bits_behind p.count w p.pending v h.fits)
        ∙ sym (append_assoc (take (8 * p.at) (bits s)) (waiting p) (bits_of w v));
    rest = refl;
    ready = record { few = few; small = all_small };
  }

  -- four bytes were written, and the bits behind them wait
  pub put_writes : {t : List ℕ} {left kept : ℕ} → 32 + left ≡ p.count + w → kept ≡ all % 2 ^ left → Wrote s (8 * p.at) (bits_of 32 (all / 2 ^ left)) t
      → Penned s p (bits_of w v) t (record { at = p.at + 4; pending = kept; count = left })
  put_writes {t} {left} {kept} many is a =
      let n : 8 * (p.at + 4) ≡ 8 * p.at + length (bits_of 32 (all / 2 ^ left)) = rw length_bits_of (omega arith) in
      let same : bits_of left kept ≡ bits_of left all = bits_of_ext left kept all (ap (λ (z : ℕ). z % 2 ^ left) is ∙ mod-eq_of_lt (mod-lt all (pow_pos left))) in
      record {
        long = a.long;
        next = rw length_bits_of (omega arith);
        later = omega arith;
        whole = ap₂ (λ (x y : List ℕ). x ++ y) (front a n) same
            ∙ append_assoc (take (8 * p.at) (bits s)) (bits_of 32 (all / 2 ^ left)) (bits_of left all)
            ∙ ap (λ (l : List ℕ). take (8 * p.at) (bits s) ++ l)
            (sym (bits_of_split 32 left all) ∙ ap (λ (k : ℕ). bits_of k all) many ∙ bits_behind p.count w p.pending v h.fits)
            ∙ sym (append_assoc (take (8 * p.at) (bits s)) (waiting p) (bits_of w v));
        rest = behind a n;
        ready = record { few = omega (arith, h.narrow, h.ready.few); small = rw is (mod-lt all (pow_pos left)) };
      }

-- the bits that wait, and zero bits up to a byte: a number of 32 bits
pub waiting_fits : {p : Pen} {zeros : ℕ} → Ready p → p.count + zeros ≤ 32 → (zeros < 64) × (p.pending * 2 ^ zeros < 2 ^ 64)
waiting_fits {p} {zeros} h few =
    let l : p.count + zeros ≤ 64 = omega arith in (omega arith, lt_of_lt_of_le (shl_lt p.count zeros h.small) (pow_mono l))

pub waiting_small : {p : Pen} (zeros : ℕ) → Ready p → p.count + zeros ≤ 32 → p.pending * 2 ^ zeros < 2 ^ 32
waiting_small {p} zeros h few = lt_of_lt_of_le (shl_lt p.count zeros h.small) (pow_mono few)

-- as one number
pub finishing : (p : Pen) {n zeros : ℕ} → n ≡ p.count + zeros → zeros ≡ padding (reach p)
    → bits_of n (p.pending * 2 ^ zeros) ≡ waiting p ++ bits_of (padding (reach p)) 0
finishing p {n} {zeros} many is =
    ap₂ bits_of many (omega arith) ∙ bits_behind p.count zeros p.pending 0 (pow_pos zeros) ∙ ap (λ (k : ℕ). waiting p ++ bits_of k 0) is
