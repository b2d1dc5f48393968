-- Laws of the pen: puts that follow each other are one, and finishing writes the stream from the first bit on.
use Rattle.std.specs.Prelude.{ℕ, ◌+◌, ◌-◌, ◌*◌, ◌^◌, ◌≤◌, ◌<◌, ◌≡◌, refl, List, [], ◌++◌, length, take, drop}
use Rattle.plain.specs.Library.{sym, ap, ap₂, ◌∙◌, append_assoc, append-nil, length-append, arith}
use Rattle.std.proofs.Common.{mod-eq_of_lt, drop-drop}
use Rattle.std.proofs.Math.Pow.{high, low}
use Rattle.plain.specs.Bits.{bits_of, bits}
use Rattle.plain.proofs.Laws.Bits.{length_bits_of, bits_of_split, bits_of_ext}
use Rattle.bits.specs.declared.pen.Pen.{Pen}
use Rattle.bits.specs.declared.pen.Writer.{Writer}
use Rattle.bits.specs.Wrote.{Wrote}
use Rattle.bits.specs.Penned.{Ready, Penned, fresh, waiting, stream, Written}

-- bits, and a value's bits behind them, as one number
pub bits_behind : (c w x v : ℕ) → v < 2 ^ w → bits_of (c + w) (x * 2 ^ w + v) ≡ bits_of c x ++ bits_of w v
bits_behind c w x v h =
    bits_of_split c w (x * 2 ^ w + v)
    ∙ ap₂ (λ (a b : List ℕ). a ++ b) (ap (bits_of c) (high x w h)) (bits_of_ext w (x * 2 ^ w + v) v (low x w h ∙ sym (mod-eq_of_lt h)))

-- what is past a later place is past an earlier one
past : (m n : ℕ) (k l : List ℕ) → m ≤ n → drop m k ≡ drop m l → drop n k ≡ drop n l
past m n k l h e =
    let split : (x : List ℕ) → drop n x ≡ drop (n - m) (drop m x) =
    let e : n ≡ m + (n - m) = omega arith in λ x. ap (λ (j : ℕ). drop j x) e ∙ sym (drop-drop (n - m) m x) in
    split k ∙ ap (drop (n - m)) e ∙ sym (split l)

-- nothing was put
pub penned_none : (s : List ℕ) (p : Pen) → Ready p → Penned s p [] s p
penned_none s p h =
    record { long = refl; next = omega arith; later = omega arith; whole = sym (append-nil (stream s p)); rest = refl; ready = h }

-- f was put, and then g
pub penned_then : {s t u f g : List ℕ} {p q r : Pen} → Penned s p f t q → Penned t q g u r → Penned s p (f ++ g) u r
penned_then {s} {t} {u} {f} {g} {p} {q} {r} a b = record {
  long = b.long ∙ a.long;
  next = rw (length-append f g) (omega (arith, a.next, b.next));
  later = omega (arith, a.later, b.later);
  whole = b.whole ∙ ap (λ (l : List ℕ). l ++ g) a.whole ∙ append_assoc (stream s p) f g;
  rest = b.rest ∙ past (8 * q.at) (8 * r.at) (bits t) (bits s) (omega (arith, b.later)) a.rest;
  ready = b.ready;
}

-- the same of a writer
pub written_none : (a : Writer) → Ready a.pen → Written a [] a
written_none a h = record { same = refl; penned = penned_none a.bytes.now a.pen h }

pub written_then : {a b c : Writer} {f g : List ℕ} → Written a f b → Written b g c → Written a (f ++ g) c
written_then h k = record { same = k.same ∙ h.same; penned = penned_then h.penned k.penned }

-- Put from the first bit on, it is all that is there, and with what waits in the pen it was written from bit 0 on.
pub penned_wrote : {s t u f : List ℕ} {q : Pen} (g : List ℕ) → Penned s fresh f t q → Wrote t (8 * q.at) (waiting q ++ g) u → Wrote s 0 (f ++ g) u
unfolding bits_of
penned_wrote {s} {t} {u} {f} {q} g a b =
    let all : stream t q ≡ f = a.whole in
    let far : 8 * q.at + length (waiting q ++ g) ≡ 0 + length (f ++ g) =
    simp (length-append, length_bits_of) (omega (arith, a.next)) in
    record {
      long = b.long ∙ a.long;
      within = omega (arith, b.within, a.long);
      whole = b.whole
          ∙ ap (λ (l : List ℕ). take (8 * q.at) (bits t) ++ l) (append_assoc (waiting q) g (drop (8 * q.at + length (waiting q ++ g)) (bits t)))
          ∙ sym (append_assoc (take (8 * q.at) (bits t)) (waiting q) (g ++ drop (8 * q.at + length (waiting q ++ g)) (bits t)))
          ∙ ap₂ (λ (x y : List ℕ). x ++ (g ++ y)) all (past (8 * q.at) (8 * q.at + length (waiting q ++ g)) (bits t) (bits s) (omega arith) a.rest ∙ ap (λ (k : ℕ). drop k (bits s)) far)
          ∙ sym (append_assoc f g (drop (0 + length (f ++ g)) (bits s)));
    }
