-- Writes that follow each other are one write; bytes that are stored are a write of their bits, and the low bytes of a number are its low bits.
use Rattle.std.specs.Prelude.{ℕ, zero, suc, ◌+◌, ◌-◌, ◌*◌, ◌/◌, ◌%◌, ◌^◌, ◌<◌, ◌≤◌, ◌≡◌, refl, List, [], ◌++◌, length, get_or, set, take, drop}
use Rattle.std.specs.Int.{byte_at, bytes_high_first}
use Rattle.plain.specs.Library.{sym, ap, ap₂, ◌∙◌, append-nil, length-append, zero-add, add-one, arith}
use native.Mathlib.Nat.{div-one, pow-suc}
use lib.ListN.{length-take, length-drop, drop_of_length-le}
use lib.Seq.{drop-drop, paste-suc, take_all}
use lib.Pow.{pow-add}
use Rattle.plain.specs.Bits.{bits_of, bits}
use Rattle.plain.proofs.Laws.Bits.{length_bits_of, bits_of_split, bits_of_ext, length_bits, bits_append}
use Rattle.bits.specs.Put.{Put}
use Rattle.bits.specs.Laws.Put.{put_none, put_then, put_split, split_put}
use Rattle.bits.specs.Wrote.{Wrote}
use Rattle.bits.specs.Laws.Wrote.{take_bits, drop_bits}

-- ---- writes that follow each other

-- a write of bits is one into the list of them
as_put : {s t f : List ℕ} {p : ℕ} → Wrote s p f t → Put (bits s) p f (bits t)
as_put {s} {f = f} {p} a = split_put (rw length_bits a.within) a.whole

of_put : {s t f : List ℕ} {p : ℕ} → length t ≡ length s → Put (bits s) p f (bits t) → Wrote s p f t
of_put {s} {f = f} {p} long a = record { long = long; within = rw length_bits at a.within; whole = put_split a }

-- nothing was written
pub wrote_none : (s : List ℕ) (p : ℕ) → p ≤ 8 * length s → Wrote s p [] s
wrote_none s p h = of_put refl (put_none (bits s) p (rw length_bits h))

-- f was written, and then g
pub wrote_then : {s t u f g : List ℕ} {p q : ℕ} → Wrote s p f t → Wrote t q g u → q ≡ p + length f → Wrote s p (f ++ g) u
wrote_then a b e = of_put (b.long ∙ a.long) (put_then (as_put a) (as_put b) e)

-- ---- the bytes of a number

pow_256 : (k : ℕ) → 256 ^ k ≡ 2 ^ (8 * k)
pow_256 zero = refl
pow_256 (suc k) =
    let e : 8 * suc k ≡ 8 + 8 * k = omega arith in
    rw (e, pow-add) (omega (arith, pow-suc 256 k, pow_256 k))

-- byte k of a number, of which byte 0 is the lowest
byte_shift : (k x : ℕ) → byte_at k x ≡ x / 2 ^ (8 * k) % 256
byte_shift zero x = rw div-one
byte_shift (suc k) x = ap (λ (p : ℕ). x / p % 256) (pow_256 (suc k))

-- the bits of a number's k low bytes
bytes_bits : (k x : ℕ) → bits (bytes_high_first k x) ≡ bits_of (8 * k) x
unfolding bits bits_of
bytes_bits zero x = refl
bytes_bits (suc k) x =
    let e : 8 * suc k ≡ 8 + 8 * k = omega arith in
    rw (e, bits_of_split 8 (8 * k) x)
    (ap₂ (λ (a b : List ℕ). a ++ b) (ap (bits_of 8) (byte_shift k x) ∙ bits_of_ext 8 (x / 2 ^ (8 * k) % 256) (x / 2 ^ (8 * k)) (omega arith)) (bytes_bits k x))

-- as many as asked for
length_bytes : (k x : ℕ) → length (bytes_high_first k x) ≡ k
length_bytes zero x = refl
length_bytes (suc k) x = omega (arith, length_bytes k x)

-- byte i of them, the highest being byte 0
byte_high : (k x i : ℕ) → i < k → get_or (bytes_high_first k x) i 0 ≡ x / 2 ^ (8 * (k - 1 - i)) % 256
byte_high zero x i h = absurd (omega arith)
byte_high (suc k) x zero h = let e : suc k - 1 - 0 ≡ k = omega arith in rw e (byte_shift k x)
byte_high (suc k) x (suc i) h = let e : suc k - 1 - suc i ≡ k - 1 - i = omega arith in rw e (byte_high k x i (omega arith))

-- one more of them is stored
pub low_turn : (k x : ℕ) (entry now : List ℕ) (i : ℕ) → i < k → k ≤ length entry → now ≡ take i (bytes_high_first k x) ++ drop i entry
    → set now i (x / 2 ^ (8 * (k - 1 - i)) % 256) ≡ take (i + 1) (bytes_high_first k x) ++ drop (i + 1) entry
low_turn k x entry now i h room is =
    let l : i < length (bytes_high_first k x) = omega (arith, length_bytes k x) in
    let m : 0 + suc i ≡ suc i = zero-add (suc i) in
    rw (add-one, is, ← byte_high k x i h) (rw (zero-add i, m) at (paste-suc entry 0 (bytes_high_first k x) i 0 (omega arith) l))

-- all of them are stored
pub low_done : (k x : ℕ) (entry now : List ℕ) (i : ℕ) → k ≤ i → i ≤ k → length entry ≡ k → now ≡ take i (bytes_high_first k x) ++ drop i entry
    → bits now ≡ bits_of (8 * k) x
low_done k x entry now i past within long is =
    let e : i ≡ k = omega arith in
    let all : take k (bytes_high_first k x) ≡ bytes_high_first k x = take_all k (bytes_high_first k x) (omega (arith, length_bytes k x)) in
    let none : drop k entry ≡ [] = drop_of_length-le entry (omega arith) in
    ap bits (rw (e, all, none) at is ∙ append-nil (bytes_high_first k x)) ∙ bytes_bits k x

-- ---- storing

-- bytes stored from byte i on are a write of their bits
pub wrote_bytes : (s : List ℕ) (i k : ℕ) (bs : List ℕ) {f : List ℕ} → i + k ≤ length s → length f ≡ 8 * k → bits bs ≡ f → length bs ≡ k
    → Wrote s (8 * i) f (take i s ++ (bs ++ drop k (drop i s)))
wrote_bytes s i k bs {f} room wide is long =
    let e : 8 * (i + k) ≡ 8 * i + length f = omega arith in
    record {
      long = simp (length-append, length-take, length-drop) (omega arith);
      within = omega arith;
      whole = bits_append (take i s) (bs ++ drop k (drop i s))
          ∙ ap₂ (λ (a b : List ℕ). a ++ b) (sym (take_bits i s (omega arith)))
          (bits_append bs (drop k (drop i s))
          ∙ ap₂ (λ (a b : List ℕ). a ++ b) is (ap bits (drop-drop k i s) ∙ sym (drop_bits (i + k) s room) ∙ ap (λ (n : ℕ). drop n (bits s)) e));
    }

-- a part of the bytes, of which the bits of a number are stored
pub wrote_part : (s : List ℕ) (i k x : ℕ) (part : List ℕ) → i + k ≤ length s → length part ≡ length (take (i + k - i) (drop i s))
    → bits part ≡ bits_of (8 * length (take (i + k - i) (drop i s))) x → Wrote s (8 * i) (bits_of (8 * k) x) (take i s ++ (part ++ drop (i + k - i) (drop i s)))
wrote_part s i k x part room long is =
    let e : i + k - i ≡ k = omega arith in
    let sized : length (take (i + k - i) (drop i s)) ≡ k = simp (length-take, length-drop) (omega arith) in
    rw e (wrote_bytes s i k part room (length_bits_of (8 * k) x) (rw sized at is) (long ∙ sized))
