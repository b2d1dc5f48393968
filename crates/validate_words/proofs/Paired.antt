-- Two slices of the same length, word by word: what the words that are left decide.
use Rattle.std.specs.Prelude.{ℕ, zero, suc, ◌≡◌, refl, Bool, true, false, ◌&&◌, List, [], ◌∷◌, length, get_or, leb}
use Rattle.plain.specs.Library.{sym, ap, ◌∙◌, arith}
use Rattle.plain.specs.Lists.{all, from}
use Rattle.plain.proofs.Laws.Booleans.{and_true}

-- no word of one list is above the word at its place in another
unfoldable pub none_over : List ℕ → List ℕ → Bool
none_over [] highs = true
none_over (low ∷ lows) [] = true
none_over (low ∷ lows) (high ∷ highs) = leb low high && none_over lows highs

-- a test of the slots from the second on
all_later : (test : ℕ → Bool) (a n : ℕ) → all test (from (suc a) n) ≡ all (λ i. test (suc i)) (from a n)
unfolding all from
all_later test a zero = refl
all_later test a (suc n) = ap (λ (b : Bool). test (suc a) && b) (all_later test (suc a) n)

-- by the places of the words
pub none_over_places : (lows highs : List ℕ) → length lows ≡ length highs → none_over lows highs ≡ all (λ i. leb (get_or lows i 0) (get_or highs i 0)) (from 0 (length lows))
unfolding none_over all from
none_over_places [] highs q = refl
none_over_places (low ∷ lows) [] q = absurd (omega (arith, q))
none_over_places (low ∷ lows) (high ∷ highs) q =
    ap (λ (b : Bool). leb low high && b)
    (none_over_places lows highs (omega (arith, q)) ∙ sym (all_later (λ i. leb (get_or (low ∷ lows) i 0) (get_or (high ∷ highs) i 0)) 0 (length lows)))

-- What was found and the words that are left decide.
pub record Pairing (lows highs : List ℕ) (right : Bool) (lows_left highs_left : List ℕ) : Type 0 where
  pub decides : none_over lows highs ≡ (right && none_over lows_left highs_left)
  pub long : length lows_left ≡ length highs_left

pub pairing_start : {lows highs : List ℕ} → length lows ≡ length highs → Pairing lows highs true lows highs
pairing_start q = record { decides = refl; long = q }

and_and : (a b c : Bool) → (a && (b && c)) ≡ ((a && b) && c)
and_and true b c = refl
and_and false b c = refl

pub pairing_on : {lows highs lows_left highs_left lows_after highs_after : List ℕ} {right : Bool} {low high : ℕ} → Pairing lows highs right lows_left highs_left
    → lows_left ≡ low ∷ lows_after → highs_left ≡ high ∷ highs_after → Pairing lows highs (right && leb low high) lows_after highs_after
unfolding none_over
pairing_on {lows_after = lows_after} {highs_after = highs_after} {right = right} {low = low} {high = high} p a b =
    let q = rw (a, b) at p.long in
    record { decides = p.decides ∙ rw (a, b) (and_and right (leb low high) (none_over lows_after highs_after)); long = omega (arith, q) }

pub pairing_done : {lows highs lows_left highs_left : List ℕ} {right : Bool} → Pairing lows highs right lows_left highs_left → length lows ≡ length highs
    → length lows_left ≡ 0 → right ≡ all (λ i. leb (get_or lows i 0) (get_or highs i 0)) (from 0 (length lows))
unfolding none_over
pairing_done {lows} {highs} {lows_left = []} {right = right} p q none = sym (sym (none_over_places lows highs q) ∙ p.decides ∙ and_true right)
pairing_done {lows_left = low ∷ lows_left} p q none = absurd (omega (arith, none))
