-- What `reset_all_live` leaves: whole words of set bits, and a last word where the slots do not fill their words.
use Rattle.std.specs.Prelude.{ℕ, suc, ◌-◌, ◌*◌, ◌/◌, ◌%◌, ◌^◌, ◌≤◌, ◌<◌, ◌≡◌, true, false, List, ◌∷◌, ◌++◌, length, get_or, set, take, drop, replicate}
use Rattle.std.proofs.lemmas.List.{length-take-le}
use Rattle.plain.specs.Library.{sym, ap, ◌∙◌, append-nil, append_assoc, length-append, length-replicate, get_or-append, ext_get_or, add-one, arith, eq-eqb, ne_eqb}
use native.Mathlib.Decide.{ℕ_discrete}
use lib.Pow.{ones_lt}
use lib.ListN.{get_or-replicate}
use lib.Seq.{get_or_at, set_at, drop-cons}
use Rattle.liveness.specs.Flags.{bit, live_bit, live_flags, packed}
use Rattle.liveness.specs.Calls.{all_live, Reset}
use Rattle.liveness.specs.Laws.Bits.{full_bit}
use Rattle.liveness.specs.Laws.Flags.{length_flags, flag_at, packed_full, packed_is}

-- the whole words of the slots, and what follows them
abbrev pub filled : ℕ → List ℕ → List ℕ
filled slots rest = replicate (slots / 64) (2 ^ 64 - 1) ++ rest

-- the words that `fill` leaves at the start
pub filled_by : (entry : List ℕ) {front : List ℕ} (slots : ℕ) → slots ≤ 64 * length entry → front ≡ replicate (length (take (slots / 64) entry)) (2 ^ 64 - 1)
    → front ++ drop (slots / 64) entry ≡ filled slots (drop (slots / 64) entry)
filled_by entry slots h is =
    ap (λ (l : List ℕ). l ++ drop (slots / 64) entry)
    (is ∙ ap (λ (n : ℕ). replicate n (2 ^ 64 - 1)) (length-take-le (slots / 64) entry (omega arith)))

-- the word after them, where the slots do not fill their words
abbrev pub last : ℕ → ℕ
last slots = 2 ^ (slots % 64) - 1

-- a slot is live whose word has its lowest r bits set, and whose bit is among them
live_in : (words : List ℕ) (i r : ℕ) → get_or words (i / 64) 0 ≡ 2 ^ r - 1 → i % 64 < r → live_bit words i ≡ true
unfolding live_bit
live_in words i r e h = rw e (eq-eqb (bit (2 ^ r - 1) (i % 64)) 1 (full_bit r (i % 64) h))

module _ (slots : ℕ) (rest : List ℕ) (ends : (slots % 64 ≡ 0 → ⊥) → get_or (filled slots rest) (slots / 64) 0 ≡ last slots) where
  -- every slot is live
  all_bits : (i : ℕ) → i < slots → live_bit (filled slots rest) i ≡ true
  all_bits i h = at (ℕ_discrete (i / 64) (slots / 64))
    where
      at : Dec (i / 64 ≡ slots / 64) → live_bit (filled slots rest) i ≡ true
      at (yes e) = live_in (filled slots rest) i (slots % 64) (rw e (ends (omega arith))) (omega arith)
      at (no n) =
          let l : i / 64 < slots / 64 = omega arith in
          live_in (filled slots rest) i 64
          (get_or-append (replicate (slots / 64) (2 ^ 64 - 1)) rest 0 (i / 64) (rw length-replicate l) ∙ get_or-replicate (slots / 64) (i / 64) (2 ^ 64 - 1) 0 l)
          (omega arith)

  all_flags : live_flags (filled slots rest) slots ≡ replicate slots true
  all_flags =
      let flags = live_flags (filled slots rest) slots in
      let long : length flags ≡ slots = length_flags (filled slots rest) slots in
      ext_get_or false flags (replicate slots true) (long ∙ sym (length-replicate slots true))
      (λ i k. let l : i < slots = omega arith in flag_at (filled slots rest) slots i l ∙ all_bits i l ∙ sym (get_or-replicate slots i true false l))

  -- and no bit is set past them
  all_packed : packed (filled slots rest) slots ≡ true
  all_packed = at (ℕ_discrete (slots % 64) 0)
    where
      at : Dec (slots % 64 ≡ 0) → packed (filled slots rest) slots ≡ true
      at (yes e) = packed_full (filled slots rest) slots e
      at (no n) = packed_is (filled slots rest) slots (rw (ends n) (ones_lt (slots % 64)))

-- The slots fill their words.
pub reset_full : (entry : List ℕ) (slots : ℕ) → slots % 64 ≡ 0 → Reset entry slots (filled slots (drop (slots / 64) entry))
unfolding all_live
reset_full entry slots e = record {
  flags = all_flags slots (drop (slots / 64) entry) (λ n. absurd (n e));
  packs = all_packed slots (drop (slots / 64) entry) (λ n. absurd (n e));
  words = rw (eq-eqb (slots % 64) 0 e, append-nil, length-replicate);
}

-- They do not: the last word has the rest of them.
pub reset_rest : (entry : List ℕ) (slots : ℕ) → (slots % 64 ≡ 0 → ⊥) → slots ≤ 64 * length entry
    → Reset entry slots (set (filled slots (drop (slots / 64) entry)) (slots / 64) (last slots))
unfolding all_live
reset_rest entry slots n h = rw stored (record {
  flags = all_flags slots (last slots ∷ drop (suc (slots / 64)) entry) ends;
  packs = all_packed slots (last slots ∷ drop (suc (slots / 64)) entry) ends;
  words = rw (ne_eqb (slots % 64) 0 n, append_assoc, length-append, length-replicate, add-one (slots / 64));
})
  where
    long : length (replicate (slots / 64) (2 ^ 64 - 1)) ≡ slots / 64
    long = length-replicate (slots / 64) (2 ^ 64 - 1)

    stored : set (filled slots (drop (slots / 64) entry)) (slots / 64) (last slots) ≡ filled slots (last slots ∷ drop (suc (slots / 64)) entry)
    stored =
        rw (drop-cons entry (slots / 64) 0 (omega arith))
        (set_at (replicate (slots / 64) (2 ^ 64 - 1)) (get_or entry (slots / 64) 0) (drop (suc (slots / 64)) entry) (last slots) (slots / 64) long)

    ends : (slots % 64 ≡ 0 → ⊥) → get_or (filled slots (last slots ∷ drop (suc (slots / 64)) entry)) (slots / 64) 0 ≡ last slots
    ends m = get_or_at (replicate (slots / 64) (2 ^ 64 - 1)) (last slots) (drop (suc (slots / 64)) entry) 0 (slots / 64) long
