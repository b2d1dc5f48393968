-- The next live slot: over dead slots it stays the same, at a live slot it is that slot, past the end there is none; and so found word by word.
use Rattle.std.specs.Prelude.{ℕ, zero, suc, ◌+◌, ◌-◌, ◌*◌, ◌/◌, ◌%◌, ◌^◌, ◌≤◌, ◌<◌, ◌≡◌, refl, Bool, true, false, List, length, get_or, eqb, ltb, Option, unwrap_or, IfSome}
use Rattle.std.specs.Bool.{then_some}
use Rattle.plain.specs.Library.{sym, ap, ◌∙◌, pow_pos, arith, eq-eqb, ltb-true}
use borrow.Author.Tests.{ltb-false}
use Prim.Native.Nat.{min}
use native.Mathlib.Nat.{add-zero, div-one, pow-suc}
use native.Mathlib.Decide.{dec_le}
use lib.Pow.{pow_mono, shr_le, shr-shr}
use lib.Count.{count_trailing_zeros, under}
use lib.ListN.{drop_of_length-le}
use lib.Seq.{drop-cons}
use Rattle.plain.specs.Reads.{live_from}
use Rattle.liveness.specs.Flags.{bit, live_flags, next_live}
use Rattle.liveness.specs.Laws.Bits.{bit_zero, bit_suc, bit_past, unmark_room}
use Rattle.liveness.specs.Laws.Flags.{length_flags, flag_at, flag_past, bit_of}

-- ---- on flags

module _ (flags : List Bool) where
  -- past the end there is none
  pub next_end : (x : ℕ) → length flags ≤ x → next_live flags x ≡ length flags
  unfolding next_live live_from
  next_end x h = rw (drop_of_length-le flags h)

  -- a live slot is the next itself
  pub next_here : (x : ℕ) → x < length flags → get_or flags x false ≡ true → next_live flags x ≡ x
  unfolding next_live live_from
  next_here x l h = rw (drop-cons flags x false l, h)

  -- from a dead slot it is the next from the slot after it
  next_dead : (x : ℕ) → get_or flags x false ≡ false → next_live flags x ≡ next_live flags (suc x)
  unfolding next_live live_from
  next_dead x h = at (dec_le (length flags) x)
    where
      at : Dec (length flags ≤ x) → next_live flags x ≡ next_live flags (suc x)
      at (yes l) = rw (drop_of_length-le flags {i = x} l, drop_of_length-le flags {i = suc x} (omega arith))
      at (no n) = rw (drop-cons flags x false (omega arith), h)

  -- over dead slots it stays the same
  pub next_skip : (n x : ℕ) → ((i : ℕ) → x ≤ i → i < x + n → get_or flags i false ≡ false) → next_live flags x ≡ next_live flags (x + n)
  next_skip zero x h = rw (add-zero x)
  next_skip (suc n) x h =
      let e : suc x + n ≡ x + suc n = omega arith in
      next_dead x (h x (omega arith) (omega arith)) ∙ next_skip n (suc x) (λ i l k. h i (omega arith) (omega arith)) ∙ ap (next_live flags) e

-- ---- the lowest set bit of a word

-- the bits below it are 0
zeros_below : (k w j : ℕ) → j < count_trailing_zeros k w → bit w j ≡ 0
unfolding count_trailing_zeros
zeros_below zero w j h = absurd (omega arith)
zeros_below (suc k) w j h = at (w % 2) refl j h (zeros_below k (w / 2))
  where
    at : (b : ℕ) → w % 2 ≡ b → (j : ℕ) → j < under b (count_trailing_zeros k (w / 2)) → ((j : ℕ) → j < count_trailing_zeros k (w / 2) → bit (w / 2) j ≡ 0) → bit w j ≡ 0
    at zero e zero h r = bit_zero w ∙ e
    at zero e (suc j) h r = bit_suc w j ∙ r j (omega arith)
    at (suc b) e j h r = absurd (omega arith)

-- and it is 1, in a word of k bits that is not 0
zeros_end : (k w : ℕ) → w < 2 ^ k → (w ≡ 0 → ⊥) → bit w (count_trailing_zeros k w) ≡ 1
unfolding count_trailing_zeros
zeros_end zero w h n = absurd (n (omega arith))
zeros_end (suc k) w h n = at (w % 2) refl (zeros_end k (w / 2))
  where
    at : (b : ℕ) → w % 2 ≡ b → (w / 2 < 2 ^ k → (w / 2 ≡ 0 → ⊥) → bit (w / 2) (count_trailing_zeros k (w / 2)) ≡ 1)
        → bit w (under b (count_trailing_zeros k (w / 2))) ≡ 1
    at zero e r = bit_suc w (count_trailing_zeros k (w / 2)) ∙ r (omega (arith, pow-suc 2 k)) (λ z. n (omega arith))
    at (suc b) e r = bit_zero w ∙ omega arith

-- ---- on words

-- the bits of a word that is shifted down
bit_shift : (w k j : ℕ) → bit (w / 2 ^ k) j ≡ bit w (k + j)
unfolding bit
bit_shift w k j = ap (λ (x : ℕ). x % 2) (shr-shr w k j)

-- a set bit is below the word's length
bit_short : (w k n : ℕ) → w < 2 ^ n → bit w k ≡ 1 → k < n
bit_short w k n h o = at (dec_le n k)
  where
    at : Dec (n ≤ k) → k < n
    at (yes l) = absurd (omega (arith, unmark_room k w o, pow_mono l))
    at (no m) = omega arith

-- the lowest set bit of a word that is shifted down is a bit of the word
zeros_one : (w k : ℕ) → w < 2 ^ 64 → (w / 2 ^ k ≡ 0 → ⊥) → bit w (k + count_trailing_zeros 64 (w / 2 ^ k)) ≡ 1
zeros_one w k f n = sym (bit_shift w k (count_trailing_zeros 64 (w / 2 ^ k))) ∙ zeros_end 64 (w / 2 ^ k) (omega (arith, shr_le w k)) n

pub zeros_room : (w k : ℕ) → w < 2 ^ 64 → (w / 2 ^ k ≡ 0 → ⊥) → k + count_trailing_zeros 64 (w / 2 ^ k) < 64
zeros_room w k f n = bit_short w (k + count_trailing_zeros 64 (w / 2 ^ k)) 64 f (zeros_one w k f n)

module _ (words : List ℕ) (slots : ℕ) where
  -- a slot whose bit is 0 is dead, also out of range
  flag_dead : (i : ℕ) → bit (get_or words (i / 64) 0) (i % 64) ≡ 0 → get_or (live_flags words slots) i false ≡ false
  flag_dead i z = at (dec_le slots i)
    where
      at : Dec (slots ≤ i) → get_or (live_flags words slots) i false ≡ false
      at (yes l) = flag_past words slots i l
      at (no n) = flag_at words slots i (omega arith) ∙ bit_of words (i / 64) i refl ∙ ap (λ (b : ℕ). eqb b 1) z

  -- slots of one word whose bits are 0 are passed over
  skip_bits : (x n : ℕ) → x % 64 + n ≤ 64 → ((j : ℕ) → j < n → bit (get_or words (x / 64) 0 / 2 ^ (x % 64)) j ≡ 0)
      → next_live (live_flags words slots) x ≡ next_live (live_flags words slots) (x + n)
  skip_bits x n r z = next_skip (live_flags words slots) n x dead
    where
      dead : (i : ℕ) → x ≤ i → i < x + n → get_or (live_flags words slots) i false ≡ false
      dead i l k =
          let d : i / 64 ≡ x / 64 = omega arith in
          let m : i % 64 ≡ x % 64 + (i - x) = omega arith in
          flag_dead i (rw (d, m, ← bit_shift (get_or words (x / 64) 0) (x % 64) (i - x)) (z (i - x) (omega arith)))

  -- the rest of a slot's word is 0: the next is the next from the word after it
  pub next_zero : (x : ℕ) → get_or words (x / 64) 0 / 2 ^ (x % 64) ≡ 0
      → next_live (live_flags words slots) x ≡ next_live (live_flags words slots) (64 * (x / 64 + 1))
  next_zero x z =
      let e : x + (64 - x % 64) ≡ 64 * (x / 64 + 1) = omega arith in
      skip_bits x (64 - x % 64) (omega arith) (λ j l. rw z (bit_past 0 j (pow_pos j))) ∙ ap (next_live (live_flags words slots)) e

  -- the rest of a slot's word is not 0: the next is at its lowest set bit, unless that is past the slots
  pub next_word : (x : ℕ) → x < slots → get_or words (x / 64) 0 < 2 ^ 64 → (get_or words (x / 64) 0 / 2 ^ (x % 64) ≡ 0 → ⊥)
      → next_live (live_flags words slots) x ≡ min (x + count_trailing_zeros 64 (get_or words (x / 64) 0 / 2 ^ (x % 64))) slots
  next_word x l f n =
      at (count_trailing_zeros 64 v) (zeros_one (get_or words (x / 64) 0) (x % 64) f n) (zeros_room (get_or words (x / 64) 0) (x % 64) f n) (zeros_below 64 v)
      (dec_le slots (x + count_trailing_zeros 64 v))
    where
      v : ℕ
      v = get_or words (x / 64) 0 / 2 ^ (x % 64)

      at : (t : ℕ) → bit (get_or words (x / 64) 0) (x % 64 + t) ≡ 1 → x % 64 + t < 64
          → ((j : ℕ) → j < t → bit (get_or words (x / 64) 0 / 2 ^ (x % 64)) j ≡ 0)
          → Dec (slots ≤ x + t) → next_live (live_flags words slots) x ≡ min (x + t) slots
      at t o s z (yes h) =
          let e : x + (slots - x) ≡ slots = omega arith in
          let m : slots ≡ min (x + t) slots = omega arith in
          skip_bits x (slots - x) (omega arith) (λ j k. z j (omega arith))
          ∙ next_end (live_flags words slots) (x + (slots - x)) (rw (length_flags, e) (omega arith)) ∙ length_flags words slots ∙ m
      at t o s z (no h) =
          let d : (x + t) / 64 ≡ x / 64 = omega arith in
          let r : (x + t) % 64 ≡ x % 64 + t = omega arith in
          let b : bit (get_or words (x / 64) 0) ((x + t) % 64) ≡ 1 = rw r o in
          let m : x + t ≡ min (x + t) slots = omega arith in
          skip_bits x t (omega arith) z
          ∙ next_here (live_flags words slots) (x + t) (rw length_flags (omega arith))
          (flag_at words slots (x + t) (omega arith) ∙ bit_of words (x / 64) (x + t) d ∙ eq-eqb (bit (get_or words (x / 64) 0) ((x + t) % 64)) 1 b) ∙ m

-- ---- from the first slot of a word

module _ (words : List ℕ) (slots i : ℕ) where
  -- the word is 0
  pub next_word_zero : get_or words i 0 ≡ 0 → next_live (live_flags words slots) (64 * i) ≡ next_live (live_flags words slots) (64 * (i + 1))
  next_word_zero z =
      let d : 64 * i / 64 ≡ i = omega arith in
      let m : 64 * i % 64 ≡ 0 = omega arith in
      rw d at (next_zero words slots (64 * i) (rw (d, m, z)))

  -- it is not
  pub next_word_here : 64 * i < slots → get_or words i 0 < 2 ^ 64 → (get_or words i 0 ≡ 0 → ⊥)
      → next_live (live_flags words slots) (64 * i) ≡ min (64 * i + count_trailing_zeros 64 (get_or words i 0)) slots
  next_word_here l f n =
      let d : 64 * i / 64 ≡ i = omega arith in
      let m : 64 * i % 64 ≡ 0 = omega arith in
      rw (d, m, div-one) at (next_word words slots (64 * i) l (rw d f) (rw (d, m, div-one) n))

-- ---- a bit that may be past the slots

module _ (slot slots : ℕ) {found : Option ℕ} (is : found ≡ then_some (ltb slot slots) slot) where
  pub short_next : unwrap_or found slots ≡ min slot slots
  short_next = rw is (at (ltb slot slots) refl)
    where
      at : (b : Bool) → ltb slot slots ≡ b → unwrap_or (then_some b slot) slots ≡ min slot slots
      at true e = let l = ltb-true slot slots e in omega arith
      at false e = let l = ltb-false slot slots e in omega arith

  pub short_below : IfSome found (λ s. s < slots)
  short_below = rw is (at (ltb slot slots) refl)
    where
      at : (b : Bool) → ltb slot slots ≡ b → IfSome (then_some b slot) (λ s. s < slots)
      at true e = ltb-true slot slots e
      at false e = tt
