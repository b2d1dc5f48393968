-- What a store to one liveness word does to the flags, for each way through `push_live` and `clear`.
use Rattle.std.specs.Prelude.{ℕ, suc, ◌+◌, ◌-◌, ◌*◌, ◌/◌, ◌%◌, ◌^◌, ◌≤◌, ◌<◌, ◌≡◌, refl, Bool, true, false, List, [], ◌∷◌, ◌++◌, length, get_or, set}
use Rattle.plain.specs.Library.{sym, ap, ap₂, ◌∙◌, subst, get_or-set_same, get_or-set_other, add-one, arith, eq-eqb, eqb-true}
use mathlib.Core.Bool.{true≢false}
use native.Mathlib.Nat.{pow-suc}
use native.Mathlib.Decide.{ℕ_discrete, dec_le}
use lib.Seq.{set-get_or}
use Rattle.liveness.specs.Flags.{bit, live_bit, live_flags, packed}
use Rattle.liveness.specs.Calls.{Pushed, Cleared}
use Rattle.liveness.specs.Laws.Bits.{bit_past, mark_here, mark_other, unmark_here, unmark_other}
use Rattle.liveness.specs.Laws.Flags.{flag_at, flag_past, flags_suc, flags_same, flags_set, bit_in, bit_out, bit_of, bit_other, packed_full, packed_below, packed_is}

-- a frame of one word
frame : (words : List ℕ) (at w : ℕ) → at < length words → set words at w ≡ set words at (get_or (set words at w) at 0)
frame words at w l = ap (set words at) (sym (get_or-set_same words at w 0 l))

module _ (words : List ℕ) (slots : ℕ) (room : slots < 64 * length words) where
  -- A word with the new slot's bit set and the bits below it as they were is what `push_live` has to store.
  pushed : (w : ℕ) → bit w (slots % 64) ≡ 1 → ((j : ℕ) → j < slots % 64 → bit w j ≡ bit (get_or words (slots / 64) 0) j)
      → (packed words slots ≡ true → w < 2 ^ suc (slots % 64)) → Pushed words slots (set words (slots / 64) w)
  pushed w one low below = record {
    flags =
        rw (add-one slots)
        (flags_suc exit slots
        ∙ ap₂ (λ (l : List Bool) (b : Bool). l ++ (b ∷ [])) (flags_same exit words slots same)
        (bit_in words (slots / 64) w slots l refl ∙ eq-eqb (bit w (slots % 64)) 1 one));
    others = frame words (slots / 64) w l;
    packs = λ p. packs p (ℕ_discrete ((slots + 1) % 64) 0);
  }
    where
      exit : List ℕ
      exit = set words (slots / 64) w

      l : slots / 64 < length words
      l = omega arith

      same : (i : ℕ) → i < slots → live_bit (set words (slots / 64) w) i ≡ live_bit words i
      same i h = at (ℕ_discrete (i / 64) (slots / 64))
        where
          at : Dec (i / 64 ≡ slots / 64) → live_bit (set words (slots / 64) w) i ≡ live_bit words i
          at (yes e) =
              bit_in words (slots / 64) w i l e ∙ ap (λ (x : ℕ). lib.Dec.eqb x 1) (low (i % 64) (omega arith)) ∙ sym (bit_of words (slots / 64) i e)
          at (no n) = bit_out words (slots / 64) w i n

      packs : packed words slots ≡ true → Dec ((slots + 1) % 64 ≡ 0) → packed (set words (slots / 64) w) (slots + 1) ≡ true
      packs p (yes e) = packed_full (set words (slots / 64) w) (slots + 1) e
      packs p (no n) =
          let d : (slots + 1) / 64 ≡ slots / 64 = omega arith in
          let m : (slots + 1) % 64 ≡ suc (slots % 64) = omega arith in
          packed_is (set words (slots / 64) w) (slots + 1) (rw (d, m, get_or-set_same words (slots / 64) w 0 l) (below p))

  -- The first slot of a word: whatever stood there, the word is 1.
  pub push_first : slots % 64 ≡ 0 → Pushed words slots (set words (slots / 64) 1)
  push_first e =
      pushed 1 (rw e (mark_here 0 0 (bit_past 0 0 (omega arith)))) (λ j l. absurd (omega arith)) (λ p. rw e (omega arith))

  -- The bit is 0: it is set.
  pub push_bit : (slots % 64 ≡ 0 → ⊥) → bit (get_or words (slots / 64) 0) (slots % 64) ≡ 0
      → Pushed words slots (set words (slots / 64) (get_or words (slots / 64) 0 + 2 ^ (slots % 64)))
  push_bit n z =
      pushed (get_or words (slots / 64) 0 + 2 ^ (slots % 64)) (mark_here (slots % 64) (get_or words (slots / 64) 0) z)
      (λ j l. mark_other (slots % 64) (get_or words (slots / 64) 0) j (omega arith) z)
      (λ p. omega (arith, packed_below words slots n p, pow-suc 2 (slots % 64)))

  -- The bit is 1 already: nothing is stored.
  pub push_set : (slots % 64 ≡ 0 → ⊥) → bit (get_or words (slots / 64) 0) (slots % 64) ≡ 1 → Pushed words slots words
  push_set n o =
      subst (λ (exit : List ℕ). Pushed words slots exit) (set-get_or words (slots / 64) 0)
      (pushed (get_or words (slots / 64) 0) o (λ j l. refl) (λ p. omega (arith, packed_below words slots n p, pow-suc 2 (slots % 64))))

module _ (words : List ℕ) (slots slot : ℕ) (room : slots ≤ 64 * length words) where
  -- A live slot is in range, and its bit is 1.
  pub live_below : get_or (live_flags words slots) slot false ≡ true → slot < slots
  live_below h = at (dec_le slots slot)
    where
      at : Dec (slots ≤ slot) → slot < slots
      at (yes l) = absurd (true≢false (sym h ∙ flag_past words slots slot l))
      at (no n) = omega arith

  pub live_one : get_or (live_flags words slots) slot false ≡ true → bit (get_or words (slot / 64) 0) (slot % 64) ≡ 1
  live_one h =
      eqb-true (bit (get_or words (slot / 64) 0) (slot % 64)) 1
      (sym (bit_of words (slot / 64) slot refl) ∙ sym (flag_at words slots slot (live_below h)) ∙ h)

  -- A live slot: its bit is taken away.
  pub clear_live : get_or (live_flags words slots) slot false ≡ true
      → Cleared words slots slot true (set words (slot / 64) (get_or words (slot / 64) 0 - 2 ^ (slot % 64)))
  clear_live h = record {
    answers = sym h;
    flags = flags_set words exit slots slot false dead (bit_other words slot w l others);
    others = frame words (slot / 64) w l;
    keeps = λ e. absurd (true≢false e);
    packs = λ p. packs p (ℕ_discrete (slots % 64) 0) (ℕ_discrete (slots / 64) (slot / 64));
  }
    where
      w : ℕ
      w = get_or words (slot / 64) 0 - 2 ^ (slot % 64)

      exit : List ℕ
      exit = set words (slot / 64) (get_or words (slot / 64) 0 - 2 ^ (slot % 64))

      l : slot / 64 < length words
      l = omega (arith, live_below h)

      one : bit (get_or words (slot / 64) 0) (slot % 64) ≡ 1
      one = live_one h

      others : (j : ℕ) → (j ≡ slot % 64 → ⊥) → bit (get_or words (slot / 64) 0 - 2 ^ (slot % 64)) j ≡ bit (get_or words (slot / 64) 0) j
      others j n = unmark_other (slot % 64) (get_or words (slot / 64) 0) j n one

      dead : live_bit (set words (slot / 64) (get_or words (slot / 64) 0 - 2 ^ (slot % 64))) slot ≡ false
      dead = bit_in words (slot / 64) w slot l refl ∙ ap (λ (x : ℕ). lib.Dec.eqb x 1) (unmark_here (slot % 64) (get_or words (slot / 64) 0) one)

      packs : packed words slots ≡ true → Dec (slots % 64 ≡ 0) → Dec (slots / 64 ≡ slot / 64)
          → packed (set words (slot / 64) (get_or words (slot / 64) 0 - 2 ^ (slot % 64))) slots ≡ true
      packs p (yes e) same = packed_full exit slots e
      packs p (no n) (yes e) =
          packed_is exit slots (rw (e, get_or-set_same words (slot / 64) w 0 l) (omega (arith, rw e at (packed_below words slots n p))))
      packs p (no n) (no m) =
          packed_is exit slots (rw (get_or-set_other words (slot / 64) (slots / 64) w 0 m) (packed_below words slots n p))

  -- A slot that is not live: nothing is stored.
  pub clear_dead : get_or (live_flags words slots) slot false ≡ false → Cleared words slots slot false words
  clear_dead h = record {
    answers = sym h;
    flags =
        sym (set-get_or (live_flags words slots) slot false) ∙ ap (set (live_flags words slots) slot) h;
    others = sym (set-get_or words (slot / 64) 0);
    keeps = λ e. refl;
    packs = λ p. p;
  }
