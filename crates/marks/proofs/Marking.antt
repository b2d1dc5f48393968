-- Marking an edge: the two ways through `mark`.
use Rattle.std.specs.Prelude.{ℕ, ◌+◌, ◌/◌, ◌%◌, ◌^◌, ◌<◌, ◌≡◌, refl, true, false, ◌||◌, not, List, length, get_or, set, eqb}
use Rattle.plain.specs.Library.{sym, ap, ◌∙◌, eq-eqb, eqb-true, eqb-false}
use Rattle.plain.proofs.Laws.Booleans.{by_test}
use Rattle.liveness.specs.Flags.{bit}
use Rattle.liveness.specs.Laws.Bits.{mark_here, mark_other}
use Rattle.liveness.specs.Laws.Flags.{bit_in, bit_of, bit_other}
use Rattle.marks.specs.Marks.{marked, Marked}

module _ (words : List ℕ) (edge : ℕ) where
  -- what is marked: an edge that is marked in the end, where the others are as they were
  marks_by : (exit : List ℕ) → marked exit edge ≡ true → ((e : ℕ) → (e ≡ edge → ⊥) → marked exit e ≡ marked words e)
      → (e : ℕ) → marked exit e ≡ (eqb e edge || marked words e)
  marks_by exit here others e =
      by_test (eqb e edge) (λ q. rw q (ap (marked exit) (eqb-true e edge q) ∙ here)) (λ q. rw q (others e (eqb-false e edge q)))

  -- the edge was marked already
  pub mark_again : bit (get_or words (edge / 64) 0) (edge % 64) ≡ 1 → Marked words edge false words
  mark_again o =
      let here = bit_of words (edge / 64) edge refl ∙ eq-eqb (bit (get_or words (edge / 64) 0) (edge % 64)) 1 o in
      record { answers = sym (ap not here); marks = marks_by words here (λ e n. refl) }

  -- it was not
  pub mark_new : edge / 64 < length words → bit (get_or words (edge / 64) 0) (edge % 64) ≡ 0
      → Marked words edge true (set words (edge / 64) (get_or words (edge / 64) 0 + 2 ^ (edge % 64)))
  mark_new l z = record {
    answers = sym (ap not (bit_of words (edge / 64) edge refl ∙ ap (λ (b : ℕ). eqb b 1) z));
    marks = marks_by (set words (edge / 64) w) (bit_in words (edge / 64) w edge l refl ∙ eq-eqb (bit w (edge % 64)) 1 (mark_here (edge % 64) (get_or words (edge / 64) 0) z))
        (bit_other words edge w l (λ j n. mark_other (edge % 64) (get_or words (edge / 64) 0) j n z));
  }
    where
      w : ℕ
      w = get_or words (edge / 64) 0 + 2 ^ (edge % 64)
