-- A turn of the iterator over the live slots: the slot that comes next begins what is left, and where there is none nothing is left.
use Rattle.std.specs.Prelude.{ℕ, ◌+◌, ◌*◌, ◌≤◌, ◌<◌, ◌≡◌, true, false, List, [], ◌∷◌, length, get_or, drop}
use Rattle.plain.specs.Library.{sym, add-one}
use Rattle.plain.specs.Reads.{live_from}
use Rattle.liveness.specs.Flags.{live_flags, next_live}
use Rattle.liveness.specs.Laws.Flags.{length_flags}
use Rattle.liveness.specs.Laws.Next.{listed_next, listed_end}
use Rattle.liveness.proofs.NextWords.{next_here}
use Rattle.liveness.proofs.Words.{live_below}

module _ (words : List ℕ) (slots from : ℕ) {slot : ℕ} (is : slot ≡ next_live (live_flags words slots) from) where
  pub left_more : slot < slots
      → live_from from (drop from (live_flags words slots)) ≡ slot ∷ live_from (slot + 1) (drop (slot + 1) (live_flags words slots))
  left_more l = rw (← is, ← add-one slot) at (listed_next (live_flags words slots) from (rw (← is, length_flags words slots) l)).lists

  pub left_none : slots ≤ slot → live_from from (drop from (live_flags words slots)) ≡ []
  left_none l = listed_end (live_flags words slots) from (rw (← is, length_flags words slots) l)

-- A live slot begins what is left from it on.
pub left_here : (words : List ℕ) (slots from : ℕ) → slots ≤ 64 * length words → get_or (live_flags words slots) from false ≡ true
    → live_from from (drop from (live_flags words slots)) ≡ from ∷ live_from (from + 1) (drop (from + 1) (live_flags words slots))
left_here words slots from room h =
    let below = live_below words slots from room h in
    left_more words slots from (sym (next_here (live_flags words slots) from (rw (length_flags words slots) below) h)) below
