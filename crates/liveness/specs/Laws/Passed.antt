-- Going through the live slots in slot order, from one to the next: what a loop by `next_live` has passed, and what is left.
use Rattle.std.specs.Prelude.{ℕ, suc, ◌+◌, ◌≤◌, ◌<◌, ◌≡◌, refl, Bool, true, false, List, [], ◌∷◌, ◌++◌, length, get_or, drop}
use Rattle.plain.specs.Library.{sym, ap, ◌∙◌, ⊎_elim, append-nil, length-append, append_snoc, add-one, arith}
use Rattle.plain.specs.Reads.{live_count, live_from, live_slots}
use Rattle.plain.proofs.Laws.Booleans.{below_or_not}
use Rattle.plain.proofs.Laws.Rank.{length_live_slots}
use Rattle.liveness.specs.Flags.{next_live}
use Rattle.liveness.specs.Laws.Next.{listed_next, listed_end}

-- The live slots before `slot`, which is the next one or past the end, are `past`.
pub record Passed (flags : List Bool) (past : List ℕ) (slot : ℕ) : Type 0 where
  pub place : ℕ
  pub next : slot ≡ next_live flags place
  pub whole : live_slots flags ≡ past ++ live_from place (drop place flags)

-- none yet
pub passed_none : {flags : List Bool} {slot : ℕ} → slot ≡ next_live flags 0 → Passed flags [] slot
passed_none next = record { place = 0; next = next; whole = refl }

-- the next live slot from x on is not before x
next_onward : (flags : List Bool) (x : ℕ) → x ≤ length flags → x ≤ next_live flags x
next_onward flags x h =
    ⊎_elim (λ l. (listed_next flags x l).onward) (λ l. omega arith) (below_or_not (next_live flags x) (length flags))

module _ {flags : List Bool} {past : List ℕ} {slot : ℕ} (i : Passed flags past slot) where
  module _ (l : slot < length flags) where
    -- the slot is live
    pub passed_live : get_or flags slot false ≡ true
    passed_live = rw (← i.next) at (listed_next flags i.place (rw (← i.next) l)).live

    -- it begins what is left
    here : live_from i.place (drop i.place flags) ≡ slot ∷ live_from (suc slot) (drop (suc slot) flags)
    here = rw (← i.next) at (listed_next flags i.place (rw (← i.next) l)).lists

    more : live_slots flags ≡ (past ++ (slot ∷ [])) ++ live_from (suc slot) (drop (suc slot) flags)
    more = i.whole ∙ rw here (sym (append_snoc past slot (live_from (suc slot) (drop (suc slot) flags))))

    -- not all are passed
    pub passed_fewer : length past < live_count flags
    passed_fewer = omega (arith, length_live_slots flags, simp length-append at (ap length more))

    -- one slot more
    pub passed_on : {later : ℕ} → later ≡ next_live flags (slot + 1) → Passed flags (past ++ (slot ∷ [])) later
    passed_on next = record { place = suc slot; next = next ∙ ap (next_live flags) (add-one slot); whole = more }

    -- the next is later
    pub passed_later : {later : ℕ} → later ≡ next_live flags (slot + 1) → slot < later
    passed_later next = omega (arith, next, next_onward flags (slot + 1) (omega arith))

  -- no more than are live
  pub passed_few : length past ≤ live_count flags
  passed_few = omega (arith, length_live_slots flags, simp length-append at (ap length i.whole))

  -- all are passed
  pub passed_all : length flags ≤ slot → live_slots flags ≡ past
  passed_all past_end =
      let nothing = listed_end flags i.place (rw (← i.next) past_end) in
      i.whole ∙ rw nothing (append-nil past)
