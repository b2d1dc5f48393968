-- The slots of a checked store, what a written map holds, and words rewritten at the front of a slice as lists.
use Rattle.std.specs.Prelude.{ℕ, ◌+◌, ◌-◌, ◌≤◌, ◌*◌, ◌≡◌, Bool, cond, false, true, List, ◌++◌, map, drop, get_or, length, take}
use Rattle.plain.specs.Library.{◌∙◌, ap, ap₂, sym, get_or-append, length-append, length-drop, length-map, ext_get_or, zero-add, arith}
use Rattle.std.proofs.Common.{take-append-drop, get_or-drop}
use Rattle.plain.specs.declared.Slots.{Slots}
use Rattle.plain.specs.Compaction.{rank, renumbering_from}
use Rattle.plain.specs.Lists.{from, written}
use Rattle.plain.specs.Numbers.{NONE}
use Rattle.plain.specs.Reads.{live_count, live_slots}
use Rattle.plain.specs.Renumbering.{lookup}
use Rattle.plain.proofs.Laws.ListLaws.{get_d_default, map_get_or, count_length}
use Rattle.plain.proofs.Laws.Rank.{live_below, length_live_slots}
use Rattle.plain.proofs.Laws.Renumberings.{length_renumbering, lookup_from}
use Rattle.liveness.specs.Laws.Flags.{length_flags}
use Rattle.liveness.specs.Flags.{live_flags}
use Rattle.shape.specs.Checked.{SlotsChecked}
use Rattle.shape.specs.Index.{Rewritten}
use Rattle.shape.proofs.Laws.Indexing.{front_range, map_from_same}
use Rattle.survivors.specs.Slots.{live_words_of}

-- ---- one kind of slot of a checked store

module _ {c : ℕ} {words : List ℕ} {s : Slots} (k : SlotsChecked c words s) where
  -- no more are live than there are
  pub live_few : s.live ≤ s.bound
  live_few = omega (arith, k.live.live_right, count_length (λ f. f) (live_flags words s.bound), length_flags words s.bound)

  -- they have their liveness words
  pub slots_there : s.bound ≤ 64 * length words
  slots_there = let long = k.live_long in omega (arith, k.bounded.bound_within)

-- ---- the map

-- at a live slot it holds the slot's rank, counted on from `first`
map_at : (first : ℕ) (flags : List Bool) (x : ℕ) → get_or flags x false ≡ true → get_or (renumbering_from first flags) x 0 ≡ first + rank flags x
unfolding lookup
map_at first flags x live =
    get_d_default (renumbering_from first flags) x 0 NONE (let long = length_renumbering first flags in let low = live_below flags x live in omega arith)
    ∙ lookup_from first flags x
    ∙ ap (λ (b : Bool). cond b (first + rank flags x) NONE) live

-- a slice that the map was written to holds it too
pub written_from : (first : ℕ) (flags : List Bool) (entry : List ℕ) (x : ℕ) → get_or flags x false ≡ true
    → get_or (written (renumbering_from first flags) entry) x 0 ≡ first + rank flags x
written_from first flags entry x live =
    let long = length_renumbering first flags in
    let low = live_below flags x live in
    get_or-append (renumbering_from first flags) (drop (length (renumbering_from first flags)) entry) 0 x (omega arith) ∙ map_at first flags x live

-- and is as long as it was
pub mapped_long : (first : ℕ) (flags : List Bool) (entry : List ℕ) → length flags ≤ length entry → length (written (renumbering_from first flags) entry) ≡ length entry
mapped_long first flags entry room =
    let long = length_renumbering first flags in
    length-append (renumbering_from first flags) (drop (length (renumbering_from first flags)) entry)
    ∙ rw (length-drop (length (renumbering_from first flags)) entry) (omega arith)

-- ---- words rewritten, as lists

module _ {entry exit : List ℕ} {n : ℕ} {f : ℕ → ℕ} (r : Rewritten entry exit 0 n f) where
  -- the front holds the new words
  pub rewritten_range : map (λ p. get_or exit p 0) (from 0 n) ≡ map f (from 0 n)
  rewritten_range = map_from_same (λ p. get_or exit p 0) f 0 n (λ p _ h. ap (λ (z : ℕ). get_or exit z 0) (sym (zero-add p)) ∙ r.within p (omega arith))

  pub rewritten_front : n ≤ length entry → take n exit ≡ map f (from 0 n)
  rewritten_front room = front_range exit n (let long = r.long in omega arith) ∙ rewritten_range

  -- and the rest is as it was
  pub rewritten_rest : drop n exit ≡ drop n entry
  rewritten_rest =
      ext_get_or 0 (drop n exit) (drop n entry) (length-drop n exit ∙ ap (λ (z : ℕ). z - n) r.long ∙ sym (length-drop n entry))
      (λ i _. get_or-drop n exit i 0 ∙ r.above (n + i) (omega arith) ∙ sym (get_or-drop n entry i 0))

  -- so the slice is the new words and what is left of the old ones
  pub rewritten_list : n ≤ length entry → exit ≡ map f (from 0 n) ++ drop n entry
  rewritten_list room = sym (take-append-drop n exit) ∙ ap₂ (λ (front rest : List ℕ). front ++ rest) (rewritten_front room) rewritten_rest

-- a list rewritten word by word is written
pub rewritten_written : {entry exit : List ℕ} (xs : List ℕ) (d : ℕ) → Rewritten entry exit 0 (length xs) (λ i. get_or xs i d) → length xs ≤ length entry
    → exit ≡ written xs entry
rewritten_written {entry = entry} xs d r room = rewritten_list r room ∙ ap (λ (front : List ℕ). front ++ drop (length xs) entry) (map_get_or xs d)

-- the words of the live slots are as many as are live
pub length_live_words : (words : List ℕ) (flags : List Bool) → length (live_words_of words flags) ≡ live_count flags
length_live_words words flags = length-map (live_slots flags) (λ x. get_or words x 0) ∙ length_live_slots flags
