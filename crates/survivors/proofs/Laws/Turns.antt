-- One turn of a loop over slots: what a live slot and a dead one do to the count of live slots, to the map and to the words moved down, and that no word moves where
-- every slot is live. For compaction and for joining.
use Rattle.std.specs.Prelude.{ℕ, ◌+◌, ◌<◌, ◌≤◌, suc, zero, ◌-◌, ◌≡◌, refl, Bool, cond, false, true, ◌⊎◌, List, [], ◌∷◌, ◌++◌, get_or, length, set, replicate}
use Rattle.plain.specs.Library.{◌∙◌, ap, sym, ap₂, inl, inr, append-nil, append_snoc, length-append, ext_get_or, zero-add, add-one, arith}
use Rattle.std.proofs.Common.{add-zero, get_or-append-add}
use Rattle.plain.proofs.Laws.Rank.{live_below, live_slot_rank, rank_end, length_live_slots, member_live_slots, live_count_all_live, live_from_all_live}
use Rattle.plain.proofs.Laws.Booleans.{below_or_not, or_true}
use Rattle.plain.proofs.Laws.ListLaws.{count_length, get_or_from, member_append, member_first}
use Rattle.plain.proofs.Laws.Renumberings.{length_renumbering, lookup_from}
use Rattle.plain.specs.Compaction.{rank, renumbering_from}
use Rattle.plain.specs.Reads.{live_count, live_from, live_slots}
use Rattle.plain.specs.Lists.{count, member, written}
use Rattle.plain.specs.Numbers.{NONE}
use Rattle.plain.specs.Renumbering.{lookup}
use Rattle.liveness.specs.Laws.Flags.{length_flags}
use Rattle.liveness.specs.Flags.{live_flags}
use Rattle.shape.specs.Index.{Rewritten}
use Rattle.shape.proofs.Laws.Indexing.{rewritten_set, rewritten_again, rewritten_all, rewritten_as, rewritten_here}
use Rattle.shape.specs.Columns.{cell}
use Rattle.survivors.specs.Slots.{kept_word, translated_word}
use Rattle.survivors.proofs.Laws.Slots.{rewritten_written}
use Rattle.survivors.specs.Laws.Turns.{Moving, Passed}

-- one word more at the front
pub rewritten_next : {entry now : List ℕ} {i : ℕ} {f : ℕ → ℕ} (v : ℕ) → Rewritten entry now 0 i f → i < length entry → v ≡ f i
    → Rewritten entry (set now i v) 0 (i + 1) f
rewritten_next {i = i} {f = f} v r room new =
    rewritten_set (i + 1) i i v f r (omega arith) (omega arith) (sym (zero-add i)) (omega arith) new (λ x h e. (omega arith, refl))

-- a slot's rank, from that of the slot before
rank_suc : (flags : List Bool) (x : ℕ) → rank flags (suc x) ≡ rank flags x + cond (get_or flags x false) 1 0
unfolding rank
rank_suc [] zero = refl
rank_suc [] (suc x) = refl
rank_suc (flag ∷ flags) zero = omega arith
rank_suc (flag ∷ flags) (suc x) = let rest = rank_suc flags x in omega arith

-- no slot is passed
pub passed_none : (live : List ℕ) (bound first : ℕ) → Passed live bound first 0 first
unfolding rank
passed_none live bound first = record { within = omega arith; ranked = sym (add-zero first); few = omega arith }

module _ {live : List ℕ} {bound first slot number : ℕ} (p : Passed live bound first slot number) where
  -- the flags of all slots
  abbrev flags : List Bool
  flags = live_flags live bound

  -- a live slot
  pub passed_live : slot < bound → get_or flags slot false ≡ true → Passed live bound first (slot + 1) (number + 1)
  passed_live h alive =
      let step = rw alive at (rank_suc flags slot) in
      let before = p.ranked in
      let low = p.few in
      record { within = omega arith; ranked = rw (add-one slot) (omega arith); few = omega arith }

  -- a dead slot
  pub passed_dead : slot < bound → get_or flags slot false ≡ false → Passed live bound first (slot + 1) number
  passed_dead h dead =
      let step = rw dead at (rank_suc flags slot) in
      let before = p.ranked in
      let low = p.few in
      record { within = omega arith; ranked = rw (add-one slot) (omega arith); few = omega arith }

  -- what the map holds at the slot
  mapped : (flag : Bool) → get_or flags slot false ≡ flag → cond flag number NONE ≡ lookup (renumbering_from first flags) slot
  mapped flag h = sym (lookup_from first flags slot ∙ ap₂ (λ (b : Bool) (n : ℕ). cond b n NONE) h (sym p.ranked))

  -- a live slot gets its number
  pub mapped_live : get_or flags slot false ≡ true → number ≡ lookup (renumbering_from first flags) slot
  mapped_live alive = mapped true alive

  -- a dead slot gets none
  pub mapped_dead : get_or flags slot false ≡ false → NONE ≡ lookup (renumbering_from first flags) slot
  mapped_dead dead = mapped false dead

  -- the map is whole
  pub mapped_all : {entry now : List ℕ} → Rewritten entry now 0 slot (lookup (renumbering_from first flags)) → bound ≤ slot → bound ≤ length entry
      → now ≡ written (renumbering_from first flags) entry
  unfolding lookup
  mapped_all r h room =
      let long = length_renumbering first flags ∙ length_flags live bound in
      let low = p.within in
      rewritten_written (renumbering_from first flags) NONE (rewritten_all (length (renumbering_from first flags)) r (omega arith) (omega arith)) (omega arith)

-- ---- slots counted from 0 on

module _ {live : List ℕ} {bound slot number : ℕ} (p : Passed live bound 0 slot number) where
  -- as many as are live
  counted : number ≡ rank (live_flags live bound) slot
  counted = p.ranked ∙ zero-add (rank (live_flags live bound) slot)

  -- the live slot stands at its rank
  pub slot_counted : get_or (live_flags live bound) slot false ≡ true → get_or (live_slots (live_flags live bound)) number 0 ≡ slot
  slot_counted alive = ap (λ (i : ℕ). get_or (live_slots (live_flags live bound)) i 0) counted ∙ live_slot_rank (live_flags live bound) slot 0 alive

  -- all are passed
  pub all_counted : bound ≤ slot → number ≡ live_count (live_flags live bound)
  all_counted h = let long = length_flags live bound in counted ∙ rank_end (live_flags live bound) slot (omega arith)

-- ---- words rewritten

-- every word rewritten to itself
pub rewritten_same : {entry exit : List ℕ} {at n : ℕ} {f : ℕ → ℕ} → Rewritten entry exit at n f → ((x : ℕ) → x < n → f x ≡ cell entry at x) → exit ≡ entry
rewritten_same {entry = entry} {exit = exit} {at = at} {n = n} r same =
    ext_get_or 0 exit entry r.long (λ i h. each i (below_or_not i at) (below_or_not i (at + n)))
  where
    each : (i : ℕ) → (i < at) ⊎ (at ≤ i) → (i < at + n) ⊎ (at + n ≤ i) → get_or exit i 0 ≡ get_or entry i 0
    each i (inl low) inside = r.below i low
    each i (inr h) (inr past) = r.above i past
    each i (inr h) (inl inside) =
        let place : at + (i - at) ≡ i = omega arith in
        ap (λ (z : ℕ). get_or exit z 0) (sym place)
        ∙ r.within (i - at) (omega arith)
        ∙ same (i - at) (omega arith)
        ∙ ap (λ (z : ℕ). get_or entry z 0) place

-- words moved and then put through a map are what the map holds at the words that were moved
pub rewritten_through : {a b c : List ℕ} {n : ℕ} {f : ℕ → ℕ} (entries : List ℕ) → Rewritten a b 0 n f → Rewritten b c 0 n (translated_word b entries)
    → Rewritten a c 0 n (λ i. get_or entries (f i) 0)
rewritten_through {b = b} {f = f} entries r s =
    rewritten_as (λ i. get_or entries (f i) 0) (rewritten_again r s)
    (λ i h. ap (λ (w : ℕ). get_or entries w 0) (ap (λ (z : ℕ). get_or b z 0) (sym (zero-add i)) ∙ r.within i h))

-- ---- the words of the live slots, one after the other

-- live slot number i is no lower than i
live_from_high : (a : ℕ) (flags : List Bool) (i : ℕ) → i < length (live_from a flags) → a + i ≤ get_or (live_from a flags) i 0
unfolding live_from
live_from_high a [] i h = absurd (omega arith)
live_from_high a (true ∷ flags) zero h = omega arith
live_from_high a (true ∷ flags) (suc i) h = let rest = live_from_high (suc a) flags i (omega arith) in omega arith
live_from_high a (false ∷ flags) i h = let rest = live_from_high (suc a) flags i h in omega arith

-- there are no more of them than slots
pub live_slots_few : (live : List ℕ) (bound : ℕ) → length (live_slots (live_flags live bound)) ≤ bound
live_slots_few live bound =
    omega (arith, length_live_slots (live_flags live bound), count_length (λ (f : Bool). f) (live_flags live bound), length_flags live bound)

module _ {words : List ℕ} {flags : List Bool} {past left entry now : List ℕ} {n : ℕ} (m : Moving words flags past left entry n now) where
  -- all are
  pub moving_all : left ≡ [] → Rewritten entry now 0 (live_count flags) (kept_word words flags)
  moving_all none =
      let all : length past ≡ live_count flags = rw (← length_live_slots flags, m.whole, none, append-nil past) in
      rewritten_all (live_count flags) m.moved (omega (arith, m.counted)) (omega (arith, m.counted))

  module _ {slot : ℕ} {rest : List ℕ} (q : left ≡ slot ∷ rest) where
    pub moving_few : n < live_count flags
    moving_few =
        let size : live_count flags ≡ length past + (1 + length rest) = rw (← length_live_slots flags, m.whole, q) (simp length-append (omega arith)) in
        omega (arith, m.counted)

    -- the slot's place among the live ones
    moving_here : get_or (live_slots flags) n 0 ≡ slot
    moving_here = rw (m.whole, q, m.counted) (simp add-zero at (get_or-append-add past (slot ∷ rest) 0 0))

    -- it is no lower
    pub moving_low : n ≤ slot
    moving_low =
        let high = live_from_high 0 flags n (omega (arith, moving_few, length_live_slots flags)) in
        omega (arith, moving_here)

    -- it is below the bound
    pub moving_below : slot < length flags
    moving_below =
        live_below flags slot
        (sym (member_live_slots flags slot) ∙ rw (m.whole, q, member_append slot past (slot ∷ rest), member_first slot rest) (or_true (member slot past)))

    -- its word is put in place
    pub moving_on : (v : ℕ) → n < length entry → v ≡ get_or words slot 0 → Moving words flags (past ++ (slot ∷ [])) rest entry (n + 1) (set now n v)
    moving_on v room is = record {
      whole = m.whole ∙ rw q (sym (append_snoc past slot rest));
      counted = simp length-append (omega (arith, m.counted));
      moved = rewritten_next v m.moved room (is ∙ ap (λ (x : ℕ). get_or words x 0) (sym moving_here));
    }

-- where they go to the front of the words themselves, the slot's word is still where it was
pub moving_kept : {words : List ℕ} {flags : List Bool} {past left now : List ℕ} {n slot : ℕ} {rest : List ℕ} → Moving words flags past left words n now → left ≡ slot ∷ rest
    → get_or now slot 0 ≡ get_or words slot 0
moving_kept {slot = slot} m q = m.moved.above slot (omega (arith, moving_low m q))

-- ---- words moved down

module _ {live : List ℕ} {bound slot number : ℕ} (p : Passed live bound 0 slot number) where
  module _ {entry now : List ℕ} (r : Rewritten entry now 0 number (kept_word entry (live_flags live bound))) where
    -- the word of a live slot is still where it was, and goes to the slot's rank
    pub kept_live : get_or (live_flags live bound) slot false ≡ true → get_or now slot 0 ≡ kept_word entry (live_flags live bound) number
    kept_live alive = let low = p.few in r.above slot (omega arith) ∙ ap (λ (x : ℕ). get_or entry x 0) (sym (slot_counted p alive))

    -- all are moved
    pub kept_all : bound ≤ slot → Rewritten entry now 0 (live_count (live_flags live bound)) (kept_word entry (live_flags live bound))
    kept_all h = let count = all_counted p h in rewritten_all (live_count (live_flags live bound)) r (omega arith) (omega arith)

-- ---- where every slot is live

-- as many as there are slots
all_flags : (flags : List Bool) → live_count flags ≡ length flags → flags ≡ replicate (length flags) true
unfolding count
all_flags [] full = refl
all_flags (true ∷ flags) full = ap (λ (l : List Bool). true ∷ l) (all_flags flags (omega arith))
all_flags (false ∷ flags) full = absurd (omega (arith, count_length (λ f. f) flags))

module _ (flags : List Bool) (bound : ℕ) (all : flags ≡ replicate bound true) where
  -- live slot number i is slot i
  slot_all_live : (i : ℕ) → i < live_count flags → get_or (live_slots flags) i 0 ≡ i
  slot_all_live i h =
      let few = ap live_count all ∙ live_count_all_live bound in
      ap (λ (l : List ℕ). get_or l i 0) (ap live_slots all ∙ live_from_all_live 0 bound) ∙ get_or_from 0 bound i 0 (omega arith) ∙ zero-add i

  -- no word moves
  pub kept_all_live : {entry exit : List ℕ} → Rewritten entry exit 0 (live_count flags) (kept_word entry flags) → exit ≡ entry
  kept_all_live {entry = entry} r = rewritten_same r (λ i h. ap (λ (x : ℕ). get_or entry x 0) (slot_all_live i h ∙ sym (zero-add i)))

-- so the words are as kept
pub kept_already : (words live : List ℕ) (bound : ℕ) → live_count (live_flags live bound) ≡ bound
    → Rewritten words words 0 (live_count (live_flags live bound)) (kept_word words (live_flags live bound))
kept_already words live bound full =
    let flags = live_flags live bound in
    let all : flags ≡ replicate (length flags) true = all_flags flags (full ∙ sym (length_flags live bound)) in
    rewritten_here (λ i h. ap (λ (x : ℕ). get_or words x 0) (zero-add i ∙ sym (slot_all_live flags (length flags) all i h)))
