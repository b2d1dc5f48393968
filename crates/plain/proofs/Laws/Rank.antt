-- Laws of `rank`, the number that a slot gets, and of the live slots in slot order.
use Rattle.std.specs.Prelude.{ℕ, zero, suc, ◌+◌, ◌≤◌, ◌<◌, ◌≡◌, refl, Bool, true, false, cond, ◌&&◌, List, [], ◌∷◌, ◌++◌, map, length, get_or, set, take, replicate, ltb}
use Rattle.plain.specs.Library.{sym, ap, ◌∙◌, subst, map-map, length-set, get_or-map, zero-add, arith, ltb-true, lt-ltb}
use Rattle.std.proofs.Common.{zero-le, suc-le-suc, not-suc-le-zero, le_of_suc-le-suc, one-add, ltb-false}
use Rattle.std.proofs.Math.Nat.{suc_inj}
use Rattle.std.proofs.Math.Path.{fun_ext}
use Rattle.std.proofs.Math.Bool.{and-false}
use Rattle.std.proofs.Math.Dec.{leb-suc-zero, leb-suc-suc, eqb-suc-zero}
use Rattle.plain.specs.Lists.{member, from, count}
use Rattle.plain.specs.Reads.{live_count, live_from, live_slots}
use Rattle.plain.specs.Compaction.{rank}
use Rattle.plain.proofs.Laws.Booleans.{by_test, true_false}
use Rattle.plain.proofs.Laws.ListLaws.{get_d_default, get_d_map, member_map, member_zero_suc, member_at, count_append, from_suc, get_or_from, map_unchanged}

-- ---- rank

-- the rank counts the live flags before a slot
pub rank_take : (flags : List Bool) (x : ℕ) → rank flags x ≡ live_count (take x flags)
unfolding rank count
rank_take flags zero = refl
rank_take [] (suc x) = refl
rank_take (b ∷ flags) (suc x) = ap (λ (n : ℕ). cond b 1 0 + n) (rank_take flags x)

-- without slots every rank is 0
pub rank_none : (x : ℕ) → rank [] x ≡ 0
unfolding rank
rank_none zero = refl
rank_none (suc x) = refl

-- at the bound and above, the rank is the number of live slots
pub rank_end : (flags : List Bool) (x : ℕ) → length flags ≤ x → rank flags x ≡ live_count flags
unfolding rank count
rank_end [] x h = rank_none x
rank_end (flag ∷ flags) zero h = absurd (not-suc-le-zero h)
rank_end (flag ∷ flags) (suc x) h = ap (λ (n : ℕ). cond flag 1 0 + n) (rank_end flags x (le_of_suc-le-suc h))

-- the rank of a live slot is below the number of live slots
pub rank_live : (flags : List Bool) (x : ℕ) → get_or flags x false ≡ true → rank flags x < live_count flags
unfolding rank count
rank_live [] x h = true_false h refl
rank_live (flag ∷ flags) zero h = rw h (omega arith)
rank_live (flag ∷ flags) (suc x) h = let rest = rank_live flags x h in omega arith

-- a live slot is below the bound
pub live_below : (flags : List Bool) (x : ℕ) → get_or flags x false ≡ true → x < length flags
live_below [] x h = true_false h refl
live_below (flag ∷ flags) zero h = suc-le-suc zero-le
live_below (flag ∷ flags) (suc x) h = suc-le-suc (live_below flags x h)

-- a slot after a live one has a higher rank
pub rank_after : (flags : List Bool) (x y : ℕ) → get_or flags x false ≡ true → x < y → rank flags x < rank flags y
unfolding rank
rank_after [] x y h k = true_false h refl
rank_after (flag ∷ flags) x zero h k = absurd (not-suc-le-zero k)
rank_after (flag ∷ flags) zero (suc y) h k = rw h (omega arith)
rank_after (flag ∷ flags) (suc x) (suc y) h k = let rest = rank_after flags x y h (le_of_suc-le-suc k) in omega arith

-- live slots of one rank are one slot
pub rank_injective : (flags : List Bool) (x y : ℕ) → get_or flags x false ≡ true → get_or flags y false ≡ true → rank flags x ≡ rank flags y → x ≡ y
rank_injective flags x y live-x live-y q =
    by_test (ltb x y) (λ h. let more = rank_after flags x y live-x (ltb-true x y h) in absurd (omega arith))
    (λ h. by_test (ltb y x) (λ k. let more = rank_after flags y x live-y (ltb-true y x k) in absurd (omega arith))
    (λ k. let above = ltb-false x y h in let below = ltb-false y x k in omega arith))

-- what a removal takes from the ranks: one, after a live slot removed
pub rank_removal : (flags : List Bool) (x y : ℕ) → rank flags y ≡ rank (set flags x false) y + cond (get_or flags x false && ltb x y) 1 0
unfolding rank
rank_removal flags x zero = rw (leb-suc-zero x, and-false (get_or flags x false))
rank_removal [] x (suc y) = refl
rank_removal (true ∷ flags) zero (suc y) = rw (lt-ltb 0 (suc y) (omega arith)) (omega arith)
rank_removal (false ∷ flags) zero (suc y) = omega arith
rank_removal (flag ∷ flags) (suc x) (suc y) = rw (leb-suc-suc (suc x) y) (let rest = rank_removal flags x y in omega arith)

-- after a live slot removed, each rank is one lower
pub rank_after_removed : (flags : List Bool) (x y : ℕ) → get_or flags x false ≡ true → x < y → suc (rank (set flags x false) y) ≡ rank flags y
rank_after_removed flags x y live h =
    let law = rw (live, lt-ltb x y h) at (rank_removal flags x y) in
    omega arith

-- a live slot removed leaves one live slot less
pub live_count_removed : (flags : List Bool) (x : ℕ) → get_or flags x false ≡ true → suc (live_count (set flags x false)) ≡ live_count flags
live_count_removed flags x live =
    let long = length-set flags x false in
    let now = rank_end (set flags x false) (length flags) (omega arith) in
    let before = rank_end flags (length flags) (omega arith) in
    let law = rank_after_removed flags x (length flags) live (live_below flags x live) in
    omega arith

-- a live slot appended is one live slot more
pub live_count_pushed : (flags : List Bool) → live_count (flags ++ (true ∷ [])) ≡ suc (live_count flags)
unfolding count
live_count_pushed flags = let law = count_append (λ f. f) flags (true ∷ []) in omega arith

-- where every slot is live, a slot's rank is its number
pub rank_all_live : (n x : ℕ) → x ≤ n → rank (replicate n true) x ≡ x
unfolding rank
rank_all_live n zero h = refl
rank_all_live zero (suc x) h = absurd (not-suc-le-zero h)
rank_all_live (suc n) (suc x) h = let rest = rank_all_live n x (le_of_suc-le-suc h) in omega arith

-- ---- the live slots, in slot order

-- there are as many as are counted, from whatever number on
pub length_live_from : (a : ℕ) (flags : List Bool) → length (live_from a flags) ≡ live_count flags
unfolding live_from count
length_live_from a [] = refl
length_live_from a (true ∷ flags) = let rest = length_live_from (suc a) flags in omega arith
length_live_from a (false ∷ flags) = let rest = length_live_from (suc a) flags in omega arith

-- there are as many live slots as are counted
pub length_live_slots : (flags : List Bool) → length (live_slots flags) ≡ live_count flags
length_live_slots flags = length_live_from 0 flags

-- counted from the next number on, each is one higher
pub live_from_suc : (a : ℕ) (flags : List Bool) → live_from (suc a) flags ≡ map suc (live_from a flags)
unfolding live_from
live_from_suc a [] = refl
live_from_suc a (true ∷ flags) = ap (λ (l : List ℕ). suc a ∷ l) (live_from_suc (suc a) flags)
live_from_suc a (false ∷ flags) = live_from_suc (suc a) flags

-- a slot is live after the first one where the slot before it is live without the first one
member_live_later : (flags : List Bool) (x : ℕ) → member (suc x) (live_from 1 flags) ≡ member x (live_slots flags)
member_live_later flags x = rw (live_from_suc 0 flags) (member_map suc x (live_slots flags) (λ y h. suc_inj))

-- the members are exactly the slots that are live
pub member_live_slots : (flags : List Bool) (x : ℕ) → member x (live_slots flags) ≡ get_or flags x false
unfolding live_from member
member_live_slots [] x = refl
member_live_slots (true ∷ flags) zero = refl
member_live_slots (true ∷ flags) (suc x) = rw (eqb-suc-zero x) (member_live_later flags x ∙ member_live_slots flags x)
member_live_slots (false ∷ flags) zero = rw (live_from_suc 0 flags) (member_zero_suc (live_slots flags))
member_live_slots (false ∷ flags) (suc x) = member_live_later flags x ∙ member_live_slots flags x

-- after the first slot, ranks are those without it, and one more if it is live
map_rank_later : (flag : Bool) (flags : List Bool)
    → map (rank (flag ∷ flags)) (live_from 1 flags) ≡ map (λ n. cond flag 1 0 + n) (map (rank flags) (live_slots flags))
unfolding rank
map_rank_later flag flags =
    rw (live_from_suc 0 flags)
    (map-map (rank (flag ∷ flags)) suc (live_slots flags) ∙ sym (map-map (λ n. cond flag 1 0 + n) (rank flags) (live_slots flags)))

-- the ranks of the live slots are the numbers from 0 on
pub map_rank_live_slots : (flags : List Bool) → map (rank flags) (live_slots flags) ≡ from 0 (live_count flags)
unfolding live_from rank count from
map_rank_live_slots [] = refl
map_rank_live_slots (true ∷ flags) =
    let n = live_count flags in
    ap (λ (l : List ℕ). 0 ∷ l)
    (map_rank_later true flags
    ∙ ap (map (λ k. 1 + k)) (map_rank_live_slots flags)
    ∙ ap (λ (f : ℕ → ℕ). map f (from 0 n)) (fun_ext one-add)
    ∙ sym (from_suc 0 n))
    ∙ ap (from 0) (sym (one-add n))
map_rank_live_slots (false ∷ flags) =
    let n = live_count flags in
    map_rank_later false flags
    ∙ map_unchanged (λ k. 0 + k) (map (rank flags) (live_slots flags)) (λ x h. zero-add x)
    ∙ map_rank_live_slots flags
    ∙ ap (from 0) (sym (zero-add n))

-- live slot number i has rank i
pub rank_live_slot : (flags : List Bool) (i : ℕ) → i < live_count flags → rank flags (get_or (live_slots flags) i 0) ≡ i
unfolding rank
rank_live_slot flags i h =
    sym (get_or-map (rank flags) (live_slots flags) i 0)
    ∙ ap (λ (l : List ℕ). get_or l i 0) (map_rank_live_slots flags)
    ∙ get_or_from 0 (live_count flags) i 0 h
    ∙ zero-add i

-- each of the live slots is live
pub live_slot_live : (flags : List Bool) (i d : ℕ) → i < live_count flags → get_or flags (get_or (live_slots flags) i d) false ≡ true
live_slot_live flags i d h =
    sym (member_live_slots flags (get_or (live_slots flags) i d))
    ∙ member_at (live_slots flags) i d (subst (λ (n : ℕ). i < n) (sym (length_live_slots flags)) h)

-- a live slot stands among the live slots at its rank
pub live_slot_rank : (flags : List Bool) (x d : ℕ) → get_or flags x false ≡ true → get_or (live_slots flags) (rank flags x) d ≡ x
live_slot_rank flags x d live =
    let below = rank_live flags x live in
    get_d_default (live_slots flags) (rank flags x) d 0 (subst (λ (n : ℕ). rank flags x < n) (sym (length_live_slots flags)) below)
    ∙ rank_injective flags (get_or (live_slots flags) (rank flags x) 0) x
    (live_slot_live flags (rank flags x) 0 below) live (rank_live_slot flags (rank flags x) below)

-- a list of values at the live slots has the value at a live slot at the slot's rank
pub get_or_at_rank : {A : Type 0} (f : ℕ → A) (flags : List Bool) (x : ℕ) (d : A) → get_or flags x false ≡ true
    → get_or (map f (live_slots flags)) (rank flags x) d ≡ f x
get_or_at_rank f flags x d live =
    get_d_map f (live_slots flags) (rank flags x) 0 d (subst (λ (n : ℕ). rank flags x < n) (sym (length_live_slots flags)) (rank_live flags x live))
    ∙ ap f (live_slot_rank flags x 0 live)

-- where every slot is live, as many are live as there are
pub live_count_all_live : (n : ℕ) → live_count (replicate n true) ≡ n
unfolding count
live_count_all_live zero = refl
live_count_all_live (suc n) = let rest = live_count_all_live n in omega arith

-- where every slot is live, the live slots are consecutive numbers
pub live_from_all_live : (a n : ℕ) → live_from a (replicate n true) ≡ from a n
unfolding live_from from
live_from_all_live a zero = refl
live_from_all_live a (suc n) = ap (λ (l : List ℕ). a ∷ l) (live_from_all_live (suc a) n)

-- where every slot is live, a slot is live below the bound and only there
pub live_all_live : (n x : ℕ) → get_or (replicate n true) x false ≡ ltb x n
live_all_live zero x = sym (leb-suc-zero x)
live_all_live (suc n) zero = sym (lt-ltb 0 (suc n) (omega arith))
live_all_live (suc n) (suc x) = live_all_live n x ∙ sym (leb-suc-suc (suc x) n)
