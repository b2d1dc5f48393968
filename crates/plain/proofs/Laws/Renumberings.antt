-- Laws of the map of a compaction: its entries, where it is an identity map, and the maps of two compactions composed.
use Rattle.std.specs.Prelude.{ℕ, zero, suc, ◌+◌, ◌≤◌, ◌≡◌, refl, Bool, true, false, cond, ◌&&◌, List, [], ◌∷◌, map, length, get_or, replicate, eqb}
use Rattle.plain.specs.Library.{sym, ap, ap₂, ◌∙◌, length-map, get_or-map, ext_get_or, zero-add, arith, ne_eqb}
use Rattle.std.proofs.Common.{one-add}
use Rattle.plain.specs.Numbers.{NONE}
use Rattle.plain.specs.Lists.{from}
use Rattle.plain.specs.Reads.{live_count}
use Rattle.plain.specs.Renumbering.{lookup, composed}
use Rattle.plain.specs.Compaction.{rank, renumbering_from, renumbering}
use Rattle.plain.proofs.Laws.Booleans.{by_test}
use Rattle.plain.proofs.Laws.Rank.{rank_none, rank_live}
use Rattle.plain.specs.Laws.Renumberings.{both}

-- the map has one entry a slot
pub length_renumbering : (next : ℕ) (flags : List Bool) → length (renumbering_from next flags) ≡ length flags
unfolding renumbering_from
length_renumbering next [] = refl
length_renumbering next (true ∷ flags) = ap suc (length_renumbering (suc next) flags)
length_renumbering next (false ∷ flags) = ap suc (length_renumbering next flags)

-- the numbers that a map gives from `next` on
pub lookup_from : (next : ℕ) (flags : List Bool) (x : ℕ) → lookup (renumbering_from next flags) x ≡ cond (get_or flags x false) (next + rank flags x) NONE
unfolding renumbering_from lookup rank
lookup_from next [] x = refl
lookup_from next (true ∷ flags) zero = omega arith
lookup_from next (true ∷ flags) (suc x) =
    lookup_from (suc next) flags x ∙ ap (λ (n : ℕ). cond (get_or flags x false) n NONE) (omega arith)
lookup_from next (false ∷ flags) zero = refl
lookup_from next (false ∷ flags) (suc x) =
    lookup_from next flags x ∙ ap (λ (n : ℕ). cond (get_or flags x false) n NONE) (omega arith)

-- the map is exactly the survivors numbered from 0 in slot order, and NONE elsewhere, past the bound too
pub lookup_renumbering : (flags : List Bool) (x : ℕ) → lookup (renumbering flags) x ≡ cond (get_or flags x false) (rank flags x) NONE
lookup_renumbering flags x = lookup_from 0 flags x ∙ ap (λ (n : ℕ). cond (get_or flags x false) n NONE) (zero-add (rank flags x))

-- where every slot is live, the map holds i at each i below the bound
pub renumbering_all_live : (next n : ℕ) → renumbering_from next (replicate n true) ≡ from next n
unfolding renumbering_from from
renumbering_all_live next zero = refl
renumbering_all_live next (suc n) = ap (λ (l : List ℕ). next ∷ l) (renumbering_all_live (suc next) n)

-- ---- two compactions, one after the other

-- both are flags of the slots before the first
pub length_both : (first second : List Bool) → length (both first second) ≡ length first
unfolding both
length_both [] second = refl
length_both (false ∷ first) second = ap suc (length_both first second)
length_both (true ∷ first) [] = ap suc (length_both first [])
length_both (true ∷ first) (flag ∷ second) = ap suc (length_both first second)

-- a slot survives both where it is live, and its new number is
pub live_both : (first second : List Bool) (x : ℕ) → get_or (both first second) x false ≡ (get_or first x false && get_or second (rank first x) false)
unfolding both rank
live_both [] second x = refl
live_both (false ∷ first) second zero = refl
live_both (false ∷ first) second (suc x) = rw (zero-add (rank first x)) (live_both first second x)
live_both (true ∷ first) [] zero = refl
live_both (true ∷ first) [] (suc x) = live_both first [] x
live_both (true ∷ first) (flag ∷ second) zero = refl
live_both (true ∷ first) (flag ∷ second) (suc x) = rw (one-add (rank first x)) (live_both first second x)

-- its number after both is the number that the second gives to its number after the first
pub rank_both : (first second : List Bool) (x : ℕ) → rank (both first second) x ≡ rank second (rank first x)
unfolding both rank
rank_both first second zero = refl
rank_both [] second (suc x) = refl
rank_both (false ∷ first) second (suc x) =
    zero-add (rank (both first second) x) ∙ rank_both first second x ∙ ap (rank second) (sym (zero-add (rank first x)))
rank_both (true ∷ first) [] (suc x) =
    zero-add (rank (both first []) x) ∙ rank_both first [] x ∙ rank_none (rank first x) ∙ sym (rank_none (1 + rank first x))
rank_both (true ∷ first) (flag ∷ second) (suc x) =
    ap (λ (n : ℕ). cond flag 1 0 + n) (rank_both first second x) ∙ ap (rank (flag ∷ second)) (sym (one-add (rank first x)))

-- an entry of a map, put through the map of a second compaction
abbrev then : List Bool → ℕ → ℕ
then second slot = cond (eqb slot NONE) NONE (lookup (renumbering second) slot)

-- a composed map gives what the map of both gives, at each slot
lookup_composed : (first second : List Bool) (x : ℕ) → live_count first ≤ NONE
    → then second (lookup (renumbering first) x) ≡ lookup (renumbering (both first second)) x
lookup_composed first second x few =
    ap (then second) (lookup_renumbering first x)
    ∙ by_test (get_or first x false) there (λ dead. rw dead)
    ∙ ap₂ (λ live n. cond live n NONE) (sym (live_both first second x)) (sym (rank_both first second x))
    ∙ sym (lookup_renumbering (both first second) x)
  where
    there : get_or first x false ≡ true
        → then second (cond (get_or first x false) (rank first x) NONE)
        ≡ cond (get_or first x false && get_or second (rank first x) false) (rank second (rank first x)) NONE
    there live =
        let below = rank_live first x live in
        rw (live, ne_eqb (rank first x) NONE (λ q. omega arith)) (lookup_renumbering second (rank first x))

-- composing the maps of two compactions is the map of both, where the numbers of the first are below NONE
pub composed_compactions : (first second : List Bool) → live_count first ≤ NONE
    → composed (renumbering first) (renumbering second) ≡ renumbering (both first second)
unfolding composed lookup
composed_compactions first second few =
    ext_get_or NONE (map (then second) (renumbering first)) (renumbering (both first second))
    (length-map (renumbering first) (then second) ∙ length_renumbering 0 first ∙ sym (length_renumbering 0 (both first second) ∙ length_both first second))
    (λ x h. get_or-map (then second) (renumbering first) x NONE ∙ lookup_composed first second x few)
