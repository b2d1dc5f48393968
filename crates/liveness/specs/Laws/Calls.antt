-- What callers conclude from the promise of making all live: the words made so are words of 64 bits.
use Rattle.std.specs.Prelude.{ℕ, ◌+◌, ◌-◌, ◌*◌, ◌/◌, ◌%◌, ◌^◌, ◌≤◌, ◌<◌, ◌≡◌, cond, List, [], ◌∷◌, ◌++◌, length, get_or, drop, replicate, eqb}
use Rattle.plain.specs.Library.{ap, ◌∙◌, append_assoc, length-replicate, get_or-append, pow_pos, lt_of_lt_of_le, arith}
use Rattle.std.proofs.Math.Decide.{dec_le}
use Rattle.std.proofs.Common.{pow_mono}
use Rattle.std.proofs.lemmas.List.{get_or-replicate}
use Rattle.liveness.specs.Calls.{Reset, all_live}
use Rattle.liveness.specs.Laws.Flags.{packed_below}

-- those that hold a bit of a slot have 64 bits
pub reset_narrow : {entry exit : List ℕ} {slots : ℕ} → Reset entry slots exit → (i : ℕ) → 64 * i < slots → get_or exit i 0 < 2 ^ 64
unfolding all_live
reset_narrow {entry} {exit} {slots} p i h = at (dec_le (64 * i + 64) slots)
  where
    at : Dec (64 * i + 64 ≤ slots) → get_or exit i 0 < 2 ^ 64
    at (yes full) =
        let low : i < slots / 64 = omega arith in
        let rest = cond (eqb (slots % 64) 0) [] ((2 ^ (slots % 64) - 1) ∷ []) in
        let front = replicate (slots / 64) (2 ^ 64 - 1) in
        let is : get_or exit i 0 ≡ 2 ^ 64 - 1
        = ap (λ (l : List ℕ). get_or l i 0) (p.words ∙ append_assoc front rest (drop (length (all_live slots)) entry))
        ∙ get_or-append front (rest ++ drop (length (all_live slots)) entry) 0 i (rw length-replicate low)
        ∙ get_or-replicate (slots / 64) i (2 ^ 64 - 1) 0 low in
        rw is (omega (arith, pow_pos 64))
    at (no part) =
        let last : slots / 64 ≡ i = omega arith in
        let some_left : slots % 64 ≡ 0 → ⊥ = λ q. omega arith in
        lt_of_lt_of_le (rw last at (packed_below exit slots some_left p.packs)) (pow_mono {j = 64} (omega arith))
