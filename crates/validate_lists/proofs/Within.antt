-- Words whose bits are bits of other words.
use Rattle.std.specs.Prelude.{ℕ, zero, suc, ◌/◌, ◌≡◌}
use Rattle.plain.specs.Library.{sym, ◌∙◌, arith}
use lib.Bits.{bit_and, and_step}
use Rattle.liveness.specs.Flags.{bit}
use Rattle.liveness.specs.Laws.Bits.{bit_zero, bit_suc}
use Rattle.validate_lists.specs.Walks.{Within}

-- a word whose bits in common with another are all it has
and_within : (k a b : ℕ) → bit_and a b ≡ a → bit a k ≡ 1 → bit b k ≡ 1
and_within zero a b h q = bit_zero b ∙ omega (arith, and_step a b, bit_zero a)
and_within (suc k) a b h q =
    let half : bit_and (a / 2) (b / 2) ≡ a / 2 = omega (arith, and_step a b) in
    bit_suc b k ∙ and_within k (a / 2) (b / 2) half (sym (bit_suc a k) ∙ q)

pub within_and : (a b : ℕ) → bit_and a b ≡ a → Within a b
within_and a b h = record { bits = λ k q. and_within k a b h q }
