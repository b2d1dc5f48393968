-- What is told of a broken rule.
use Rattle.std.specs.Prelude.{ℕ, suc, ◌≡◌, refl}
use Rattle.plain.specs.declared.refusals.Rule.{Rule}
use Rattle.plain.specs.declared.refusals.Rule.TheVariants.{Sizes, Live, Ends, Index, Rings, Runs, Walks}
use Rattle.plain.specs.Refusals.{rule_number}

-- its number, which is not that of what is done
pub rule_is : (rule : Rule) → (n : ℕ) × (rule_number rule ≡ suc n)
rule_is Sizes = (0, refl)
rule_is Live = (1, refl)
rule_is Ends = (2, refl)
rule_is Index = (3, refl)
rule_is Rings = (4, refl)
rule_is Runs = (5, refl)
rule_is Walks = (6, refl)
