-- What the calls of a closure over a range have answered: an item that is there, and one that two things hold of.
use Rattle.std.proofs.Common.{rules}
use Rattle.std.specs.Option.{IfSome, IsSomeAnd, option_map}
use Rattle.std.specs.Prelude.{ℕ, ◌≡◌, Option, Some, None}
use Rattle.plain.specs.Library.{subst}

-- what holds of the item at a place holds of the one that is there
pub at_item : (P : ℕ → Type 0) (o : Option ℕ) (x : ℕ) → option_map (λ y. y) o ≡ Some x → IfSome o P → P x
at_item P None x q i = absurd (search (rules, q))
at_item P (Some y) x q i = let same : y ≡ x = search in subst P same i

-- and so does what follows from it
pub if_some : {P : ℕ → Type 0} (Q : ℕ → Type 0) (o : Option ℕ) → IfSome o P → ((y : ℕ) → P y → Q y) → IfSome o Q
if_some Q None i f = tt
if_some Q (Some y) i f = f y i

-- an item that two things hold of
pub meets : {P Q : ℕ → Type 0} {R : Type 0} (o : Option ℕ) → IsSomeAnd o P → IfSome o Q → ((y : ℕ) → P y → Q y → R) → R
meets None p q f = elim p [ ]
meets (Some y) p q f = f y p q
