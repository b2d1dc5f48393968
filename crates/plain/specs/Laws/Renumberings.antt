-- The definitions that the laws of proofs/Laws/Renumberings.antt speak of.
use Rattle.std.specs.Prelude.{Bool, true, false, List, [], ◌∷◌}

-- The slots that survive both: those live in the first flags whose new number is live in the second.
unfoldable pub both : List Bool → List Bool → List Bool
both [] second = []
both (false ∷ first) second = false ∷ both first second
both (true ∷ first) [] = false ∷ both first []
both (true ∷ first) (flag ∷ second) = flag ∷ both first second
