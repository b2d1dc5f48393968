-- The definitions that the laws of proofs/Laws/Ascending.antt speak of.
use Rattle.std.specs.Prelude.{ℕ, Bool, true, ◌&&◌, List, [], ◌∷◌, leb}

-- whether numbers do not descend, and start no lower than x
unfoldable pub ascending : ℕ → List ℕ → Bool
ascending x [] = true
ascending x (y ∷ ys) = leb x y && ascending y ys
