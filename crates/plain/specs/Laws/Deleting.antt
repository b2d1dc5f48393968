-- The definitions that the laws of proofs/Laws/Deleting.antt speak of.
use Rattle.std.specs.Prelude.{ℕ, List, [], ◌∷◌}
use Rattle.plain.specs.Lists.{without}

-- a list without several entries, one deleted after the other, is what is left of it
unfoldable pub without_all : List ℕ → List ℕ → List ℕ
without_all [] l = l
without_all (y ∷ ys) l = without_all ys (without y l)
