-- The definitions that the laws of proofs/Laws/Below.antt speak of.
use Rattle.std.specs.Prelude.{ℕ, ◌<◌, List, [], ◌∷◌}

pub data Below (b : ℕ) : List ℕ → Type 0 where
  none : Below b []
  more : {x : ℕ} {xs : List ℕ} → x < b → Below b xs → Below b (x ∷ xs)
