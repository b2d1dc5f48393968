-- The definitions that the laws of proofs/Laws/Slots.antt speak of.
use Rattle.std.specs.Prelude.{ℕ, ◌≡◌, Bool, List, length}

-- The flags of the plain lists are those of the words, as many as the bound says.
pub record Told (flags live : List Bool) (bound : ℕ) : Type 0 where
  pub same : flags ≡ live
  pub long : length live ≡ bound
