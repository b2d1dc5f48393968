-- The definitions that the laws of proofs/Laws/Packing.antt speak of.
use Rattle.std.specs.Prelude.{ℕ, ◌≡◌, List, length, take, drop}
use Rattle.plain.specs.Bits.{bits}

-- bits f stand at bit p of bytes
pub record Stands (bytes : List ℕ) (p : ℕ) (f : List ℕ) : Type 0 where
  pub there : take (length f) (drop p (bits bytes)) ≡ f
