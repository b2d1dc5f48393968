-- What a writer promises: `Put s p f t`, that list t has f from place p on and is s elsewhere.
use Rattle.std.specs.Prelude.{ℕ, ◌+◌, ◌≤◌, ◌≡◌, List, length}
use Rattle.std.proofs.lemmas.List.Edits.{sets}

pub record Put (s : List ℕ) (p : ℕ) (f t : List ℕ) : Type 0 where
  pub within : p + length f ≤ length s
  pub whole : t ≡ sets s p f
