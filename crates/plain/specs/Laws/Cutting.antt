-- The definitions that the laws of proofs/Laws/Cutting.antt speak of.
use Rattle.std.specs.Prelude.{ℕ, List, map, length}

-- the length of each list
abbrev pub lengths : List (List ℕ) → List ℕ
lengths lists = map (λ (l : List ℕ). length l) lists
