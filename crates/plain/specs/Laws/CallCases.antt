-- The definitions that the laws of proofs/Laws/CallCases.antt speak of.
use Rattle.std.specs.Prelude.{ℕ, ◌≤◌, ◌<◌, List, [], ◌∷◌}
use Rattle.plain.specs.Memory.{Slice}

-- every slice is long enough
pub data LongEnough : List Slice → Type 0 where
  no_slice : LongEnough []
  slice_fits : {s : Slice} {slices : List Slice} → s.needs ≤ s.has → LongEnough slices → LongEnough (s ∷ slices)

-- the first slice that is too short needs n
pub data FirstShort : List Slice → ℕ → Type 0 where
  short_here : {s : Slice} {slices : List Slice} → s.has < s.needs → FirstShort (s ∷ slices) s.needs
  short_later : {s : Slice} {slices : List Slice} {n : ℕ} → s.needs ≤ s.has → FirstShort slices n → FirstShort (s ∷ slices) n
