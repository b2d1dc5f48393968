-- The room that a field needs in bytes.
use Rattle.std.specs.Prelude.{ℕ, ◌+◌, ◌*◌, ◌^◌, ◌≤◌, ◌<◌, List, length}

-- a field of width bits at bit position is within the bytes; its end is a number of 64 bits, which lent bytes alone do not give
pub record Room (bytes : List ℕ) (position width : ℕ) : Type 0 where
  pub narrow : width ≤ 32
  pub within : position + width ≤ 8 * length bytes
  pub counted : position + width < 2 ^ 64
