-- What a writer of bits promises: `Wrote s p f t`, that bytes t have bits f from bit p on, and every other bit as bytes s have it.
use Rattle.std.specs.Prelude.{ℕ, ◌+◌, ◌*◌, ◌≤◌, ◌≡◌, List, ◌++◌, length, take, drop}
use Rattle.plain.specs.Bits.{bits}

pub record Wrote (s : List ℕ) (p : ℕ) (f t : List ℕ) : Type 0 where
  pub long : length t ≡ length s
  pub within : p + length f ≤ 8 * length s
  pub whole : bits t ≡ take p (bits s) ++ (f ++ drop (p + length f) (bits s))
