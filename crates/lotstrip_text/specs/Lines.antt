-- The line of an operation, and how long any line is.
use Rattle.std.specs.Prelude.{ℕ, List, [], ◌∷◌, ◌++◌}
use Rattle.plain.specs.Lotstrip.{decimal, space, newline}

-- a number and what stands behind it
abbrev pub numbered : ℕ → ℕ → List ℕ
numbered n after = decimal n ++ (after ∷ [])

-- "a line per operation with position from 0, number and value in decimal"
unfoldable pub line : ℕ → ℕ → ℕ → List ℕ
line position number value = numbered position space ++ (numbered number space ++ numbered value newline)

-- the bytes of any line: three numbers of twenty digits, each with a byte behind it
abbrev pub line_room : ℕ
line_room = 63
