-- Totals over a walk: of what two columns have at each listed entry, the sum of the one and the sum of the other.
use Rattle.std.specs.Prelude.{ℕ, ◌≤◌, List, map, length}
use Rattle.plain.specs.declared.Sums.{Sums}
use Rattle.plain.specs.Numbers.{LIMIT}
use Rattle.plain.specs.Lists.{sum}
use Rattle.cursor.specs.Cursor.{word, Within}

-- the sums of the words of two columns at some edges
abbrev pub sums_of : List ℕ → List ℕ → List ℕ → Sums
sums_of lows highs edges = record { low = sum (map (word lows) edges); high = sum (map (word highs) edges) }

-- What it takes to sum over edges: both columns hold a word for each, and they are so few that no sum of 32-bit words wraps.
pub record Summable (lows highs edges : List ℕ) : Type 0 where
  pub few : length edges ≤ LIMIT
  pub in_lows : Within lows edges
  pub in_highs : Within highs edges
