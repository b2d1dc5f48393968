-- Ranks in constant time: the live slots before each word of 64 are counted once, and a rank then counts the low bits of one word.
use Rattle.std.specs.Prelude.{ℕ, ◌*◌, ◌≤◌, ◌<◌, ◌≡◌, List, length, get_or}
use Rattle.plain.specs.Numbers.{LIMIT}
use Rattle.plain.specs.Memory.{live_words}
use Rattle.plain.specs.Reads.{live_count}
use Rattle.liveness.specs.Flags.{live_flags}

-- What it takes to write the counts: the words of all slots, and room for a count a word.
pub record RanksFit (words : List ℕ) (slots : ℕ) (ranks : List ℕ) : Type 0 where
  pub long : slots ≤ 64 * length words
  pub few : slots ≤ LIMIT
  pub fits : live_words slots ≤ length ranks

-- The first i counts are there.
pub record RankedTo (words : List ℕ) (slots : ℕ) (ranks : List ℕ) (i : ℕ) : Type 0 where
  pub long : slots ≤ 64 * length words
  pub few : slots ≤ LIMIT
  pub fits : live_words slots ≤ length ranks
  pub holds : (j : ℕ) → j < i → get_or ranks j 0 ≡ live_count (live_flags words (64 * j))

-- All are.
abbrev pub Ranked : List ℕ → ℕ → List ℕ → Type 0
Ranked words slots ranks = RankedTo words slots ranks (live_words slots)
