-- The input's words: most significant byte first.
use Rattle.std.specs.Prelude.{ℕ, ◌+◌, ◌*◌, ◌≡◌, List, get_or}
use Rattle.plain.specs.Lists.{written}
use Rattle.plain.specs.Lotstrip.{words_of}

-- The words of the input were written to the start of a slice.
pub record WordsRead (bytes entry exit : List ℕ) : Type 0 where
  pub words : exit ≡ written (words_of bytes) entry

-- "words most significant byte first": the word whose first byte is at `at`
abbrev pub word_at : List ℕ → ℕ → ℕ
word_at bytes at = ((get_or bytes at 0 * 256 + get_or bytes (at + 1) 0) * 256 + get_or bytes (at + 2) 0) * 256 + get_or bytes (at + 3) 0
