-- What copying the words of live slots asks and promises.
use Rattle.std.specs.Prelude.{ℕ, ◌*◌, ◌+◌, ◌≤◌, ◌≡◌, List, length}
use Rattle.plain.specs.declared.Slots.{Slots}
use Rattle.plain.specs.Reads.{live_count}
use Rattle.liveness.specs.Flags.{live_flags}
use Rattle.survivors.specs.Slots.{live_words_of}
use Rattle.join_columns.specs.declared.slots.Column.{Column}

-- ---- one book

-- The slots have their words and their liveness words.
pub record LiveReadable (words live : List ℕ) (bound : ℕ) : Type 0 where
  pub there : bound ≤ 64 * length live
  pub room : bound ≤ length words

-- And there is room for the live ones.
pub record Copyable (words live : List ℕ) (bound : ℕ) (out : List ℕ) : Type 0 where
  pub readable : LiveReadable words live bound
  pub fits : live_count (live_flags live bound) ≤ length out

-- the words of a column's live slots
abbrev pub live_words_in : Column → List ℕ
live_words_in c = live_words_of c.words.now (live_flags c.live.now c.slots.bound)

-- ---- both books

-- The slots of both books can be read, and there is room for the live ones.
pub record BothCopyable (out : List ℕ) (first : Slots) (words live : List ℕ) (second : Slots) (words' live' : List ℕ) : Type 0 where
  pub first_readable : LiveReadable words live first.bound
  pub second_readable : LiveReadable words' live' second.bound
  pub counted : first.live ≡ live_count (live_flags live first.bound)
  pub room : first.live + live_count (live_flags live' second.bound) ≤ length out
