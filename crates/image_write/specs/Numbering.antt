-- What is known of the numbering of live slots.
use Rattle.std.specs.Prelude.{ℕ, ◌≡◌, Bool, true, List}
use Rattle.plain.specs.Reads.{live_count}
use Rattle.liveness.specs.Flags.{live_flags}
use Rattle.liveness.specs.Ranks.{Ranked}

-- live slots and the counts before their words, and a flag that is set only where no slot is removed
pub record Numbered (live : List ℕ) (slots : ℕ) (ranks : List ℕ) (all : Bool) : Type 0 where
  pub ranked : Ranked live slots ranks
  pub whole : all ≡ true → live_count (live_flags live slots) ≡ slots
