-- What listing the live slots of one kind asks.
use Rattle.std.specs.Prelude.{ℕ, ◌*◌, ◌≤◌, ◌≡◌, List, length}
use Rattle.plain.specs.declared.Slots.{Slots}
use Rattle.plain.specs.Numbers.{LIMIT}
use Rattle.plain.specs.Reads.{live_count}
use Rattle.liveness.specs.Flags.{live_flags}

-- What it takes to write the live slots to a slice: the words of all slots, and room.
pub record LiveFits (words : List ℕ) (bound : ℕ) (slots : List ℕ) : Type 0 where
  pub long : bound ≤ 64 * length words
  pub few : bound ≤ LIMIT
  pub fits : live_count (live_flags words bound) ≤ length slots

-- What it takes to answer with them: the words of all slots, and as many live ones as the counts say.
pub record LiveTold (words : List ℕ) (s : Slots) : Type 0 where
  pub long : s.bound ≤ 64 * length words
  pub few : s.bound ≤ LIMIT
  pub right : s.live ≡ live_count (live_flags words s.bound)
