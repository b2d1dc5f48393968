-- What an iterator over the live slots has left.
use Rattle.std.specs.Prelude.{ℕ, List, drop}
use Rattle.plain.specs.Reads.{live_from}
use Rattle.liveness.specs.Flags.{live_flags}
use Rattle.liveness.specs.declared.live_slots.LiveSlots.{LiveSlots}

-- the live slots that are left
abbrev pub left : LiveSlots → List ℕ
left s = live_from s.from (drop s.from (live_flags s.words.now s.slots))
