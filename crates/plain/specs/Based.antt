-- The counts that compaction, joining and image reading leave.
use Rattle.std.specs.Prelude.{ℕ}
use Rattle.plain.specs.declared.Slots.{Slots}

-- the counts of slots that are all live and all in the base
abbrev pub based : ℕ → Slots
based n = record { bound = n; base = n; live = n }
