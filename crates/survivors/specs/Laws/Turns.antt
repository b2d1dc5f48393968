-- The definitions that the laws of proofs/Laws/Turns.antt speak of.
use Rattle.std.specs.Prelude.{ℕ, ◌+◌, ◌≤◌, ◌≡◌, Bool, List, ◌++◌, length}
use Rattle.plain.specs.Compaction.{rank}
use Rattle.plain.specs.Reads.{live_slots}
use Rattle.liveness.specs.Flags.{live_flags}
use Rattle.shape.specs.Index.{Rewritten}
use Rattle.survivors.specs.Slots.{kept_word}

-- The slots before `slot` are passed; their live ones are counted from `first` on, and `number` is the next.
pub record Passed (live : List ℕ) (bound first slot number : ℕ) : Type 0 where
  pub within : slot ≤ bound
  pub ranked : number ≡ first + rank (live_flags live bound) slot
  pub few : number ≤ first + slot

-- Of the live slots those of `past`, n of them, have their words in place, and those of `left` have not.
pub record Moving (words : List ℕ) (flags : List Bool) (past left entry : List ℕ) (n : ℕ) (now : List ℕ) : Type 0 where
  pub whole : live_slots flags ≡ past ++ left
  pub counted : n ≡ length past
  pub moved : Rewritten entry now 0 n (kept_word words flags)
