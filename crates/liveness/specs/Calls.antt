-- What the functions that write liveness words promise: of the words at entry and at exit, a record a function.
use Rattle.std.specs.Prelude.{ℕ, ◌+◌, ◌-◌, ◌/◌, ◌%◌, ◌^◌, ◌≡◌, Bool, true, false, cond, List, [], ◌∷◌, ◌++◌, get_or, set, replicate, eqb}
use Rattle.plain.specs.Lists.{written}
use Rattle.liveness.specs.Flags.{live_flags, packed}

-- A slot is appended and live.
pub record Pushed (entry : List ℕ) (slots : ℕ) (exit : List ℕ) : Type 0 where
  -- whatever stood in the slot's bit
  pub flags : live_flags exit (slots + 1) ≡ live_flags entry slots ++ (true ∷ [])
  -- no other word changes
  pub others : exit ≡ set entry (slots / 64) (get_or exit (slots / 64) 0)
  pub packs : packed entry slots ≡ true → packed exit (slots + 1) ≡ true

-- A slot is made dead; the answer is whether it was live.
pub record Cleared (entry : List ℕ) (slots slot : ℕ) (answer : Bool) (exit : List ℕ) : Type 0 where
  pub answers : answer ≡ get_or (live_flags entry slots) slot false
  pub flags : live_flags exit slots ≡ set (live_flags entry slots) slot false
  -- no other word changes
  pub others : exit ≡ set entry (slot / 64) (get_or exit (slot / 64) 0)
  -- no word changes where nothing live was there
  pub keeps : answer ≡ false → exit ≡ entry
  pub packs : packed entry slots ≡ true → packed exit slots ≡ true

-- words whose first slots are live and whose other bits are 0
unfoldable pub all_live : ℕ → List ℕ
all_live slots = replicate (slots / 64) (2 ^ 64 - 1) ++ cond (eqb (slots % 64) 0) [] ((2 ^ (slots % 64) - 1) ∷ [])

-- All slots are made live.
pub record Reset (entry : List ℕ) (slots : ℕ) (exit : List ℕ) : Type 0 where
  pub flags : live_flags exit slots ≡ replicate slots true
  pub packs : packed exit slots ≡ true
  -- the words needed, and those past them as they were
  pub words : exit ≡ written (all_live slots) entry
