-- Making every edge of a node's walk dead, in one direction: what the functions ask, and what they promise of the live words of the edges. The axis is read alone:
-- a removed edge stays an entry of its lists.
use Rattle.std.specs.Prelude.{ℕ, ◌+◌, ◌*◌, ◌/◌, ◌≤◌, ◌≡◌, true, false, ◌&&◌, not, ◌≢◌, List, length, get_or}
use Rattle.plain.specs.declared.Counts.{Counts}
use Rattle.plain.specs.Numbers.{LIMIT}
use Rattle.plain.specs.Lists.{member}
use Rattle.plain.specs.Reads.{live_count}
use Rattle.liveness.specs.Flags.{live_flags, packed}
use Rattle.adjacency.specs.Walk.{Readable}

-- Edges es are made dead in the live words of these slots; n of them were live. An edge may stand in es twice, or be dead already: it is counted once, or not.
pub record Retired (slots : ℕ) (es entry exit : List ℕ) (n : ℕ) : Type 0 where
  -- live afterwards is what was live and is not among them
  pub flags : (k : ℕ) → get_or (live_flags exit slots) k false ≡ (get_or (live_flags entry slots) k false && not (member k es))
  pub counted : live_count (live_flags entry slots) ≡ n + live_count (live_flags exit slots)
  pub packs : packed entry slots ≡ true → packed exit slots ≡ true
  -- words that hold no bit of one of them that was live are as they were
  pub others : (i : ℕ) → ((e : ℕ) → member e es ≡ true → get_or (live_flags entry slots) e false ≡ true → i ≢ e / 64) → get_or exit i 0 ≡ get_or entry i 0
  pub long : length exit ≡ length entry

-- What it takes to make entries dead.
pub record LeftClearable (live : List ℕ) (slots : ℕ) : Type 0 where
  pub live_long : slots ≤ 64 * length live
  pub few : slots ≤ LIMIT

-- What it takes to make the edges of a node's walk dead: the live count need not be right, since the walk of one direction is cleared before it is counted off.
pub record Clearable (ws : List ℕ) (ce cn : ℕ) (counts : Counts) (live_edges : List ℕ) (x : ℕ) : Type 0 where
  pub readable : Readable ws ce cn counts x
  pub live_long : counts.edges.bound ≤ 64 * length live_edges
