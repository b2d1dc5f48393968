-- What putting a new base into an axis, and compacting an axis, ask and promise.
use Rattle.std.specs.Prelude.{ℕ, ◌*◌, ◌+◌, ◌<◌, ◌≤◌, ◌≡◌, false, true, List, get_or, length}
use Rattle.plain.specs.Numbers.{NONE}
use Rattle.plain.specs.Reads.{live_count}
use Rattle.liveness.specs.Flags.{live_flags}
use Rattle.shape.specs.Columns.{Sized, end_at}
use Rattle.shape.specs.Index.{Rewritten, before, ends_of}
use Rattle.adjacency.specs.Index.{Compressible}
use Rattle.survivors.specs.Slots.{kept_word, translated_word}

-- The first m edges have their ends in place, each below n, and the entries are there.
pub record Rebuildable (ws : List ℕ) (ce cn n m : ℕ) (entries : List ℕ) : Type 0 where
  pub compressible : Compressible ws ce cn n m
  pub there : m ≤ length entries

-- Four ranges are rewritten, one after the other, and every other word is as it was.
pub record Rebuilt (ws : List ℕ) (ce cn n m : ℕ) (entries ws' : List ℕ) : Type 0 where
  pub counted : List ℕ
  pub copied : List ℕ
  pub emptied : List ℕ
  pub offsets : Rewritten ws counted (4 * ce + 5 * cn) (n + 1) (before (ends_of ws m))
  pub lists : Rewritten counted copied ce m (λ i. get_or entries i 0)
  pub rings : Rewritten copied emptied (4 * ce) n (λ _. NONE)
  pub marks : Rewritten emptied ws' (4 * ce + 4 * cn) n (λ _. 0)

-- ---- a direction compacted

-- The live edges, `m` of them, have their ends in the node map, which gives each a number below n; the entries are there.
pub record Compactable (ws : List ℕ) (ce cn : ℕ) (live : List ℕ) (bound : ℕ) (node_map : List ℕ) (n m : ℕ) (entries : List ℕ) : Type 0 where
  pub sized : Sized ws ce cn
  pub slots_there : bound ≤ 64 * length live
  pub slots_fit : bound ≤ ce
  pub nodes_fit : n ≤ cn
  pub counted : m ≡ live_count (live_flags live bound)
  pub ends_there : (e : ℕ) → get_or (live_flags live bound) e false ≡ true → end_at ws e < length node_map
  pub ends_below : (e : ℕ) → get_or (live_flags live bound) e false ≡ true → get_or node_map (end_at ws e) 0 < n
  pub there : m ≤ length entries

-- The ends are moved down, renumbered, and the base is rebuilt on them.
pub record AxisCompacted (ws : List ℕ) (ce cn : ℕ) (live : List ℕ) (bound : ℕ) (node_map : List ℕ) (n m : ℕ) (entries ws' : List ℕ) : Type 0 where
  pub moved : List ℕ
  pub renumbered : List ℕ
  pub moves : Rewritten ws moved 0 m (kept_word ws (live_flags live bound))
  pub renumbers : Rewritten moved renumbered 0 m (translated_word moved node_map)
  pub rebuilds : Rebuilt renumbered ce cn n m entries ws'
