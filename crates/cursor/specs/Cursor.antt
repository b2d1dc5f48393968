-- The cursor of a walk over one node's adjacency: what it has still to read, one step of it, and which entries are listed. The columns are
-- slices of their own: `entries` is the run links where the walk is linked, else the compressed index's edge numbers; `next` is the ring links.
use Rattle.std.specs.Prelude.{ℕ, ◌+◌, ◌-◌, ◌*◌, ◌≤◌, ◌<◌, ◌≡◌, Bool, true, false, cond, ◌⊎◌, List, [], ◌++◌, length, get_or, eqb, ltb, Option, None, Some}
use Rattle.plain.specs.Numbers.{NONE, LIMIT}
use Rattle.plain.specs.Lists.{keep, written}
use Rattle.liveness.specs.Flags.{live_flags}
use Rattle.shape.specs.Chains.{chain, until, In}
use Rattle.shape.specs.Shape.{between, live_in}
use Rattle.cursor.specs.declared.AdjacencyCursor.{AdjacencyCursor}
use Rattle.cursor.specs.declared.listed.Listed.{Listed}

-- a column that is handed out as a slice of its own
abbrev pub word : List ℕ → ℕ → ℕ
word column x = get_or column x 0

-- ---- what a cursor has still to read

-- of the run or the base part: linked, `end` entries from the entry `at` on; not linked, the entries at the places from `at` up to `end`
abbrev pub part_left : Bool → List ℕ → ℕ → ℕ → List ℕ
part_left true entries at end = chain (word entries) end at
part_left false entries at end = between (word entries) at end

-- how many they are
abbrev pub part_count : Bool → ℕ → ℕ → ℕ
part_count true at end = end
part_count false at end = end - at

-- of the ring: the entries from `at` on up to `last`; NONE is where nothing is left
abbrev pub ring_left : List ℕ → ℕ → ℕ → List ℕ
ring_left next at last = cond (eqb at NONE) [] (until (word next) last (length next) at)

-- both, one after the other, dead entries included
unfoldable pub remaining : Bool → List ℕ → List ℕ → AdjacencyCursor → List ℕ
remaining linked entries next c = part_left linked entries c.base c.base_end ++ ring_left next c.delta c.delta_last

-- `EXHAUSTED` "with NONE ring ends": nothing is left in either part
abbrev pub exhausted : AdjacencyCursor
exhausted = record { base = 0; base_end = 0; delta = NONE; delta_last = NONE }

-- ---- a step

-- the cursor with the base part or run moved on
abbrev pub base_at : AdjacencyCursor → ℕ → ℕ → AdjacencyCursor
base_at c at end = record { base = at; base_end = end; delta = c.delta; delta_last = c.delta_last }

-- the cursor with the ring moved on
abbrev pub delta_at : AdjacencyCursor → ℕ → AdjacencyCursor
delta_at c at = record { base = c.base; base_end = c.base_end; delta = at; delta_last = c.delta_last }

-- the next entry of the ring, and the cursor behind it
abbrev pub ring_step : List ℕ → AdjacencyCursor → Option ℕ × AdjacencyCursor
ring_step next c =
    cond (eqb c.delta NONE) (None, c) (Some c.delta, delta_at c (cond (eqb c.delta c.delta_last) NONE (word next c.delta)))

-- the next entry of the run or the base part, else of the ring
unfoldable pub step_of : Bool → List ℕ → List ℕ → AdjacencyCursor → Option ℕ × AdjacencyCursor
step_of true entries next c =
    cond (eqb c.base_end 0) (ring_step next c) (Some c.base, base_at c (word entries c.base) (c.base_end - 1))
step_of false entries next c =
    cond (ltb c.base c.base_end) (Some (word entries c.base), base_at c (c.base + 1) c.base_end) (ring_step next c)

-- what the columns hold of the run or the base part
abbrev pub PartWithin : Bool → List ℕ → List ℕ → ℕ → ℕ → Type 0
PartWithin true entries next at end = length next ≤ length entries
PartWithin false entries next at end = (at ≤ end) × (end ≤ length entries)

-- what the ring's last entry is to the rest of the ring: it is on the way
abbrev pub Closed : List ℕ → ℕ → ℕ → Type 0
Closed next at last = (at ≡ NONE) ⊎ In last (until (word next) last (length next) at)

-- A walk can be read to its end: its entries are edges of the columns, and its ring comes to its last entry.
pub record Ready (linked : Bool) (entries next : List ℕ) (c : AdjacencyCursor) : Type 0 where
  pub few : length next ≤ LIMIT
  pub short : c.base_end ≤ NONE
  pub part : PartWithin linked entries next c.base c.base_end
  pub closed : Closed next c.delta c.delta_last
  pub below : (e : ℕ) → In e (remaining linked entries next c) → e < length next

-- ---- the next listed entry

-- whether an edge is listed: a store with no removed edge is not asked for live bits, which spares each entry a look, as in the Rust
abbrev pub listed : Bool → List Bool → ℕ → Bool
listed tombstoned flags e = cond tombstoned (live_in flags e) true

abbrev pub listed_by : Listed → ℕ → Bool
listed_by l = listed l.tombstoned (live_flags l.live.now l.slots)

-- the listed entries that a cursor has still to read
abbrev pub listed_left : Bool → List ℕ → List ℕ → Bool → List ℕ → ℕ → AdjacencyCursor → List ℕ
listed_left linked entries next tombstoned live slots c = keep (listed tombstoned (live_flags live slots)) (remaining linked entries next c)

-- What it takes to read the listed entries of a walk.
pub record Seekable (linked : Bool) (entries next live : List ℕ) (slots : ℕ) (c : AdjacencyCursor) : Type 0 where
  pub ready : Ready linked entries next c
  pub live_long : slots ≤ 64 * length live

-- each edge of a list has a word in a column
abbrev pub Within : List ℕ → List ℕ → Type 0
Within column edges = (e : ℕ) → In e edges → e < length column

-- A list written to the start of a slice, and its length.
pub record ListWritten (list entry : List ℕ) (size : ℕ) (exit : List ℕ) : Type 0 where
  pub counted : size ≡ length list
  pub wrote : exit ≡ written list entry
