-- The columns of an axis. One direction of adjacency is one slice of words; for `ce` edges and `cn` nodes of capacity its columns stand at
--   ends 0, adjacency ce, next 2 ce, link 3 ce, last 4 ce, first 4 ce + cn, tail 4 ce + 2 cn, count 4 ce + 3 cn, mark 4 ce + 4 cn, offsets 4 ce + 5 cn,
-- the first four a word an edge, the others a word a node, the offsets one more. All hold edge numbers but ends (nodes), count, mark and offsets.
use Rattle.std.specs.Prelude.{ℕ, ◌+◌, ◌*◌, ◌≤◌, List, length, get_or}
use Rattle.plain.specs.Numbers.{LIMIT}

-- a column, as the function from an entry to its word
abbrev pub cell : List ℕ → ℕ → ℕ → ℕ
cell ws base x = get_or ws (base + x) 0

-- the end of an edge in this direction: its source, or its target
abbrev pub end_at : List ℕ → ℕ → ℕ
end_at ws e = get_or ws e 0

-- the compressed index's edge numbers
abbrev pub adjacency_at : List ℕ → ℕ → ℕ → ℕ
adjacency_at ws ce i = cell ws ce i

-- ring link of an edge
abbrev pub next_at : List ℕ → ℕ → ℕ → ℕ
next_at ws ce e = cell ws (2 * ce) e

-- run link of an edge
abbrev pub link_at : List ℕ → ℕ → ℕ → ℕ
link_at ws ce e = cell ws (3 * ce) e

-- a node's ring: its last edge, or NONE
abbrev pub last_at : List ℕ → ℕ → ℕ → ℕ
last_at ws ce x = cell ws (4 * ce) x

-- a node's run: its first edge, its last edge, its length, and a mark, 0 where it has none
abbrev pub first_at : List ℕ → ℕ → ℕ → ℕ → ℕ
first_at ws ce cn x = cell ws (4 * ce + cn) x

abbrev pub tail_at : List ℕ → ℕ → ℕ → ℕ → ℕ
tail_at ws ce cn x = cell ws (4 * ce + 2 * cn) x

abbrev pub count_at : List ℕ → ℕ → ℕ → ℕ → ℕ
count_at ws ce cn x = cell ws (4 * ce + 3 * cn) x

abbrev pub mark_at : List ℕ → ℕ → ℕ → ℕ → ℕ
mark_at ws ce cn x = cell ws (4 * ce + 4 * cn) x

-- the compressed index's offsets
abbrev pub offset_at : List ℕ → ℕ → ℕ → ℕ → ℕ
offset_at ws ce cn x = cell ws (4 * ce + 5 * cn) x

-- the capacities are within the limit, and the words are there: rule 1 for an axis
pub record Sized (ws : List ℕ) (ce cn : ℕ) : Type 0 where
  pub edges_within : ce ≤ LIMIT
  pub nodes_within : cn ≤ LIMIT
  pub room : 4 * ce + 6 * cn + 1 ≤ length ws
