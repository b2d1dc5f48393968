-- What a store is that passes the check, `Checked`.
-- Which words of a checked store are fields, and that no other changes what is read of it or the check, is said in Fields and Laws.Fields.
use Rattle.std.specs.Prelude.{ℕ, suc, ◌*◌, ◌≤◌, ◌<◌, ◌≡◌, Bool, true, false, ◌⊎◌, List, length, get_or}
use Rattle.plain.specs.declared.TraversalDirection.{TraversalDirection}
use Rattle.plain.specs.declared.Slots.{Slots}
use Rattle.plain.specs.declared.Counts.{Counts}
use Rattle.plain.specs.Reads.{live_count}
use Rattle.plain.specs.Memory.{live_words}
use Rattle.plain.specs.WellFormed.{WellFormed}
use Rattle.liveness.specs.Flags.{live_flags, packed}
use Rattle.shape.specs.Columns.{Sized, cell, end_at, adjacency_at, last_at, first_at, tail_at, count_at, mark_at, offset_at}
use Rattle.shape.specs.Chains.{In, Run, Ring}
use Rattle.shape.specs.Shape.{Words, capacities, node_live, edge_live, axis_words, run_list, ring_of, shape_of, plain_of, node_capacity, edge_capacity}

-- rule 1 for one kind of slot, of capacity c
pub record Bounded (c : ℕ) (s : Slots) : Type 0 where
  pub bound_within : s.bound ≤ c
  pub base_within : s.base ≤ s.bound

-- rule 2 for one kind of slot: "live bits agree with both counts and the last word's unused bits are 0"
pub record LiveRight (words : List ℕ) (s : Slots) : Type 0 where
  pub unused_clear : packed words s.bound ≡ true
  pub live_right : s.live ≡ live_count (live_flags words s.bound)

-- one kind of slot, of capacity c and with these live words: rules 1 and 2
pub record SlotsChecked (c : ℕ) (words : List ℕ) (s : Slots) : Type 0 where
  pub bounded : Bounded c s
  pub live_long : live_words c ≤ length words
  pub live : LiveRight words s

-- rule 4: the compressed index, of bn nodes and be edges; "no index word being read where both base counts are 0"
pub record Indexed (ws : List ℕ) (ce cn bn be : ℕ) : Type 0 where
  pub starts : offset_at ws ce cn 0 ≡ 0
  pub ascends : (x : ℕ) → x < bn → offset_at ws ce cn x ≤ offset_at ws ce cn (suc x)
  pub stops : offset_at ws ce cn bn ≡ be
  pub entries : (i : ℕ) → i < be → adjacency_at ws ce i < be

abbrev pub Index : List ℕ → ℕ → ℕ → ℕ → ℕ → Type 0
Index ws ce cn bn be = ((bn ≡ 0) × (be ≡ 0)) ⊎ Indexed ws ce cn bn be

-- rule 5: every node slot below nb, removed or not, has a ring of its own edges among be up to eb
pub record Rings (ws : List ℕ) (ce nb be eb : ℕ) : Type 0 where
  pub ring : (x : ℕ) → x < nb → Ring (cell ws (2 * ce)) be eb (last_at ws ce x) (ring_of ws ce be eb x)
  pub own : (x e : ℕ) → x < nb → In e (ring_of ws ce be eb x) → end_at ws e ≡ x

-- rule 6: "run entries below the edge bound, none twice in one direction, lengths true", of every node slot with a mark, removed or not
pub record Runs (ws : List ℕ) (ce cn nb eb : ℕ) : Type 0 where
  pub run : (x : ℕ) → x < nb → (mark_at ws ce cn x ≡ 0 → ⊥)
      → Run (cell ws (3 * ce)) eb (first_at ws ce cn x) (tail_at ws ce cn x) (count_at ws ce cn x) (run_list ws ce cn x)
  pub apart : (x y e : ℕ) → x < nb → y < nb → In e (run_list ws ce cn x) → In e (run_list ws ce cn y) → x ≡ y

-- one direction: rules 3 to 6
pub record AxisChecked (ws : List ℕ) (ce cn : ℕ) (counts : Counts) (nodes edges : List Bool) : Type 0 where
  pub sized : Sized ws ce cn
  -- "ends below the node bound"
  pub ends_below : (e : ℕ) → e < counts.edges.bound → end_at ws e < counts.nodes.bound
  pub index : Index ws ce cn counts.nodes.base counts.edges.base
  pub rings : Rings ws ce counts.nodes.bound counts.edges.base counts.edges.bound
  pub runs : Runs ws ce cn counts.nodes.bound counts.edges.bound
  -- "no live edge in a removed node's run"
  pub removed_runs : (x e : ℕ) → x < counts.nodes.bound → get_or nodes x false ≡ false → In e (run_list ws ce cn x) → get_or edges e false ≡ false

-- A store that passes the check.
pub record Checked (w : Words) : Type 0 where
  pub nodes : SlotsChecked (node_capacity w) w.live_nodes w.counts.nodes
  pub edges : SlotsChecked (edge_capacity w) w.live_edges w.counts.edges
  -- rule 1: "every other slice long enough"
  pub highs_long : edge_capacity w ≤ length w.highs
  pub axis : (d : TraversalDirection) → AxisChecked (axis_words d w) (edge_capacity w) (node_capacity w) w.counts (node_live w) (edge_live w)
  -- rule 7: "each live edge exactly once in its source's out-walk and once in its target's in-walk, both ends live, and no walk listing anything else". With it, of rule 3, that no edge
  -- slot, "removed or not", holds "a low above its high": `edge_payloads`.
  pub walks : WellFormed (capacities w) (plain_of (shape_of w))
