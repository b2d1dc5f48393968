-- Lists that are flat: what a quick test of each entry of the compressed index and of each edge of the delta says, and what it marks.
use Rattle.std.specs.Prelude.{ℕ, zero, suc, ◌+◌, ◌*◌, ◌-◌, ◌≤◌, ◌<◌, ◌≡◌, Bool, true, cond, ◌⊎◌, List, [], ◌++◌, map, length, eqb}
use Rattle.plain.specs.declared.Counts.{Counts}
use Rattle.plain.specs.Numbers.{LIMIT}
use Rattle.plain.specs.Lists.{distinct, from, keep, count}
use Rattle.shape.specs.Columns.{Sized, end_at, adjacency_at, next_at, mark_at, offset_at}
use Rattle.shape.specs.Chains.{In}
use Rattle.shape.specs.Checked.{LiveRight, Index, Rings}
use Rattle.validate_words.specs.Sizes.{AxisSized}
use Rattle.marks.specs.Marks.{marked}
use Rattle.validate_words.specs.Climbs.{Linked}
use Rattle.validate_lists.specs.Runs.{taken, NodeOnce}

-- the end of an edge has no run, so that its base part is read
abbrev pub at_base : List ℕ → ℕ → ℕ → ℕ → Bool
at_base ws ce cn e = eqb (mark_at ws ce cn (end_at ws e)) 0

-- ---- base parts

-- What it takes to read an edge's end and the part of that.
pub record PlaceReadable (ws : List ℕ) (ce cn bn e : ℕ) : Type 0 where
  pub sized : Sized ws ce cn
  pub nodes_within : bn ≤ cn
  pub below : e < ce
  pub end_within : end_at ws e < cn

-- Place i of the compressed index is in the part of the end of edge e.
pub record EntryPlaced (ws : List ℕ) (ce cn bn i e : ℕ) : Type 0 where
  pub end_below : end_at ws e < bn
  pub least : offset_at ws ce cn (end_at ws e) ≤ i
  pub most : i < offset_at ws ce cn (suc (end_at ws e))

-- the places of the parts of the nodes below bn that have no run
unfoldable pub places : List ℕ → ℕ → ℕ → ℕ → List ℕ
places ws ce cn zero = []
places ws ce cn (suc x) = places ws ce cn x ++ cond (eqb (mark_at ws ce cn x) 0) (from (offset_at ws ce cn x) (offset_at ws ce cn (suc x) - offset_at ws ce cn x)) []

-- What it takes to count them.
pub record CountReadable (ws : List ℕ) (ce cn bn : ℕ) : Type 0 where
  pub sized : Sized ws ce cn
  pub nodes_within : bn ≤ cn
  pub ascends : (x : ℕ) → x < bn → offset_at ws ce cn x ≤ offset_at ws ce cn (x + 1)
  pub low : (x : ℕ) → x < bn → offset_at ws ce cn (x + 1) ≤ LIMIT

-- the entry at a place has an end with no run
abbrev pub place_shown : List ℕ → ℕ → ℕ → ℕ → Bool
place_shown ws ce cn i = at_base ws ce cn (adjacency_at ws ce i)

-- the entries whose end has no run
abbrev pub base_entries : List ℕ → ℕ → ℕ → ℕ → List ℕ
base_entries ws ce cn be = map (adjacency_at ws ce) (keep (place_shown ws ce cn) (from 0 be))

-- Every such entry is in the part of its end, none comes twice, and no other entry is in such a part: where no node has a run, or because they are as many.
pub record BaseFlat (ws : List ℕ) (ce cn : ℕ) (counts : Counts) : Type 0 where
  pub placed : (i : ℕ) → i < counts.edges.base → place_shown ws ce cn i ≡ true → EntryPlaced ws ce cn counts.nodes.base i (adjacency_at ws ce i)
  pub once : distinct (base_entries ws ce cn counts.edges.base) ≡ true
  pub full : ((i : ℕ) → i < counts.edges.base → place_shown ws ce cn i ≡ true) ⊎ (length (places ws ce cn counts.nodes.base) ≡ count (place_shown ws ce cn) (from 0 counts.edges.base))

-- ---- rings

-- the links of the edges of the delta whose end has no run
abbrev pub delta_links : List ℕ → ℕ → ℕ → Counts → List ℕ
delta_links ws ce cn counts = map (next_at ws ce) (keep (at_base ws ce cn) (from counts.edges.base (counts.edges.bound - counts.edges.base)))

-- Every such edge is linked, and none is linked to twice.
pub record DeltaFlat (ws : List ℕ) (ce cn : ℕ) (counts : Counts) : Type 0 where
  pub linked : (e : ℕ) → counts.edges.base ≤ e → e < counts.edges.bound → at_base ws ce cn e ≡ true → Linked ws ce counts.edges.base counts.edges.bound e
  pub once : distinct (delta_links ws ce cn counts) ≡ true

-- ---- all of it

-- The three passes find nothing wrong, and what is marked is what they have found.
pub record ListsOnce (ws : List ℕ) (ce cn : ℕ) (counts : Counts) (exit : List ℕ) : Type 0 where
  pub nodes : (x : ℕ) → x < counts.nodes.bound → NodeOnce ws ce cn counts.edges.base counts.edges.bound x
  pub base : BaseFlat ws ce cn counts
  pub delta : DeltaFlat ws ce cn counts
  pub marks : (e : ℕ) → marked exit e ≡ true
      → In e (taken ws ce cn counts.edges.base counts.edges.bound (end_at ws e)) ⊎ (In e (base_entries ws ce cn counts.edges.base) ⊎ In e (delta_links ws ce cn counts))

-- What rules 1 to 5 establish of one direction.
pub record ListsReadable (ws : List ℕ) (ce cn : ℕ) (counts : Counts) (live_nodes live_edges : List ℕ) : Type 0 where
  pub axis : AxisSized ws ce cn counts
  pub index : Index ws ce cn counts.nodes.base counts.edges.base
  pub rings : Rings ws ce counts.nodes.bound counts.edges.base counts.edges.bound
  pub ends_below : (e : ℕ) → e < counts.edges.bound → end_at ws e < counts.nodes.bound
  pub nodes_long : counts.nodes.bound ≤ 64 * length live_nodes
  pub edges_long : counts.edges.bound ≤ 64 * length live_edges
  pub live : LiveRight live_nodes counts.nodes

-- What a pass asks of it, where `runless` tells that no node has a run, with a mark map for all edges.
pub record FlatReadable (ws : List ℕ) (ce cn : ℕ) (counts : Counts) (runless : Bool) (seen : List ℕ) : Type 0 where
  pub axis : AxisSized ws ce cn counts
  pub index : Index ws ce cn counts.nodes.base counts.edges.base
  pub ends_below : (e : ℕ) → e < counts.edges.bound → end_at ws e < counts.nodes.bound
  pub no_run : runless ≡ true → (x : ℕ) → x < counts.nodes.bound → mark_at ws ce cn x ≡ 0
  pub marks_long : LIMIT ≤ 64 * length seen
