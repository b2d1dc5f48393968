-- What checking runs asks, which edges may be in them, and what a strict check of them says: one that follows the rings of their nodes too.
use Rattle.std.specs.Prelude.{ℕ, ◌*◌, ◌≤◌, ◌<◌, ◌≡◌, Bool, true, false, cond, ◌&&◌, ◌||◌, not, List, [], ◌++◌, length, get_or, eqb, ltb}
use Rattle.plain.specs.declared.Counts.{Counts}
use Rattle.plain.specs.Numbers.{LIMIT}
use Rattle.plain.specs.Lists.{distinct}
use Rattle.shape.specs.Columns.{Sized, end_at, mark_at}
use Rattle.shape.specs.Chains.{In}
use Rattle.shape.specs.Shape.{run_list, ring_of}
use Rattle.shape.specs.Rules.{last_of, run_right}
use Rattle.validate_words.specs.Sizes.{AxisSized}
use Rattle.marks.specs.Marks.{marked}

-- an entry below the bound that is not live where the node is removed
unfoldable pub entry_test : ℕ → Bool → List Bool → ℕ → Bool
entry_test eb live flags e = ltb e eb && (live || not (get_or flags e false))

-- and, where that is asked for, one that ends at the node
abbrev pub run_test : List ℕ → Bool → ℕ → ℕ → Bool → List Bool → ℕ → Bool
run_test ws strict x eb live flags e = (not strict || eqb (end_at ws e) x) && entry_test eb live flags e

-- the last entry is the tail
abbrev pub ends_in : List ℕ → ℕ → Bool
ends_in l tail = eqb (last_of l tail) tail

-- The ends and live bits of the edges below the bound eb, and marks for them.
pub record PassReadable (ws words : List ℕ) (eb : ℕ) (seen : List ℕ) : Type 0 where
  pub ends_there : eb ≤ length ws
  pub live_long : eb ≤ 64 * length words
  pub marks_long : eb ≤ 64 * length seen

-- The run links of an axis, the live bits of the edges below the bound eb, and a mark map for all edges.
pub record ChainReadable (ws : List ℕ) (ce : ℕ) (words : List ℕ) (eb : ℕ) (seen : List ℕ) : Type 0 where
  pub few : ce ≤ LIMIT
  pub room : 4 * ce ≤ length ws
  pub edges_within : eb ≤ ce
  pub live_long : eb ≤ 64 * length words
  pub marks_long : LIMIT ≤ 64 * length seen

-- And the words of the run of node x.
pub record RunReadable (ws : List ℕ) (ce cn : ℕ) (words : List ℕ) (eb x : ℕ) (seen : List ℕ) : Type 0 where
  pub chains : ChainReadable ws ce words eb seen
  pub sized : Sized ws ce cn
  pub node_below : x < cn

-- The words of an axis and the live bits of both kinds of slot.
pub record RunsReadable (ws : List ℕ) (ce cn : ℕ) (counts : Counts) (live_nodes live_edges : List ℕ) : Type 0 where
  pub axis : AxisSized ws ce cn counts
  pub nodes_long : counts.nodes.bound ≤ 64 * length live_nodes
  pub edges_long : counts.edges.bound ≤ 64 * length live_edges

-- A clear mark map for all edges.
pub record MapClear (seen : List ℕ) : Type 0 where
  pub marks_long : LIMIT ≤ 64 * length seen
  pub clear : (e : ℕ) → marked seen e ≡ false

-- ---- nodes with a run

-- what such a node lists: its run, and behind that its ring
abbrev pub taken : List ℕ → ℕ → ℕ → ℕ → ℕ → ℕ → List ℕ
taken ws ce cn be eb x = cond (eqb (mark_at ws ce cn x) 0) [] (run_list ws ce cn x ++ ring_of ws ce be eb x)

-- A node's run is right; every entry of it and of the ring behind it ends at the node, and none comes twice.
pub record NodeOnce (ws : List ℕ) (ce cn be eb x : ℕ) : Type 0 where
  pub right : run_right ce cn eb ws x ≡ true
  pub own : (e : ℕ) → In e (taken ws ce cn be eb x) → end_at ws e ≡ x
  pub once : distinct (taken ws ce cn be eb x) ≡ true

-- All nodes are so, and only their entries are marked.
pub record RunsOnce (ws : List ℕ) (ce cn : ℕ) (counts : Counts) (exit : List ℕ) : Type 0 where
  pub nodes : (x : ℕ) → x < counts.nodes.bound → NodeOnce ws ce cn counts.edges.base counts.edges.bound x
  pub marks : (e : ℕ) → marked exit e ≡ true → In e (taken ws ce cn counts.edges.base counts.edges.bound (end_at ws e))
