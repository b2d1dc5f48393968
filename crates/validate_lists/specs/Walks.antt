-- What checking walks asks, and rule 7 as a test of the words of one direction.
use Rattle.std.specs.Prelude.{ℕ, ◌*◌, ◌≤◌, ◌<◌, ◌≡◌, Bool, false, ◌&&◌, ◌||◌, not, List, length, get_or, eqb}
use Rattle.plain.specs.declared.Counts.{Counts}
use Rattle.plain.specs.Numbers.{LIMIT}
use Rattle.plain.specs.Lists.{member, distinct, all, from}
use Rattle.liveness.specs.Flags.{bit, live_flags}
use Rattle.shape.specs.Columns.{end_at}
use Rattle.shape.specs.Chains.{In}
use Rattle.adjacency.specs.Walk.{walk_in, Walkable}

-- Edges that have ends and marks.
pub record ListReadable (edges ends seen : List ℕ) : Type 0 where
  pub ends_there : (e : ℕ) → In e edges → e < length ends
  pub marks_there : (e : ℕ) → In e edges → e < 64 * length seen

-- A node that can be walked, and a mark map for all edges.
pub record WalkReadable (ws : List ℕ) (ce cn : ℕ) (counts : Counts) (live_edges : List ℕ) (x : ℕ) (seen : List ℕ) : Type 0 where
  pub walkable : Walkable ws ce cn counts live_edges x
  pub marks_long : LIMIT ≤ 64 * length seen

-- What the rules before establish of one direction: every node can be walked, and the ends are nodes.
pub record WalksReadable (ws : List ℕ) (ce cn : ℕ) (counts : Counts) (live_nodes live_edges : List ℕ) : Type 0 where
  pub edges_few : counts.edges.bound ≤ LIMIT
  pub nodes_long : counts.nodes.bound ≤ 64 * length live_nodes
  pub edges_long : counts.edges.bound ≤ 64 * length live_edges
  pub walkable : (x : ℕ) → x < counts.nodes.bound → Walkable ws ce cn counts live_edges x
  pub ends_below : (e : ℕ) → e < counts.edges.bound → end_at ws e < counts.nodes.bound

-- The bits of one word are bits of another.
pub record Within (a b : ℕ) : Type 0 where
  pub bits : (k : ℕ) → bit a k ≡ 1 → bit b k ≡ 1

-- a slot that is live is marked
unfoldable pub marked_if_live : List Bool → List Bool → ℕ → Bool
marked_if_live flags marks e = not (get_or flags e false) || get_or marks e false

module _ (ws : List ℕ) (ce cn : ℕ) (counts : Counts) (live_nodes live_edges : List ℕ) where
  -- the walk of a node
  unfoldable pub node_walk : ℕ → List ℕ
  node_walk x = walk_in ws ce cn counts live_edges x (get_or (live_flags live_nodes counts.nodes.bound) x false)

  -- it lists no edge twice, and only edges that end at the node
  unfoldable pub walk_test : ℕ → Bool
  walk_test x = distinct (node_walk x) && all (λ e. eqb (end_at ws e) x) (node_walk x)

  -- a live edge is listed at its end, which is live
  unfoldable pub listed_test : ℕ → Bool
  listed_test e =
      not (get_or (live_flags live_edges counts.edges.bound) e false)
      || (member e (node_walk (end_at ws e)) && get_or (live_flags live_nodes counts.nodes.bound) (end_at ws e) false)

  unfoldable pub walks_test : Bool
  walks_test = all walk_test (from 0 counts.nodes.bound) && all listed_test (from 0 counts.edges.bound)
