-- Walks of a whole store: where it is checked each node can be walked, and the walk is the node's list of the plain lists. So a public read answers with what
-- the functions over an axis give.
use Rattle.std.specs.Prelude.{ℕ, ◌<◌, ◌≡◌, false, map, get_or}
use Rattle.plain.specs.Library.{◌∙◌, arith}
use Rattle.plain.specs.declared.TraversalDirection.{TraversalDirection}
use Rattle.plain.specs.Plain.{list_of, end_of, opposite}
use Rattle.plain.proofs.Laws.ListLaws.{map_same}
use Rattle.shape.specs.Columns.{end_at}
use Rattle.shape.specs.Shape.{Words, node_capacity, edge_capacity, node_live, axis_words, shape_of, plain_of}
use Rattle.shape.specs.Checked.{Checked}
use Rattle.shape.specs.Steps.{walk_in as walk_of_shape}
use Rattle.shape.proofs.Laws.Refining.{list_is_walk as walked}
use Rattle.shape.proofs.Laws.Reading.{edge_flags_are, node_flags_are, shape_adjacency, plain_end}
use Rattle.adjacency.specs.Walk.{walk_in, Readable, Walkable}
use Rattle.adjacency.specs.Laws.Walk.{walk_below}

module _ {w : Words} (k : Checked w) (d : TraversalDirection) (x : ℕ) (node : x < w.counts.nodes.bound) where
  -- a node of a checked store can be read, in either direction
  pub checked_readable : Readable (axis_words d w) (edge_capacity w) (node_capacity w) w.counts x
  checked_readable =
      let axis = k.axis d in
      record { sized = axis.sized; nodes = k.nodes.bounded; edges = k.edges.bounded; index = axis.index; rings = axis.rings; runs = axis.runs; node = node }

  -- and walked
  pub checked_walkable : Walkable (axis_words d w) (edge_capacity w) (node_capacity w) w.counts w.live_edges x
  checked_walkable =
      let long = k.edges.live_long in
      let bounded = k.edges.bounded in
      record { readable = checked_readable; live_long = omega arith; live_right = k.edges.live }

module _ (w : Words) (d : TraversalDirection) (x : ℕ) (node : x < w.counts.nodes.bound) where
  -- the walk of a node of the shape is read from the words
  pub shape_walk : walk_of_shape d (shape_of w) x
      ≡ walk_in (axis_words d w) (edge_capacity w) (node_capacity w) w.counts w.live_edges x (get_or (node_live w) x false)
  shape_walk = rw (edge_flags_are w, node_flags_are w, shape_adjacency w d x node)

  -- the list of a node is its walk
  pub list_is_walk : list_of d (plain_of (shape_of w)) x
      ≡ walk_in (axis_words d w) (edge_capacity w) (node_capacity w) w.counts w.live_edges x (get_or (node_live w) x false)
  list_is_walk = walked (shape_of w) d x ∙ shape_walk

-- the far ends of a node's list are the far ends of its walk
pub far_ends : {w : Words} (k : Checked w) (d : TraversalDirection) (x : ℕ) → x < w.counts.nodes.bound
    → map (end_of (opposite d) (plain_of (shape_of w))) (list_of d (plain_of (shape_of w)) x)
    ≡ map (end_at (axis_words (opposite d) w))
    (walk_in (axis_words d w) (edge_capacity w) (node_capacity w) w.counts w.live_edges x (get_or (node_live w) x false))
far_ends {w} k d x node =
    let live = get_or (node_live w) x false in
    let walk = walk_in (axis_words d w) (edge_capacity w) (node_capacity w) w.counts w.live_edges x live in
    rw (list_is_walk w d x node)
    (map_same (end_of (opposite d) (plain_of (shape_of w))) (end_at (axis_words (opposite d) w)) walk
    (λ e m. plain_end w (opposite d) e (walk_below (checked_walkable k d x node) live e m)))
