-- What the check knows of a store on its way, and rules 6 and 7 for one direction.
use Rattle.std.specs.Prelude.{◌≡◌, Bool, true}
use Rattle.plain.specs.declared.TraversalDirection.{TraversalDirection}
use Rattle.shape.specs.Shape.{Words, node_capacity, edge_capacity, node_live, edge_live, axis_words, shape_of, plain_of}
use Rattle.shape.specs.Rules.{runs_right, walks_right, rule_1, rule_2, rule_3, rule_4, rule_5}

-- Rules 1 to 5 hold.
pub record Threaded (w : Words) : Type 0 where
  pub r1 : rule_1 w ≡ true
  pub r2 : rule_2 w ≡ true
  pub r3 : rule_3 w ≡ true
  pub r4 : rule_4 w ≡ true
  pub r5 : rule_5 w ≡ true

-- the runs of one direction
abbrev pub runs_of : Words → TraversalDirection → Bool
runs_of w d = runs_right (edge_capacity w) (node_capacity w) w.counts (node_live w) (edge_live w) (axis_words d w)

-- its walks
abbrev pub walks_of : Words → TraversalDirection → Bool
walks_of w d = walks_right (plain_of (shape_of w)) d
