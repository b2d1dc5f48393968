-- The definitions that the laws of proofs/Laws/Compactness.antt speak of.
use Rattle.std.specs.Prelude.{◌≤◌, length}
use Rattle.shape.specs.Shape.{Shape}

-- the base is within the bounds
pub record Based (s : Shape) : Type 0 where
  pub nodes_within : s.base_nodes ≤ length s.nodes
  pub edges_within : s.base_edges ≤ length s.edges
