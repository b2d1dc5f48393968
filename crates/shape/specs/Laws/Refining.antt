-- The definitions that the laws of proofs/Laws/Refining.antt speak of.
use Rattle.std.specs.Prelude.{ℕ, ◌<◌, length}
use Rattle.plain.specs.declared.TraversalDirection.{TraversalDirection}
use Rattle.plain.specs.Step.{Capacities}
use Rattle.plain.specs.WellFormed.{WellFormed}
use Rattle.shape.specs.Chains.{In}
use Rattle.shape.specs.Shape.{Shape, raw, adjacency_of, plain_of}

-- A shape whose plain lists are well formed and whose entries are edges of the store.
pub record Proper (caps : Capacities) (s : Shape) : Type 0 where
  pub walks : WellFormed caps (plain_of s)
  pub entries_below : (d : TraversalDirection) (x e : ℕ) → In e (raw (adjacency_of d s x)) → e < length s.edges
