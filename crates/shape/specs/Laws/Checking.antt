-- The definitions that the laws of proofs/Laws/Checking.antt speak of.
use Rattle.std.specs.Prelude.{ℕ, ◌<◌, ◌≡◌, true, false, length, get_or}
use Rattle.plain.specs.declared.TraversalDirection.{TraversalDirection}
use Rattle.plain.specs.Plain.{Plain, incidence, node_bound, edge_flags, list_of, end_of}
use Rattle.shape.specs.Chains.{In}

-- what the plain lists of a shape have by themselves
pub record Framed (p : Plain) (d : TraversalDirection) : Type 0 where
  pub ends_length : length (incidence d p).ends ≡ length (edge_flags p)
  pub lists_length : length (incidence d p).lists ≡ node_bound p
  pub ends_below : (e : ℕ) → e < length (edge_flags p) → end_of d p e < node_bound p
  pub entries_live : (x e : ℕ) → In e (list_of d p x) → get_or (edge_flags p) e false ≡ true
