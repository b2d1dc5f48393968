-- The definitions that the laws of proofs/Laws/AllLive.antt speak of.
use Rattle.std.specs.Prelude.{◌≡◌, true, replicate}
use Rattle.plain.specs.Plain.{Plain, node_bound, edge_bound, node_flags, edge_flags}

pub record AllLive (p : Plain) : Type 0 where
  pub nodes : node_flags p ≡ replicate (node_bound p) true
  pub edges : edge_flags p ≡ replicate (edge_bound p) true
