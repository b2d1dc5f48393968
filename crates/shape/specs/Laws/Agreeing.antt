-- The definitions that the laws of proofs/Laws/Agreeing.antt speak of.
use Rattle.std.specs.Prelude.{ℕ, ◌*◌, ◌^◌, ◌<◌, get_or}
use Rattle.shape.specs.Shape.{Words}

-- The live words that hold a bit of a slot are words of 64 bits, as all of a slice of `u64` are.
pub record Narrow (w : Words) : Type 0 where
  pub nodes : (i : ℕ) → 64 * i < w.counts.nodes.bound → get_or w.live_nodes i 0 < 2 ^ 64
  pub edges : (i : ℕ) → 64 * i < w.counts.edges.bound → get_or w.live_edges i 0 < 2 ^ 64
