-- A wrong program that the record of a compaction rules out: one that writes its maps, answers 0 and leaves the store alone. "Where nothing was removed the lists
-- pass", and it is ruled out there too, as soon as one edge was added since the last compaction.
use Rattle.std.specs.Prelude.{ℕ, ◌<◌, refl, List}
use Rattle.plain.specs.Library.{arith}
use Rattle.shape.specs.Shape.{Words}
use Rattle.compact.specs.Calls.{CompactOf}

module _ {w : Words} {node_map edge_map work node-map' edge-map' work' : List ℕ} {value : ℕ} where
  -- an edge was removed
  pub compaction_leaves_no_dead_slot : CompactOf w node_map edge_map work 0 value w node-map' edge-map' work' → w.counts.edges.live < w.counts.edges.bound → ⊥
  compaction_leaves_no_dead_slot does dead = let all = (does.canonical refl).edges.live in omega arith

  -- nothing was removed, but an edge is not in the base
  pub compaction_leaves_no_edge_out_of_the_base : CompactOf w node_map edge_map work 0 value w node-map' edge-map' work'
      → w.counts.edges.base < w.counts.edges.bound → ⊥
  compaction_leaves_no_edge_out_of_the_base does added = let all = (does.canonical refl).edges.based in omega arith
