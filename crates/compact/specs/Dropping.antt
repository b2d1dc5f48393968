-- What dropping the dead slots asks and promises.
use Rattle.std.specs.Prelude.{ℕ, ◌*◌, ◌≤◌, ◌≡◌, false, true, List, drop, get_or, length}
use Rattle.plain.specs.Based.{based}
use Rattle.plain.specs.Compaction.{rank}
use Rattle.plain.specs.Reads.{live_count}
use Rattle.liveness.specs.Calls.{Reset}
use Rattle.shape.specs.Checked.{Checked}
use Rattle.shape.specs.Index.{Rewritten}
use Rattle.shape.specs.Kept.{SameLengths}
use Rattle.shape.specs.Shape.{Words, edge_capacity, edge_live, node_capacity, node_live}
use Rattle.compact.specs.Bases.{AxisCompacted}
use Rattle.survivors.specs.Slots.{WeightsKept, kept_word}

-- A checked store, the number of every live node in the node map, and room for both directions' lists.
pub record Droppable (w : Words) (node_map work : List ℕ) : Type 0 where
  pub checked : Checked w
  pub mapped : (x : ℕ) → get_or (node_live w) x false ≡ true → get_or node_map x 0 ≡ rank (node_live w) x
  pub nodes_there : w.counts.nodes.bound ≤ length node_map
  pub there : 2 * w.counts.edges.live ≤ length work

pub record Dropped (w : Words) (node_map work : List ℕ) (v : Words) : Type 0 where
  pub lengths : SameLengths w v
  pub counts : v.counts ≡ record { nodes = based w.counts.nodes.live; edges = based w.counts.edges.live }
  pub nodes : Rewritten w.nodes v.nodes 0 (live_count (node_live w)) (kept_word w.nodes (node_live w))
  pub weights : WeightsKept w.lows w.highs (edge_live w) v.lows v.highs
  pub live_nodes : Reset w.live_nodes w.counts.nodes.live v.live_nodes
  pub live_edges : Reset w.live_edges w.counts.edges.live v.live_edges
  pub outgoing : AxisCompacted w.outgoing (edge_capacity w) (node_capacity w) w.live_edges w.counts.edges.bound node_map w.counts.nodes.live
      w.counts.edges.live work v.outgoing
  pub incoming : AxisCompacted w.incoming (edge_capacity w) (node_capacity w) w.live_edges w.counts.edges.bound node_map w.counts.nodes.live
      w.counts.edges.live (drop w.counts.edges.live work) v.incoming
