-- Reading an image into a store's memory: which bytes and lengths are accepted, and what is then written.
use Rattle.std.specs.Prelude.{ℕ, ◌+◌, ◌≤◌, ◌≡◌, List}
use Rattle.plain.specs.Numbers.{LIMIT}
use Rattle.plain.specs.Bits.{least_width}
use Rattle.plain.specs.Image.{node_payload_width, weight_width, record_width, nodes_in, edges_in, nodes_start, edges_start, outs_start, ins_start, broken_image}
use Rattle.plain.specs.Memory.{Lengths}
use Rattle.plain.specs.Devices.{box, Takes}
use Rattle.memory.specs.Laws.{Roomy}
use Rattle.liveness.specs.Calls.{Reset}
use Rattle.shape.specs.Shape.{Words, node_capacity, edge_capacity}
use Rattle.shape.specs.Kept.{SameLengths}
use Rattle.shape.specs.Index.{Rewritten}
use Rattle.plain.specs.Based.{based}
use Rattle.image_check.specs.Spread.{spread, SpreadFits}
use Rattle.image_read.specs.Directions.{AxisReadable, AxisRead}

-- ---- what is asked

-- None of the refusals of a reading holds, on whatever device: 13, 12, 2.
pub record Accepted (l : Lengths) (bytes : List ℕ) : Type 0 where
  pub few : Takes box l.capacities
  pub roomy : Roomy l
  pub image : broken_image bytes ≡ 0
  pub nodes_room : nodes_in bytes ≤ l.capacities.nodes
  pub edges_room : edges_in bytes ≤ l.capacities.edges

-- ---- what is read

-- the payloads of n nodes, and the weights of m edges out of their records
abbrev pub node_payload : List ℕ → ℕ → ℕ
node_payload bytes = spread bytes nodes_start node_payload_width node_payload_width

-- where the first low stands
abbrev pub lows_start : ℕ → ℕ
lows_start n = edges_start n + (least_width n + least_width n)

abbrev pub edge_low : List ℕ → ℕ → ℕ → ℕ
edge_low bytes n = spread bytes (lows_start n) (record_width (least_width n)) weight_width

abbrev pub edge_high : List ℕ → ℕ → ℕ → ℕ
edge_high bytes n = spread bytes (lows_start n + weight_width) (record_width (least_width n)) weight_width

pub record WeightsReadable (lows highs bytes : List ℕ) (n m : ℕ) : Type 0 where
  pub few : n ≤ LIMIT
  pub lows_there : SpreadFits bytes (lows_start n) (record_width (least_width n)) weight_width lows 0 m
  pub highs_there : SpreadFits bytes (lows_start n + weight_width) (record_width (least_width n)) weight_width highs 0 m

pub record WeightsRead (lows highs bytes : List ℕ) (n m : ℕ) (lows' highs' : List ℕ) : Type 0 where
  pub lows_read : Rewritten lows lows' 0 m (edge_low bytes n)
  pub highs_read : Rewritten highs highs' 0 m (edge_high bytes n)

pub record PayloadsReadable (nodes lows highs bytes : List ℕ) (n m : ℕ) : Type 0 where
  pub nodes_there : SpreadFits bytes nodes_start node_payload_width node_payload_width nodes 0 n
  pub weights_there : WeightsReadable lows highs bytes n m

pub record PayloadsRead (nodes lows highs bytes : List ℕ) (n m : ℕ) (nodes' lows' highs' : List ℕ) : Type 0 where
  pub nodes_read : Rewritten nodes nodes' 0 n (node_payload bytes)
  pub weights_read : WeightsRead lows highs bytes n m lows' highs'

-- both directions: the sources and the out-lists, the targets and the in-lists
pub record AxesReadable (outgoing incoming : List ℕ) (ce cn : ℕ) (bytes : List ℕ) (n m : ℕ) : Type 0 where
  pub sources : AxisReadable outgoing ce cn n m bytes (edges_start n) (outs_start n m)
  pub targets : AxisReadable incoming ce cn n m bytes (edges_start n + least_width n) (ins_start n m)

pub record AxesRead (outgoing incoming : List ℕ) (ce cn : ℕ) (bytes : List ℕ) (n m : ℕ) (outgoing' incoming' : List ℕ) : Type 0 where
  pub sources : AxisRead outgoing ce cn n m bytes (edges_start n) (outs_start n m) outgoing'
  pub targets : AxisRead incoming ce cn n m bytes (edges_start n + least_width n) (ins_start n m) incoming'

-- What the bytes hold is in place.
pub record ImagePlaced (w : Words) (bytes : List ℕ) (v : Words) : Type 0 where
  pub lengths : SameLengths w v
  pub counts : v.counts ≡ record { nodes = based (nodes_in bytes); edges = based (edges_in bytes) }
  pub payloads : PayloadsRead w.nodes w.lows w.highs bytes (nodes_in bytes) (edges_in bytes) v.nodes v.lows v.highs
  pub axes : AxesRead w.outgoing w.incoming (edge_capacity w) (node_capacity w) bytes (nodes_in bytes) (edges_in bytes) v.outgoing v.incoming
  pub live_nodes : Reset w.live_nodes (nodes_in bytes) v.live_nodes
  pub live_edges : Reset w.live_edges (edges_in bytes) v.live_edges
