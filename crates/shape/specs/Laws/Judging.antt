-- The definitions that the laws of proofs/Laws/Judging.antt speak of.
use Rattle.std.specs.Prelude.{ℕ, ◌≤◌, ◌<◌, ◌^◌, ◌≡◌, true, length, get_or}
use Rattle.plain.specs.declared.TraversalDirection.{TraversalDirection}
use Rattle.plain.specs.declared.Slots.{Slots}
use Rattle.plain.specs.Numbers.{LIMIT}
use Rattle.plain.specs.Memory.{live_words}
use Rattle.shape.specs.Columns.{Sized}
use Rattle.shape.specs.Shape.{Words, node_capacity, edge_capacity, axis_words}
use Rattle.shape.specs.Checked.{Bounded}
use Rattle.shape.specs.Rules.{rule_1, rule_2, rule_3, rule_4, rule_5, rule_6, rule_7}

-- the payload words are words of 32 bits, as a lent slice's are
pub record Payloads (w : Words) : Type 0 where
  pub nodes : (x : ℕ) → get_or w.nodes x 0 < 2 ^ 32
  pub highs : (e : ℕ) → get_or w.highs e 0 < 2 ^ 32

-- every rule before the last holds: reads stay inside the words, and walks end
pub record Structured (w : Words) : Type 0 where
  pub r1 : rule_1 w ≡ true
  pub r2 : rule_2 w ≡ true
  pub r3 : rule_3 w ≡ true
  pub r4 : rule_4 w ≡ true
  pub r5 : rule_5 w ≡ true
  pub r6 : rule_6 w ≡ true

-- every rule holds
pub record Passes (w : Words) : Type 0 where
  pub structured : Structured w
  pub r7 : rule_7 w ≡ true

-- what rule 1 says of it
pub record SlotsRight (capacity live-length : ℕ) (s : Slots) : Type 0 where
  pub within : capacity ≤ LIMIT
  pub bounded : Bounded capacity s
  pub long : live_words capacity ≤ live-length

-- what rule 1 says of a store
pub record SizesRight (w : Words) : Type 0 where
  pub nodes : SlotsRight (node_capacity w) (length w.live_nodes) w.counts.nodes
  pub edges : SlotsRight (edge_capacity w) (length w.live_edges) w.counts.edges
  pub highs_long : edge_capacity w ≤ length w.highs
  pub sized : (d : TraversalDirection) → Sized (axis_words d w) (edge_capacity w) (node_capacity w)
