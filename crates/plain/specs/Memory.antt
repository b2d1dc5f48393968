-- The lengths of lent slices: what a store's memory needs, and which slice is the first too short.
use Rattle.std.specs.Prelude.{ℕ, ◌+◌, ◌*◌, ◌/◌, cond, List, [], ◌∷◌, leb}
use Rattle.plain.specs.Library.{Option, none, some}
use Rattle.plain.specs.Step.{Capacities}

-- a lent slice: the length that it needs and the one that it has
pub record Slice : Type 0 where
  pub needs : ℕ
  pub has : ℕ

-- "Where several slices are too short and no order is given, 2 names the first in the entry's parameter order, which docs/ lists with the length that each slice
-- needs": that length.
unfoldable pub first_short : List Slice → Option ℕ
first_short [] = none
first_short (s ∷ slices) = cond (leb s.needs s.has) (first_short slices) (some s.needs)

-- "They fix the length needed of every other slice": liveness words of n slots, 64 each
abbrev pub live_words : ℕ → ℕ
live_words n = (n + 63) / 64

-- the words of an axis: four columns an edge, five a node, and the offsets
abbrev pub axis_length : Capacities → ℕ
axis_length caps = 4 * caps.edges + 6 * caps.nodes + 1

-- The lengths of a store's slices. "The capacities are the lengths of the two payload slices"; of an edge's payload "in two slices; the low one's length is the
-- capacity".
pub record Lengths : Type 0 where
  pub capacities : Capacities
  pub highs : ℕ
  pub live_nodes : ℕ
  pub live_edges : ℕ
  pub outgoing : ℕ
  pub incoming : ℕ

-- every slice but the nodes' payloads and the edges' lows, in parameter order
abbrev pub other_slices : Lengths → List Slice
other_slices l =
    record { needs = l.capacities.edges; has = l.highs }
    ∷ record { needs = live_words l.capacities.nodes; has = l.live_nodes }
    ∷ record { needs = live_words l.capacities.edges; has = l.live_edges }
    ∷ record { needs = axis_length l.capacities; has = l.outgoing } ∷ record { needs = axis_length l.capacities; has = l.incoming } ∷ []

-- a store's memory with no word to spare
abbrev pub exact : Capacities → Lengths
exact caps = record {
  capacities = caps;
  highs = caps.edges;
  live_nodes = live_words caps.nodes;
  live_edges = live_words caps.edges;
  outgoing = axis_length caps;
  incoming = axis_length caps;
}
