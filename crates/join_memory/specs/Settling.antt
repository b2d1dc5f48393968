-- What joining two checked books asks and promises: the four maps, and the third memory with the survivors of both.
use Rattle.std.specs.Prelude.{ℕ, ◌+◌, ◌≤◌, ◌≡◌, List, ◌++◌, length}
use Rattle.plain.specs.declared.Counts.{Counts}
use Rattle.plain.specs.Based.{based}
use Rattle.plain.specs.Devices.{Takes, box}
use Rattle.plain.specs.Lists.{written}
use Rattle.plain.specs.declared.TraversalDirection.TheVariants.{Incoming, Outgoing}
use Rattle.liveness.specs.Calls.{Reset}
use Rattle.memory.specs.Laws.{Roomy}
use Rattle.shape.specs.Checked.{Checked}
use Rattle.shape.specs.Kept.{SameLengths}
use Rattle.shape.specs.Shape.{Words, edge_capacity, edge_live, lengths_of, node_capacity, node_live, store}
use Rattle.shape.specs.declared.StoreMut.{StoreMut}
use Rattle.survivors.specs.Maps.{MapsWritten}
use Rattle.survivors.specs.Slots.{live_words_of}
use Rattle.survivors.specs.declared.maps.MapsMut.{MapsMut}
use Rattle.join_columns.specs.Sides.{AxisJoined, side_of}

-- the counts of memory that is no store yet, and those beside a refusal
abbrev pub no_counts : Counts
no_counts = record { nodes = based 0; edges = based 0 }

-- memory that is no store yet
abbrev pub cleared : StoreMut → Words
cleared s = store no_counts s.nodes.now s.lows.now s.highs.now s.live_nodes.now s.live_edges.now s.outgoing.now s.incoming.now

-- The slices lent for the maps: nodes and edges of the first book, then of the second.
pub record LentMaps : Type 0 where
  pub first_nodes : List ℕ
  pub first_edges : List ℕ
  pub second_nodes : List ℕ
  pub second_edges : List ℕ

abbrev pub lent_maps : List ℕ → List ℕ → List ℕ → List ℕ → LentMaps
lent_maps first_nodes first_edges second_nodes second_edges =
    record { first_nodes = first_nodes; first_edges = first_edges; second_nodes = second_nodes; second_edges = second_edges }

abbrev pub maps_of : MapsMut → MapsMut → LentMaps
maps_of first second = lent_maps first.nodes.now first.edges.now second.nodes.now second.edges.now

-- Two checked books, memory as a store's has to be, the survivors of both within its capacities, and maps "as long as the bounds before".
pub record Settleable (first second w : Words) (maps : LentMaps) : Type 0 where
  pub first_checked : Checked first
  pub second_checked : Checked second
  pub takes : Takes box (lengths_of w).capacities
  pub roomy : Roomy (lengths_of w)
  pub nodes_fit : first.counts.nodes.live + second.counts.nodes.live ≤ node_capacity w
  pub edges_fit : first.counts.edges.live + second.counts.edges.live ≤ edge_capacity w
  pub first_nodes : first.counts.nodes.bound ≤ length maps.first_nodes
  pub first_edges : first.counts.edges.bound ≤ length maps.first_edges
  pub second_nodes : second.counts.nodes.bound ≤ length maps.second_nodes
  pub second_edges : second.counts.edges.bound ≤ length maps.second_edges

pub record Settled (first second w : Words) (maps : LentMaps) (v : Words) (maps' : LentMaps) : Type 0 where
  pub lengths : SameLengths w v
  pub counts : v.counts
      ≡ record { nodes = based (first.counts.nodes.live + second.counts.nodes.live); edges = based (first.counts.edges.live + second.counts.edges.live) }
  pub first_maps : MapsWritten first.counts first.live_nodes first.live_edges 0 0 maps.first_nodes maps.first_edges maps'.first_nodes maps'.first_edges
  pub second_maps : MapsWritten second.counts second.live_nodes second.live_edges first.counts.nodes.live first.counts.edges.live
      maps.second_nodes maps.second_edges maps'.second_nodes maps'.second_edges
  pub outgoing : AxisJoined w.outgoing (edge_capacity w) (node_capacity w) (side_of Outgoing first maps'.first_nodes maps'.first_edges)
      (side_of Outgoing second maps'.second_nodes maps'.second_edges) v.outgoing
  pub incoming : AxisJoined w.incoming (edge_capacity w) (node_capacity w) (side_of Incoming first maps'.first_nodes maps'.first_edges)
      (side_of Incoming second maps'.second_nodes maps'.second_edges) v.incoming
  pub nodes : v.nodes ≡ written (live_words_of first.nodes (node_live first) ++ live_words_of second.nodes (node_live second)) w.nodes
  pub lows : v.lows ≡ written (live_words_of first.lows (edge_live first) ++ live_words_of second.lows (edge_live second)) w.lows
  pub highs : v.highs ≡ written (live_words_of first.highs (edge_live first) ++ live_words_of second.highs (edge_live second)) w.highs
  pub live_nodes : Reset w.live_nodes (first.counts.nodes.live + second.counts.nodes.live) v.live_nodes
  pub live_edges : Reset w.live_edges (first.counts.edges.live + second.counts.edges.live) v.live_edges
