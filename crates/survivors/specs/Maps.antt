-- What writing both maps of a store asks and promises.
use Rattle.std.specs.Prelude.{ℕ, ◌≡◌, List}
use Rattle.plain.specs.declared.Counts.{Counts}
use Rattle.plain.specs.Compaction.{renumbering_from}
use Rattle.plain.specs.Lists.{written}
use Rattle.liveness.specs.Flags.{live_flags}
use Rattle.survivors.specs.Slots.{MapFits}
use Rattle.survivors.specs.declared.maps.MapsMut.{MapsMut}

pub record MapsFit (counts : Counts) (live_nodes live_edges : List ℕ) (first-node first_edge : ℕ) (node_map edge_map : List ℕ) : Type 0 where
  pub nodes : MapFits live_nodes counts.nodes.bound first-node node_map
  pub edges : MapFits live_edges counts.edges.bound first_edge edge_map

pub record MapsWritten (counts : Counts) (live_nodes live_edges : List ℕ) (first-node first_edge : ℕ) (node_map edge_map node-map' edge-map' : List ℕ) : Type 0 where
  pub nodes : node-map' ≡ written (renumbering_from first-node (live_flags live_nodes counts.nodes.bound)) node_map
  pub edges : edge-map' ≡ written (renumbering_from first_edge (live_flags live_edges counts.edges.bound)) edge_map

-- the slices are those that were lent
pub record SameMaps (a b : MapsMut) : Type 0 where
  pub nodes : b.nodes.ghost_name ≡ a.nodes.ghost_name
  pub edges : b.edges.ghost_name ≡ a.edges.ghost_name
