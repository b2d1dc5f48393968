-- The counts and lengths that joining is refused by.
use Rattle.std.specs.Prelude.{length}
use Rattle.plain.specs.declared.Counts.{Counts}
use Rattle.plain.specs.Joining.{MapRooms, Sizes}
use Rattle.survivors.specs.declared.maps.MapsMut.{MapsMut}

-- the sizes of a book by its counts
abbrev pub sizes_of : Counts → Sizes
sizes_of counts = record {
  node_bound = counts.nodes.bound;
  edge_bound = counts.edges.bound;
  nodes = counts.nodes.live;
  edges = counts.edges.live;
}

-- the lengths of the four slices lent for the maps
abbrev pub rooms_of : MapsMut → MapsMut → MapRooms
rooms_of first second = record {
  first_nodes = length first.nodes.now;
  first_edges = length first.edges.now;
  second_nodes = length second.nodes.now;
  second_edges = length second.edges.now;
}
