-- One direction of a book as the program lends it, with its maps.
use Rattle.plain.specs.declared.TraversalDirection.{TraversalDirection}
use Rattle.shape.specs.Stores.{words}
use Rattle.join_columns.specs.Sides.{Side, side_of}
use Rattle.join_columns.specs.declared.axis.Book.{Book}

abbrev pub side_in : TraversalDirection → Book → Side
side_in d b = side_of d (words b.store.now) b.node_map.now b.edge_map.now
