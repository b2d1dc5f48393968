-- What a book lends: its store, of which the slices that tell the capacities are cut.
use Rattle.std.specs.Prelude.{length, min, take}
use Rattle.shape.specs.Shape.{Words, store}
use Rattle.replay.specs.declared.book.Book.{Book}

abbrev pub book_words : Book → Words
book_words b = store b.counts (take (min b.node_capacity (length b.nodes)) b.nodes) (take (min b.edge_capacity (length b.lows)) b.lows) b.highs b.live_nodes b.live_edges b.outgoing b.incoming
