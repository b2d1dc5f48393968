-- `adjacency::clear::clear_adjacency` meets its contract: the entries made dead are the node's walk made dead.
use Rattle.std.specs.Prelude.{true}
use Rattle.shape.specs.Shape.{adjacency_in}
use Rattle.adjacency.specs.Laws.Clear.{retired_walk}
use Rattle.adjacency.proofs.clear.clear_adjacency.Goals as goal

pub returns : goal.returns
returns c = let a = c.args in
    retired_walk true (adjacency_in a.axis.now a.layout.edge_capacity a.layout.node_capacity a.layout.counts a.node) (rw c.entries-entries.ensures at c.clear_left.ensures)
