-- `adjacency::rings::open_node` meets its contract: its stores are those of `opened`.
use Rattle.adjacency.proofs.Emptying.{opened}
use Rattle.adjacency.proofs.rings.open_node.Goals as goal

pub returns : goal.returns
returns c = opened c.requires
