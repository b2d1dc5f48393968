-- `adjacency::rings::detach` meets its contract: its store is that of `detached`.
use Rattle.adjacency.proofs.Emptying.{detached}
use Rattle.adjacency.proofs.rings.detach.Goals as goal

pub returns : goal.returns
returns c = detached c.requires
