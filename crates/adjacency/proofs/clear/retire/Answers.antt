-- `adjacency::clear::retire` meets its contract: it is one edge made dead.
use Rattle.adjacency.proofs.Clearing.{retired_one}
use Rattle.adjacency.proofs.clear.retire.Goals as goal

pub returns : goal.returns
returns c = retired_one c.clear.ensures
