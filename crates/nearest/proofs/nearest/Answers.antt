-- `nearest::nearest` meets its contract: searched where nothing is refused.
use Rattle.std.specs.Prelude.{refl}
use Rattle.nearest.proofs.Entry.{nearest_searched}
use Rattle.nearest.proofs.nearest.Goals as goal

pub returns : goal.returns
returns c = nearest_searched c.in_ok-check_ask.ensures refl c.nearest_chain.ensures
