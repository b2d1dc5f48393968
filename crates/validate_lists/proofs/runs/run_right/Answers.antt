-- `validate_lists::runs::run_right` meets its contract: the run is a chain.
use Rattle.validate_lists.proofs.Running.{run_chain}
use Rattle.validate_lists.proofs.runs.run_right.Goals as goal

pub returns : goal.returns
returns g c = rw (run_chain _ _ _ _ c.requires.1) at c.chain_right.ensures
