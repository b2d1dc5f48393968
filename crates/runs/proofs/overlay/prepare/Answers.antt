-- `runs::overlay::prepare` meets its contract, from what `take_over` and `sweep` ensure.
use Rattle.runs.proofs.Preparing.{prepare_sweep, prepare_end}
use Rattle.runs.proofs.overlay.prepare.Goals as goal

pub sweep-requires : goal.sweep-requires
sweep-requires c =
    prepare_sweep c.requires c.take_over.ensures

pub returns : goal.returns
returns c =
    prepare_end c.requires c.take_over.ensures c.sweep.ensures
