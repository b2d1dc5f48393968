-- `runs::overlay::take_over` meets its contract, from what `start_run` and `drain` ensure.
use Rattle.runs.proofs.Starting.{take_drain, take_end}
use Rattle.runs.proofs.overlay.take_over.Goals as goal

pub drain-requires : goal.drain-requires
drain-requires c =
    take_drain c.requires c.start_run.ensures

pub returns : goal.returns
returns c =
    take_end c.requires c.start_run.ensures c.drain.ensures
