-- `runs::shorten` meets its contract: its stores are those of `shorten_done`.
use Rattle.runs.proofs.Sweeping.{shorten_done}
use Rattle.runs.proofs.shorten.Goals as goal

pub returns : goal.returns
returns c = shorten_done c.requires
