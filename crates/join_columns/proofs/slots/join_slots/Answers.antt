-- `join_columns::slots::join_slots` meets its contract: the words of the first book, then those of the second behind them.
use Rattle.join_columns.proofs.Copying.{both_copied}
use Rattle.join_columns.proofs.slots.join_slots.Goals as goal

pub returns : goal.returns
returns c = both_copied c.requires c.copy_live.ensures c.copy_live-2.ensures
