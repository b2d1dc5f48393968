-- `join_columns::axis::join_ends` meets its contract: the ends of the first book, then those of the second behind them.
use Rattle.join_columns.specs.Laws.Sides.{both_ends}
use Rattle.join_columns.proofs.axis.join_ends.Goals as goal

pub returns : goal.returns
returns c = both_ends c.requires c.copy_ends.ensures c.copy_ends-2.ensures
