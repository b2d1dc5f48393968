-- `join_columns::axis::copy_ends` meets its contract: the ends, then put through the node map.
use Rattle.survivors.proofs.Laws.Fronts.{front_translatable, front_translated}
use Rattle.join_columns.specs.Laws.Sides.{ends_translatable, ends_written}
use Rattle.join_columns.proofs.axis.copy_ends.Goals as goal

pub translate-requires : goal.translate-requires
translate-requires c = front_translatable (ends_translatable c.requires (rw c.axis.ensures at c.copy_live.ensures))

pub returns : goal.returns
returns c =
    ends_written c.requires (rw c.axis.ensures at c.copy_live.ensures)
    (front_translated (ends_translatable c.requires (rw c.axis.ensures at c.copy_live.ensures)) c.translate.ensures)
