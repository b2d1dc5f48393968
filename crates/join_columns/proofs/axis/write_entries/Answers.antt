-- `join_columns::axis::write_entries` meets its contract: the lists, then put through the edge map.
use Rattle.survivors.proofs.Laws.Fronts.{front_translatable, front_translated}
use Rattle.join_columns.specs.Laws.Sides.{entries_translatable, entries_written}
use Rattle.join_columns.proofs.axis.write_entries.Goals as goal

pub translate-requires : goal.translate-requires
translate-requires c = front_translatable (entries_translatable c.requires c.write_lists.ensures)

pub returns : goal.returns
returns c =
    entries_written c.requires c.write_lists.ensures
    (front_translated (entries_translatable c.requires c.write_lists.ensures) c.translate.ensures)
