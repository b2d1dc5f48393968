-- `join_columns::axis::join_axis` meets its contract: call by call.
use Rattle.join_columns.specs.Laws.Sides.{compressible, axis_joined}
use Rattle.join_columns.proofs.axis.join_axis.Goals as goal

pub count_offsets-requires : goal.count_offsets-requires
count_offsets-requires c = compressible c.requires c.join_ends.ensures

pub returns : goal.returns
returns c =
    axis_joined c.requires c.join_ends.ensures c.count_offsets.ensures c.join_entries.ensures c.open_nodes.ensures.rings c.open_nodes.ensures.marks
