-- `image_read::read_axis` meets its contract: the ends, and the base on them.
use Rattle.image_read.proofs.Directions.{base_readable, axis_read}
use Rattle.adjacency.specs.Laws.Parts.{part_rewritten}
use Rattle.image_read.proofs.read_axis.Goals.{After-read_fields}
use Rattle.image_read.proofs.read_axis.Goals as goal

pub read_base-requires : goal.read_base-requires
read_base-requires c =
    rw c.least_width-edge_width.ensures
    (base_readable c.requires
    (part_rewritten c.args.axis.now 0 c.args.image.now.edges c.requires.ends_there.room
    (rw (c.record_width-stride.ensures, c.least_width-node_width.ensures) at c.read_fields.ensures)))

pub returns : goal.returns
returns c =
    axis_read c.requires
    (part_rewritten c.args.axis.now 0 c.args.image.now.edges c.requires.ends_there.room
    (rw (c.record_width-stride.ensures, c.least_width-node_width.ensures) at c.read_fields.ensures))
    (rw c.least_width-edge_width.ensures at c.read_base.ensures)
