-- `image_read::read_base` meets its contract: call by call.
use Rattle.std.specs.Prelude.{◌+◌, ◌-◌, ◌≤◌, ◌≡◌, length}
use Rattle.plain.specs.Library.{arith}
use Rattle.image_read.proofs.Directions.{base_read}
use Rattle.adjacency.specs.Laws.Parts.{part_rewritten_as}
use Rattle.image_read.proofs.read_base.Goals as goal

pub returns : goal.returns
returns c =
    let a = c.args in
    let all = a.layout.edge_capacity + a.count_edges in
    let many : all - a.layout.edge_capacity ≡ a.count_edges = omega arith in
    let room : a.layout.edge_capacity + (all - a.layout.edge_capacity) ≤ length c.count_offsets.new.axis = omega (arith, c.count_offsets.ensures.long, c.requires.entries.room) in
    base_read c.requires c.count_offsets.ensures
    (part_rewritten_as c.count_offsets.new.axis a.layout.edge_capacity (all - a.layout.edge_capacity) room c.read_fields.ensures many)
    c.open_nodes.ensures.rings c.open_nodes.ensures.marks
