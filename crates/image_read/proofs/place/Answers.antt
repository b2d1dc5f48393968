-- `image_read::place` meets its contract: the two counts, and call by call.
use Rattle.plain.specs.Library.{arith}
use Rattle.image_read.proofs.Reading.{payloads_readable, axes_readable}
use Rattle.image_read.proofs.place.Goals as goal

pub read_axes-requires : goal.read_axes-requires
read_axes-requires c =
    let pre = c.requires in
    let image = c.args.image.now in
    rw (c.layout-layout.ensures, image.many_nodes, image.many_edges) (axes_readable pre _ _ pre.roomy.outgoing_room pre.roomy.incoming_room)

pub read_payloads-requires : goal.read_payloads-requires
read_payloads-requires c =
    let pre = c.requires in
    let image = c.args.image.now in
    rw (image.many_nodes, image.many_edges) (payloads_readable pre _ _ _ pre.nodes_room pre.edges_room (omega (arith, pre.edges_room, pre.roomy.highs_room)))

pub reset_all_live-requires : goal.reset_all_live-requires
reset_all_live-requires c =
    let pre = c.requires in
    omega (arith, c.args.image.now.many_nodes, pre.nodes_room, pre.roomy.live_nodes_room)

pub reset_all_live-requires-2 : goal.reset_all_live-requires-2
reset_all_live-requires-2 c =
    let pre = c.requires in
    omega (arith, c.args.image.now.many_edges, pre.edges_room, pre.roomy.live_edges_room)
