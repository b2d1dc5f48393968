-- `image_write::write_slots` meets its contract: counts, nodes and edges follow each other.
use Rattle.plain.specs.Library.{rules}
use Rattle.image_write.proofs.Surviving.{node_words, node_slots, ranks_room, counts_fit, nodes_fit, edges_fit, slots_written}
use Rattle.image_write.proofs.write_slots.Goals as goal

pub new-nodes-requires : goal.new-nodes-requires
new-nodes-requires c =
    let h = c.requires in record { fit = ranks_room (node_words h) (node_slots h) (search rules); right = h.checked.nodes.live.live_right }

pub write_counts-requires : goal.write_counts-requires
write_counts-requires c = counts_fit c.requires

pub write_nodes-requires : goal.write_nodes-requires
write_nodes-requires c = nodes_fit c.requires c.write_counts.ensures

pub write_edges-requires : goal.write_edges-requires
write_edges-requires c =
    rw (c.new-nodes.ensures.live, c.new-nodes.ensures.slots, c.new-nodes.ensures.width) (edges_fit c.requires c.write_counts.ensures c.write_nodes.ensures)

pub returns : goal.returns
returns c =
    slots_written c.requires c.write_counts.ensures c.write_nodes.ensures (rw (c.new-nodes.ensures.live, c.new-nodes.ensures.slots, c.new-nodes.ensures.width) at c.write_edges.ensures)
