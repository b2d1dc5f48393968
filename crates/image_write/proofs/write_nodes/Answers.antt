-- `image_write::write_nodes` meets its contract: after each turn the payload of one live node more was written.
use Rattle.std.specs.Prelude.{get_or}
use Rattle.plain.specs.Library.{ap, ◌∙◌, arith, rules}
use Rattle.plain.specs.Reads.{live_slots}
use Rattle.plain.specs.Image.{node_payload_width}
use Rattle.plain.proofs.Laws.Bits.{length_bits_of}
use Rattle.liveness.specs.Flags.{live_flags}
use Rattle.liveness.specs.LiveSlots.{left}
use Rattle.image_write.proofs.Strung.{live_none, live_more, live_all, row_strung}
use Rattle.image_write.proofs.Writing.{node_bits, node_room, node_there}
use Rattle.image_write.proofs.write_nodes.Goals as goal

pub loop-node-init : goal.loop-node-init
loop-node-init c =
    live_none c.args.out.now node_payload_width (node_bits c.args.store.now.nodes.now)
    (ap left c.into_iter-node-iterator.ensures.into_iter_gives ∙ c.new-node-items.ensures) c.requires.room

pub offset_bounds-store-node : goal.offset_bounds-store-node
offset_bounds-store-node c = omega (arith, node_there c.requires c.loop-node.invariant c.in-Some.ensures.steps)

pub bounds-store-node : goal.bounds-store-node
bounds-store-node c = node_there c.requires c.loop-node.invariant c.in-Some.ensures.steps

pub put-requires : goal.put-requires
put-requires c =
    node_room c.requires c.loop-node.invariant c.in-Some.ensures.steps (rw c.from.ensures (search (rules, arith)))

pub loop-node-preserved : goal.loop-node-preserved
loop-node-preserved c =
    live_more c.loop-node.invariant c.in-Some.ensures.steps (λ x. length_bits_of node_payload_width (get_or c.args.store.now.nodes.now x 0))
    (rw c.from.ensures at c.put.ensures)

pub returns : goal.returns
returns c =
    let a = c.args in
    rw (row_strung node_payload_width (λ x. get_or a.store.now.nodes.now x 0) (live_slots (live_flags a.store.now.live_nodes.now a.store.now.counts.nodes.bound))) at
    (live_all c.loop-node.invariant c.in-None.ensures.steps.0)
