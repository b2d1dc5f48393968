-- `image_write::write_nodes` meets its contract: after each turn the payload of one live node more was written.
use Rattle.plain.specs.Image.{node_payload_width}
use Rattle.liveness.specs.Flags.{live_flags}
use Rattle.liveness.specs.LiveSlots.{left}
use Rattle.image_write.proofs.Strung.{StrungLive}
use Rattle.image_write.proofs.Writing.{node_bits}
use Rattle.image_write.proofs.write_nodes.Given as goal

abbrev pub invariant-loop-node : goal.invariant-loop-node
invariant-loop-node l =
    StrungLive (live_flags l.store.live_nodes.now l.store.counts.nodes.bound) l.initial.out node_payload_width (node_bits l.store.nodes.now) l.yielded (left l.node-iterator) l.out
