-- `image_write::write_edges` meets its contract: after each turn the record of one live edge more was written.
use Rattle.plain.specs.Image.{record_width}
use Rattle.liveness.specs.LiveSlots.{left}
use Rattle.shape.specs.Shape.{edge_live}
use Rattle.shape.specs.Stores.{words}
use Rattle.image_write.proofs.Strung.{StrungLive}
use Rattle.image_write.proofs.Writing.{piece}
use Rattle.image_write.proofs.write_edges.Given as goal

abbrev pub invariant-loop-e : goal.invariant-loop-e
invariant-loop-e l =
    let v = words l.store in
    StrungLive (edge_live v) l.initial.out (record_width l.nodes.width) (piece l.nodes.width l.nodes.live.now l.nodes.slots v) l.yielded (left l.e-iterator) l.out
