-- `image_write::write_edges` meets its contract: after each turn the record of one live edge more was written.
use Rattle.plain.specs.Library.{ap, ◌∙◌}
use Rattle.plain.specs.Reads.{live_slots}
use Rattle.plain.specs.Image.{record_width}
use Rattle.liveness.specs.LiveSlots.{left}
use Rattle.shape.specs.Shape.{edge_live}
use Rattle.shape.specs.Stores.{words}
use Rattle.image_write.specs.Writing.{record_at}
use Rattle.image_write.proofs.Strung.{live_none, live_more, live_all, records_strung}
use Rattle.image_write.proofs.Writing.{piece, edge_room, edge_there, length_record_bits}
use Rattle.image_write.proofs.write_edges.Goals as goal

pub loop-e-init : goal.loop-e-init
loop-e-init c =
    let a = c.args in
    live_none a.out.now (record_width a.nodes.now.width) (piece a.nodes.now.width a.nodes.now.live.now a.nodes.now.slots (words a.store.now))
    (ap left c.into_iter-e-iterator.ensures.into_iter_gives ∙ c.new-e-items.ensures) c.requires.room

pub edge_at-requires : goal.edge_at-requires
edge_at-requires c = edge_there c.requires c.loop-e.invariant c.in-Some.ensures.steps

pub write_edge-requires : goal.write_edge-requires
write_edge-requires c = rw c.edge_at.ensures (edge_room c.requires c.loop-e.invariant c.in-Some.ensures.steps)

pub loop-e-preserved : goal.loop-e-preserved
loop-e-preserved c =
    let a = c.args in
    live_more c.loop-e.invariant c.in-Some.ensures.steps
    (λ e. length_record_bits a.nodes.now.width (record_at a.nodes.now.live.now a.nodes.now.slots (words a.store.now) e)) (rw c.edge_at.ensures at c.write_edge.ensures)

pub returns : goal.returns
returns c =
    let a = c.args in
    rw (records_strung a.nodes.now.width (record_at a.nodes.now.live.now a.nodes.now.slots (words a.store.now))
    (live_slots (edge_live (words a.store.now)))) at
    (live_all c.loop-e.invariant c.in-None.ensures.steps.0)
