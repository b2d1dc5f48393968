-- `compact::drop_dead` meets its contract: call by call.
use Rattle.plain.specs.declared.TraversalDirection.TheVariants.{Outgoing, Incoming}
use Rattle.compact.specs.Dropping.{Droppable}
use Rattle.shape.specs.Stores.{words_mut}
use Rattle.compact.proofs.Dropping.{axis_compactable, droppable_as, first_half, second_half, resettable}
use Rattle.compact.proofs.drop_dead.Goals.{After-write_work}
use Rattle.compact.proofs.drop_dead.Goals as goal

ready : (c : After-write_work) → Droppable (words_mut c.args.store.now) c.args.maps.now.nodes.now c.write_work.new.work
ready c = droppable_as c.requires.droppable c.write_work.auto.work

pub write_work-requires : goal.write_work-requires
write_work-requires c = rw c.as_store.ensures c.requires.workable

pub compact_axis-requires : goal.compact_axis-requires
compact_axis-requires c =
    let r = ready (goal.at.compact_axis-requires c).After-write_work in
    rw c.layout-layout.ensures (axis_compactable r Outgoing c.write_work.new.work (first_half r))

pub compact_axis-requires-2 : goal.compact_axis-requires-2
compact_axis-requires-2 c =
    let r = ready (goal.at.compact_axis-requires-2 c).After-write_work in
    rw c.layout-layout.ensures (axis_compactable r Incoming _ (second_half r))

pub reset_all_live-requires : goal.reset_all_live-requires
reset_all_live-requires c = resettable c.requires.droppable.checked.nodes

pub reset_all_live-requires-2 : goal.reset_all_live-requires-2
reset_all_live-requires-2 c = resettable c.requires.droppable.checked.edges
