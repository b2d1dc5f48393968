-- `compact::settle` meets its contract: the maps, then the store.
use Rattle.std.specs.Prelude.{refl}
use Rattle.plain.specs.Library.{subst, sym}
use Rattle.shape.specs.Shape.{Words}
use Rattle.shape.specs.Stores.{words}
use Rattle.compact.specs.Dropping.{Droppable}
use Rattle.compact.specs.Settling.{Settleable}
use Rattle.survivors.specs.Working.{Workable}
use Rattle.compact.proofs.Settling.{workable, droppable}
use Rattle.compact.proofs.settle.Goals.{After-as_store}
use Rattle.compact.proofs.settle.Goals as goal

-- what is asked, of the store as it is read
asked : (c : After-as_store) → Settleable (words c.as_store.result) c.args.maps.now.nodes.now c.args.maps.now.edges.now c.args.work.now
asked c =
    subst (λ (w : Words). Settleable w c.args.maps.now.nodes.now c.args.maps.now.edges.now c.args.work.now) (sym c.as_store.ensures) c.requires

pub drop_dead-requires-clause-workable : goal.drop_dead-requires-clause-workable
drop_dead-requires-clause-workable c =
    subst (λ (w : Words). Workable w c.write_maps.new.maps.edges.now c.args.work.now) c.as_store.ensures
    (workable (asked (goal.at.drop_dead-requires-clause-workable c).After-as_store) c.write_maps.ensures.written.edges)

pub drop_dead-requires-clause-droppable : goal.drop_dead-requires-clause-droppable
drop_dead-requires-clause-droppable c =
    subst (λ (w : Words). Droppable w c.write_maps.new.maps.nodes.now c.args.work.now) c.as_store.ensures
    (droppable (asked (goal.at.drop_dead-requires-clause-droppable c).After-as_store) c.write_maps.ensures.written.nodes refl)
