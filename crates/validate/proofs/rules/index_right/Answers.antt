-- `validate::rules::index_right` meets its contract.
use Rattle.plain.specs.declared.TraversalDirection.TheVariants.{Outgoing, Incoming}
use Rattle.shape.specs.Stores.{words}
use Rattle.validate.proofs.Deciding.{axis_sized}
use Rattle.validate.proofs.rules.index_right.Goals as goal

pub index_right-requires : goal.index_right-requires
index_right-requires c = rw c.layout-layout.ensures (axis_sized (words c.args.store.now) c.requires Outgoing)

pub index_right-requires-then-index_right : goal.index_right-requires-then-index_right
index_right-requires-then-index_right c = rw c.layout-layout.ensures (axis_sized (words c.args.store.now) c.requires Incoming)
