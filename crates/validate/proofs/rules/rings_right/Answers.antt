-- `validate::rules::rings_right` meets its contract.
use Rattle.plain.specs.declared.TraversalDirection.TheVariants.{Outgoing, Incoming}
use Rattle.shape.specs.Stores.{words}
use Rattle.validate.proofs.Deciding.{axis_sized}
use Rattle.validate.proofs.rules.rings_right.Goals as goal

pub rings_right-requires : goal.rings_right-requires
rings_right-requires c = rw c.layout-layout.ensures (axis_sized (words c.args.store.now) c.requires Outgoing)

pub rings_right-requires-then-rings_right : goal.rings_right-requires-then-rings_right
rings_right-requires-then-rings_right c = rw c.layout-layout.ensures (axis_sized (words c.args.store.now) c.requires Incoming)
