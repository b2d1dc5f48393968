-- `validate::rules::ends_right` meets its contract.
use Rattle.plain.specs.declared.TraversalDirection.TheVariants.{Outgoing, Incoming}
use Rattle.shape.specs.Stores.{words}
use Rattle.validate.proofs.Deciding.{axis_sized, weights_there}
use Rattle.validate.proofs.rules.ends_right.Goals as goal

pub ends_right-requires : goal.ends_right-requires
ends_right-requires c = rw c.layout-layout.ensures (axis_sized (words c.args.store.now) c.requires Outgoing)

pub ends_right-requires-then-ends_right : goal.ends_right-requires-then-ends_right
ends_right-requires-then-ends_right c = rw c.layout-layout.ensures (axis_sized (words c.args.store.now) c.requires Incoming)

pub weights_right-requires : goal.weights_right-requires
weights_right-requires c = weights_there (words c.args.store.now) c.requires
