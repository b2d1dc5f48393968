-- `validate::rules::runs_right` meets its contract.
use Rattle.plain.specs.declared.TraversalDirection.TheVariants.{Outgoing, Incoming}
use Rattle.shape.specs.Stores.{words}
use Rattle.validate.proofs.Deciding.{runs_readable}
use Rattle.validate.proofs.rules.runs_right.Goals as goal

pub runs_right-requires : goal.runs_right-requires
runs_right-requires c = rw (c.incidence.ensures.axis, c.incidence.ensures.layout, c.incidence.ensures.live_nodes, c.incidence.ensures.live_edges) (runs_readable (words c.args.store.now) Outgoing c.requires.r1)

pub runs_right-requires-else-back : goal.runs_right-requires-else-back
runs_right-requires-else-back c = rw (c.incidence-else-back.ensures.axis, c.incidence-else-back.ensures.layout, c.incidence-else-back.ensures.live_nodes, c.incidence-else-back.ensures.live_edges) (runs_readable (words c.args.store.now) Incoming c.requires.r1)
