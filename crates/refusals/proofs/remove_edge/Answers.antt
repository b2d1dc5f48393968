-- `refusals::remove_edge` meets its contract: the value is whether something live was there.
use Rattle.refusals.proofs.Additions.{edge_removed}
use Rattle.refusals.proofs.remove_edge.Goals as goal

pub returns-clause-steps : goal.returns-clause-steps
returns-clause-steps c =
    edge_removed c.requires c.args.edge c.remove_edge.ensures.removed
