-- `refusals::remove_node` meets its contract: the value is whether something live was there.
use Rattle.refusals.proofs.Additions.{node_removed}
use Rattle.refusals.proofs.remove_node.Goals as goal

pub returns-clause-steps : goal.returns-clause-steps
returns-clause-steps c =
    node_removed c.requires c.args.node c.remove_node.ensures.removed
