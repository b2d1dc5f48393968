-- `refusals::add_node` meets its contract: refused where the bound is the capacity, else the store's addition.
use Rattle.refusals.proofs.Additions.{node_full, node_added}
use Rattle.refusals.proofs.add_node.Goals as goal

pub returns-then-store-slot-clause-steps : goal.returns-then-store-slot-clause-steps
returns-then-store-slot-clause-steps c = node_full c.requires c.args.payload c.if-store-slot.true

pub returns-clause-steps : goal.returns-clause-steps
returns-clause-steps c = node_added c.requires c.args.payload c.if-store-slot.false c.add_node.ensures.acted
