-- `store::add_node` meets its contract: what it writes is what `node_acted` asks.
use Rattle.plain.specs.Library.{arith}
use Rattle.plain.specs.declared.TraversalDirection.TheVariants.{Outgoing, Incoming}
use Rattle.store.proofs.Adding.{node_raisable, node_openable, node_acted}
use Rattle.store.proofs.add_node.Goals as goal

pub open_node-requires : goal.open_node-requires
open_node-requires c = rw c.layout-layout.ensures (node_openable c.requires Outgoing)

pub open_node-requires-2 : goal.open_node-requires-2
open_node-requires-2 c = rw c.layout-layout.ensures (node_openable c.requires Incoming)

pub overflow_add-store : goal.overflow_add-store
overflow_add-store c = omega (arith, (node_raisable c.requires).bound_below)

pub overflow_add-store-2 : goal.overflow_add-store-2
overflow_add-store-2 c = omega (arith, (node_raisable c.requires).bound_below, (node_raisable c.requires).live_within)

pub returns-clause-acted : goal.returns-clause-acted
returns-clause-acted c =
    node_acted c.requires c.args.payload c.ranges.payload.fits c.push_live.ensures (rw c.layout-layout.ensures at c.open_node.ensures) (rw c.layout-layout.ensures at c.open_node-2.ensures)
    c.push_live.auto.words c.open_node.auto.axis c.open_node-2.auto.axis
