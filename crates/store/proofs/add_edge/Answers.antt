-- `store::add_edge` meets its contract: what it writes is what `edge_acted` asks.
use Rattle.plain.specs.Library.{arith}
use Rattle.plain.specs.declared.TraversalDirection.TheVariants.{Outgoing, Incoming}
use Rattle.store.proofs.Adding.{edge_raisable, edge_appendable, edge_acted}
use Rattle.store.proofs.add_edge.Goals as goal

pub append-requires : goal.append-requires
append-requires c =
    rw c.layout-layout.ensures (edge_appendable c.requires Outgoing c.args.source c.requires.source_live)

pub append-requires-2 : goal.append-requires-2
append-requires-2 c =
    rw c.layout-layout.ensures (edge_appendable c.requires Incoming c.args.target c.requires.target_live)

pub overflow_add-store : goal.overflow_add-store
overflow_add-store c = omega (arith, (edge_raisable c.requires).bound_below)

pub overflow_add-store-2 : goal.overflow_add-store-2
overflow_add-store-2 c = omega (arith, (edge_raisable c.requires).bound_below, (edge_raisable c.requires).live_within)

pub returns-clause-acted : goal.returns-clause-acted
returns-clause-acted c =
    rw (c.set_weights.ensures.lows, c.set_weights.ensures.highs)
    (edge_acted c.requires c.set_weights.ensures.fits c.push_live.ensures (rw c.layout-layout.ensures at c.append.ensures) (rw c.layout-layout.ensures at c.append-2.ensures)
    c.push_live.auto.words c.append.auto.axis c.append-2.auto.axis)
