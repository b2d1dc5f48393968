-- `view_walks::finding::find` meets its contract: a law for each way out.
use Rattle.plain.specs.Library.{arith}
use Rattle.plain.proofs.Laws.Exits.{refused_exit}
use Rattle.plain.specs.declared.TraversalDirection.TheVariants.{Outgoing, Incoming}
use Rattle.adjacency.specs.Laws.StoreWalks.{checked_walkable}
use Rattle.view_walks.proofs.Walking.{placed_checked, placed_below}
use Rattle.view_walks.proofs.Seeking.{find_refused, second_past, find_done, found_among}
use Rattle.view_walks.proofs.finding.find.Goals as goal

pub returns-in_err-check_node-clause-answered : goal.returns-in_err-check_node-clause-answered
returns-in_err-check_node-clause-answered c = rw (refused_exit _ c.from_residual.ensures.1) (find_refused c.args.first c.args.second c.in_err-check_node.ensures)

pub returns-in_err-known_node-clause-answered : goal.returns-in_err-known_node-clause-answered
returns-in_err-known_node-clause-answered c =
    let past = c.in_err-known_node.ensures in
    rw (refused_exit _ c.from_residual-in_err-known_node.ensures.1, past.1) (second_past c.args.first c.args.second c.in_ok-check_node.ensures past.0)

pub find-edge-requires-clause-walkable : goal.find-edge-requires-clause-walkable
find-edge-requires-clause-walkable c =
    rw (c.incidence.ensures.axis, c.incidence.ensures.layout, c.incidence.ensures.live_edges) (checked_walkable (placed_checked c.in_ok-check_node.ensures) Outgoing c.args.first (placed_below c.in_ok-check_node.ensures))

pub find-edge-requires-clause-edge_capacity_in_bounds : goal.find-edge-requires-clause-edge_capacity_in_bounds
find-edge-requires-clause-edge_capacity_in_bounds c = rw c.incidence.ensures.layout (omega (arith, ((placed_checked c.in_ok-check_node.ensures).axis Incoming).sized.room))

pub returns-clause-answered : goal.returns-clause-answered
returns-clause-answered c =
    find_done c.args.first c.args.second c.in_ok-check_node.ensures c.in_ok-known_node.ensures c.is_node_live.ensures c.find-edge.result
    (rw (c.incidence.ensures.axis, c.incidence.ensures.layout, c.incidence.ensures.live_edges) at c.find-edge.ensures.first)

pub returns-clause-among : goal.returns-clause-among
returns-clause-among c =
    found_among c.args.first c.args.second c.in_ok-check_node.ensures c.is_node_live.ensures c.find-edge.result (rw (c.incidence.ensures.axis, c.incidence.ensures.layout, c.incidence.ensures.live_edges) at c.find-edge.ensures.among)
