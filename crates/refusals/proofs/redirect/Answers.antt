-- `refusals::redirect` meets its contract: the faults of the edge and of the node, then the store's redirection.
use Rattle.plain.proofs.Laws.Exits.{refused_exit}
use Rattle.refusals.proofs.Told.{told_node, told_edge}
use Rattle.refusals.proofs.Relocations.{redirect_edge_fault, redirect_node_fault, edge_redirected}
use Rattle.refusals.proofs.redirect.Goals as goal

pub returns-in_err-live_edge-clause-steps : goal.returns-in_err-live_edge-clause-steps
returns-in_err-live_edge-clause-steps c =
    rw (refused_exit _ c.from_residual.ensures.1)
    (redirect_edge_fault c.requires c.args.direction c.args.edge c.args.node c.as_store-read.ensures c.in_err-live_edge.ensures)

pub returns-in_err-live_node-clause-steps : goal.returns-in_err-live_node-clause-steps
returns-in_err-live_node-clause-steps c =
    rw (refused_exit _ c.from_residual-in_err-live_node.ensures.1)
    (redirect_node_fault c.requires c.args.direction c.args.edge c.args.node (told_edge c.as_store-read.ensures c.args.edge c.in_ok-live_edge.ensures)
    c.as_store-read.ensures c.in_err-live_node.ensures)

pub redirect-requires : goal.redirect-requires
redirect-requires c =
    record {
      checked = c.requires;
      alive = told_edge c.as_store-read.ensures c.args.edge c.in_ok-live_edge.ensures;
      new_live = told_node c.as_store-read.ensures c.args.node c.in_ok-live_node.ensures;
    }

pub returns-clause-steps : goal.returns-clause-steps
returns-clause-steps c =
    edge_redirected c.requires c.args.direction c.args.edge c.args.node (told_edge c.as_store-read.ensures c.args.edge c.in_ok-live_edge.ensures)
    (told_node c.as_store-read.ensures c.args.node c.in_ok-live_node.ensures) c.redirect.ensures.redirected
