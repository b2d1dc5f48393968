-- `refusals::add_edge` meets its contract: the order of the payload, the faults of source and target, then the room, then the store's addition.
use Rattle.plain.proofs.Laws.Exits.{refused_exit}
use Rattle.refusals.proofs.Told.{told_node}
use Rattle.refusals.proofs.Additions.{edge_inverted, source_fault, target_fault, edge_full, edge_added}
use Rattle.refusals.proofs.add_edge.Goals as goal

pub returns-in_err-ordered-clause-steps : goal.returns-in_err-ordered-clause-steps
returns-in_err-ordered-clause-steps c =
    rw (refused_exit _ c.from_residual.ensures.1, c.in_err-ordered.ensures.1) (edge_inverted c.requires c.args.source c.args.target c.args.payload c.in_err-ordered.ensures.0)

pub returns-in_err-live_node-clause-steps : goal.returns-in_err-live_node-clause-steps
returns-in_err-live_node-clause-steps c =
    rw (refused_exit _ c.from_residual-in_err-live_node.ensures.1)
    (source_fault c.requires c.args.source c.args.target c.in_ok-ordered.ensures c.as_store-read.ensures c.in_err-live_node.ensures)

pub returns-in_err-live_node-2-clause-steps : goal.returns-in_err-live_node-2-clause-steps
returns-in_err-live_node-2-clause-steps c =
    rw (refused_exit _ c.from_residual-in_err-live_node-2.ensures.1)
    (target_fault c.requires c.args.source c.args.target c.in_ok-ordered.ensures (told_node c.as_store-read.ensures c.args.source c.in_ok-live_node.ensures)
    c.as_store-read.ensures c.in_err-live_node-2.ensures)

pub returns-then-store-slot-clause-steps : goal.returns-then-store-slot-clause-steps
returns-then-store-slot-clause-steps c =
    edge_full c.requires c.args.source c.args.target c.in_ok-ordered.ensures (told_node c.as_store-read.ensures c.args.source c.in_ok-live_node.ensures)
    (told_node c.as_store-read.ensures c.args.target c.in_ok-live_node-2.ensures) c.if-store-slot.true

pub add_edge-requires : goal.add_edge-requires
add_edge-requires c =
    record {
      checked = c.requires;
      in_order = c.in_ok-ordered.ensures;
      source_live = told_node c.as_store-read.ensures c.args.source c.in_ok-live_node.ensures;
      target_live = told_node c.as_store-read.ensures c.args.target c.in_ok-live_node-2.ensures;
      room = c.if-store-slot.false;
    }

pub returns-clause-steps : goal.returns-clause-steps
returns-clause-steps c =
    edge_added c.requires c.args.source c.args.target c.in_ok-ordered.ensures (told_node c.as_store-read.ensures c.args.source c.in_ok-live_node.ensures)
    (told_node c.as_store-read.ensures c.args.target c.in_ok-live_node-2.ensures) c.if-store-slot.false c.add_edge.ensures.acted
