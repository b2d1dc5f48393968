-- `refusals::set_payload` meets its contract: refused for a low above its high and at or above the bound, else the store's.
use Rattle.plain.proofs.Laws.Exits.{refused_exit}
use Rattle.refusals.proofs.Told.{known_edge, unknown_edge}
use Rattle.refusals.proofs.Additions.{payload_inverted, payload_absent, payload_set}
use Rattle.refusals.proofs.set_payload.Goals as goal

pub returns-in_err-ordered-clause-steps : goal.returns-in_err-ordered-clause-steps
returns-in_err-ordered-clause-steps c =
    rw (refused_exit _ c.from_residual.ensures.1, c.in_err-ordered.ensures.1) (payload_inverted c.requires c.args.edge c.in_err-ordered.ensures.0)

pub returns-in_err-known_edge-clause-steps : goal.returns-in_err-known_edge-clause-steps
returns-in_err-known_edge-clause-steps c =
    rw (refused_exit _ c.from_residual-in_err-known_edge.ensures.1, c.in_err-known_edge.ensures.1)
    (payload_absent c.requires c.args.edge c.in_ok-ordered.ensures (unknown_edge c.as_store.ensures c.in_err-known_edge.ensures.0))

pub returns-clause-steps : goal.returns-clause-steps
returns-clause-steps c =
    payload_set c.requires c.args.edge c.in_ok-ordered.ensures (known_edge c.as_store.ensures c.in_ok-known_edge.ensures) c.set_payload.ensures.acted
