-- `view::slots::node_payload` meets its contract: the check, and then the laws of the payload past the bound and below it.
use Rattle.std.specs.Prelude.{refl}
use Rattle.plain.specs.Library.{sym}
use Rattle.plain.proofs.Laws.Exits.{refused_exit}
use Rattle.view.specs.Laws.Calls.{answer_done}
use Rattle.view.proofs.Reading.{payload_past, payload_read}
use Rattle.view.proofs.slots.node_payload.Goals as goal

pub returns-in_err-known_node : goal.returns-in_err-known_node
returns-in_err-known_node c =
    let past = c.in_err-known_node.ensures in
    rw (refused_exit _ c.from_residual-in_err-known_node.ensures.1, past.1) (answer_done c.in_ok-check_store.ensures refl (sym (payload_past _ _ past.0)))

pub returns : goal.returns
returns c =
    answer_done c.in_ok-check_store.ensures refl (sym (payload_read _ _ c.in_ok-known_node.ensures))
