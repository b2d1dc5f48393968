-- `view::slots::live_edge_record` meets its contract: the check, what the slot is refused with, and then the law of the record of a live edge.
use Rattle.std.specs.Prelude.{refl}
use Rattle.plain.specs.Library.{sym}
use Rattle.plain.proofs.Laws.Exits.{refused_exit}
use Rattle.view.specs.Laws.Calls.{record_done}
use Rattle.view.proofs.Reading.{live_record_refused, live_record_there, live_record_passed}
use Rattle.view.proofs.slots.live_edge_record.Goals as goal

pub returns-in_err-live_edge : goal.returns-in_err-live_edge
returns-in_err-live_edge c =
    rw (refused_exit _ c.from_residual-in_err-live_edge.ensures.1)
    (record_done c.in_ok-check_store.ensures refl (sym (live_record_refused _ _ c.in_err-live_edge.ensures)))

pub edge_at-requires : goal.edge_at-requires
edge_at-requires c =
    live_record_there (c.in_ok-check_store.ensures.checked refl) _ c.in_ok-live_edge.ensures

pub returns : goal.returns
returns c =
    rw c.edge_at.ensures (record_done c.in_ok-check_store.ensures refl (sym (live_record_passed (c.in_ok-check_store.ensures.checked refl) _ c.in_ok-live_edge.ensures)))
