-- `view::slots::edge_record` meets its contract: the check, and then the laws of the record past the bound and below it.
use Rattle.std.specs.Prelude.{refl}
use Rattle.plain.specs.Library.{sym}
use Rattle.plain.proofs.Laws.Exits.{refused_exit}
use Rattle.view.specs.Laws.Calls.{record_done}
use Rattle.view.proofs.Reading.{record_there, record_past, record_read}
use Rattle.view.proofs.slots.edge_record.Goals as goal

pub returns-in_err-known_edge : goal.returns-in_err-known_edge
returns-in_err-known_edge c =
    let past = c.in_err-known_edge.ensures in
    rw (refused_exit _ c.from_residual-in_err-known_edge.ensures.1, past.1) (record_done c.in_ok-check_store.ensures refl (sym (record_past _ _ past.0)))

pub edge_at-requires : goal.edge_at-requires
edge_at-requires c = record_there (c.in_ok-check_store.ensures.checked refl) _ c.in_ok-known_edge.ensures

pub returns : goal.returns
returns c =
    rw c.edge_at.ensures (record_done c.in_ok-check_store.ensures refl (sym (record_read _ _ c.in_ok-known_edge.ensures)))
