-- `nearest::check_ask` meets its contract: a law for each way out.
use Rattle.plain.proofs.Laws.Exits.{refused_exit}
use Rattle.nearest.proofs.Entry.{first_refused, second_refused, work_asked}
use Rattle.nearest.proofs.check_ask.Goals as goal

pub returns-in_err-live_node : goal.returns-in_err-live_node
returns-in_err-live_node c =
    let a = c.args in
    rw (refused_exit _ c.from_residual-in_err-live_node.ensures.1) (first_refused a.first a.second a.room c.in_ok-check_store.ensures c.in_err-live_node.ensures)

pub returns-in_err-live_node-2 : goal.returns-in_err-live_node-2
returns-in_err-live_node-2 c =
    let a = c.args in
    rw (refused_exit _ c.from_residual-in_err-live_node-2.ensures.1)
    (second_refused a.first a.second a.room c.in_ok-check_store.ensures c.in_ok-live_node.ensures c.in_err-live_node-2.ensures)

pub returns : goal.returns
returns c =
    let a = c.args in
    work_asked a.first a.second a.room c.in_ok-check_store.ensures c.in_ok-live_node.ensures c.in_ok-live_node-2.ensures _ c.need.ensures
