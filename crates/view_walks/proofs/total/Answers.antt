-- `view_walks::total` meets its contract: refused as its node is, or read of the list.
use Rattle.plain.proofs.Laws.Exits.{refused_exit}
use Rattle.view_walks.proofs.Walking.{placed_checked, total_refused, total_done_at}
use Rattle.view_walks.proofs.total.Goals as goal

pub returns-in_err-check_node : goal.returns-in_err-check_node
returns-in_err-check_node c = rw (refused_exit _ c.from_residual.ensures.1) (total_refused c.args.direction c.in_err-check_node.ensures)

pub total-requires-clause-checked : goal.total-requires-clause-checked
total-requires-clause-checked c = placed_checked c.in_ok-check_node.ensures

pub returns : goal.returns
returns c = total_done_at c.args.direction c.in_ok-check_node.ensures c.total.ensures
