-- `view_walks::degree` meets its contract: refused as its node is, or read of the list.
use Rattle.plain.proofs.Laws.Exits.{refused_exit}
use Rattle.view_walks.proofs.Walking.{placed_checked, degree_refused, degree_done}
use Rattle.view_walks.proofs.degree.Goals as goal

pub returns-in_err-check_node : goal.returns-in_err-check_node
returns-in_err-check_node c = rw (refused_exit _ c.from_residual.ensures.1) (degree_refused c.args.direction c.in_err-check_node.ensures)

pub degree-requires-clause-checked : goal.degree-requires-clause-checked
degree-requires-clause-checked c = placed_checked c.in_ok-check_node.ensures

pub returns : goal.returns
returns c = degree_done c.args.direction c.in_ok-check_node.ensures c.degree.ensures
