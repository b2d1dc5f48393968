-- `view_walks::count_list` meets its contract: a node that is refused, a slice that is too short, or one that is not.
use Rattle.plain.proofs.Laws.Exits.{refused_exit}
use Rattle.view_walks.specs.Walks.{refused}
use Rattle.view_walks.proofs.Walking.{placed_checked, count_short, count_fits}
use Rattle.view_walks.proofs.count_list.Goals as goal

pub returns-in_err-check_node : goal.returns-in_err-check_node
returns-in_err-check_node c = rw (refused_exit _ c.from_residual.ensures.1) (refused c.in_err-check_node.ensures)

pub degree-entries-requires-clause-checked : goal.degree-entries-requires-clause-checked
degree-entries-requires-clause-checked c = placed_checked c.in_ok-check_node.ensures

pub returns-in_err-need : goal.returns-in_err-need
returns-in_err-need c =
    let lacks = c.in_err-need.ensures in
    rw (refused_exit _ c.from_residual-in_err-need.ensures.1, lacks.1) (count_short c.in_ok-check_node.ensures c.degree-entries.ensures lacks.0)

pub returns : goal.returns
returns c = count_fits c.in_ok-check_node.ensures c.degree-entries.ensures c.in_ok-need.ensures
