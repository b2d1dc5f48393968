-- `view_walks::check_node` meets its contract: a rule that is broken, a node at or above the bound, or one below it.
use Rattle.plain.proofs.Laws.Exits.{refused_exit}
use Rattle.view_walks.specs.Walks.{no_store}
use Rattle.view_walks.proofs.Walking.{placed}
use Rattle.view_walks.proofs.check_node.Goals as goal

pub returns-in_err-check_store : goal.returns-in_err-check_store
returns-in_err-check_store c = rw (refused_exit _ c.from_residual.ensures.1) (no_store c.in_err-check_store.ensures)

pub returns : goal.returns
returns c = placed c.in_ok-check_store.ensures _ c.known_node.ensures
