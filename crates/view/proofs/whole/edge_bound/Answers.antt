-- `view::whole::edge_bound` meets its contract: the check, and then the counts of a checked store.
use Rattle.std.specs.Prelude.{refl}
use Rattle.view.specs.Laws.Calls.{checked_done}
use Rattle.view.proofs.Counting.{edge_bound_read}
use Rattle.view.proofs.whole.edge_bound.Goals as goal

pub returns : goal.returns
returns c = checked_done c.in_ok-check_store.ensures refl (λ k. edge_bound_read k)
