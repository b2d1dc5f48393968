-- `view::whole::node_bound` meets its contract: the check, and then the counts of a checked store.
use Rattle.std.specs.Prelude.{refl}
use Rattle.view.specs.Laws.Calls.{checked_done}
use Rattle.view.proofs.Counting.{node_bound_read}
use Rattle.view.proofs.whole.node_bound.Goals as goal

pub returns : goal.returns
returns c = checked_done c.in_ok-check_store.ensures refl (λ k. node_bound_read k)
