-- `view::compactness::is_compact` meets its contract: the check, and then the test of a checked store.
use Rattle.std.specs.Prelude.{refl}
use Rattle.plain.specs.Library.{ap}
use Rattle.plain.specs.Reads.{yes_or_no, is_compact}
use Rattle.view.specs.Laws.Calls.{answer_done}
use Rattle.view.proofs.compactness.is_compact.Goals as goal

pub returns : goal.returns
unfolding is_compact
returns c = answer_done c.in_ok-check_store.ensures refl (ap yes_or_no c.is_compact_checked.ensures)
