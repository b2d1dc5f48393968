-- `view::slots::contains_node` meets its contract: the check, and then the flag of the slot.
use Rattle.std.specs.Prelude.{refl}
use Rattle.plain.specs.Library.{sym, ap, ◌∙◌}
use Rattle.plain.specs.Reads.{yes_or_no}
use Rattle.view.specs.Laws.Calls.{answer_done}
use Rattle.view.proofs.Reading.{node_there}
use Rattle.view.proofs.slots.contains_node.Goals as goal

pub returns : goal.returns
returns c =
    answer_done c.in_ok-check_store.ensures refl
    (ap yes_or_no c.is_node_live.ensures ∙ sym (node_there _ _))
