-- `view::ids::node_ids` meets its contract: the check, and then the list of one kind of slot.
use Rattle.plain.specs.Library.{ap}
use Rattle.plain.specs.Refusals.{rule_of}
use Rattle.view.proofs.Listing.{node_ids_told, node_ids_listed}
use Rattle.view.proofs.ids.node_ids.Goals as goal

pub list_live-requires : goal.list_live-requires
list_live-requires c = node_ids_told c.check_store.ensures (ap rule_of c.in_ok-check_store.was)

pub returns : goal.returns
returns c = node_ids_listed c.check_store.ensures (ap rule_of c.in_ok-check_store.was) c.list_live.ensures
