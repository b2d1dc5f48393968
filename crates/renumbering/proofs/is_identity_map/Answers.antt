-- `renumbering::is_identity_map` meets its contract: all slots hold their own numbers where each does.
use Rattle.std.proofs.Common.{rules}
use Rattle.renumbering.proofs.Maps.{identity_each}
use Rattle.renumbering.proofs.is_identity_map.Goals as goal

pub returns : goal.returns
returns c = identity_each _ _ (search rules)
