-- `relocate::moves::meet` meets its contract, from what `prepare` ensures of each run.
use Rattle.relocate.proofs.Moving.{move_prepare_new}
use Rattle.relocate.proofs.moves.meet.Goals as goal

pub prepare-requires-2 : goal.prepare-requires-2
prepare-requires-2 c =
    move_prepare_new c.requires c.prepare.ensures
