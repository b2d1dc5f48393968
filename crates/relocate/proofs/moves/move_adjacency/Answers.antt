-- `relocate::moves::move_adjacency` meets its contract, from what `meet`, `relabel` and `hand_over` ensure.
use Rattle.relocate.proofs.Moving.{move_relabel, move_hand, move_done}
use Rattle.relocate.proofs.moves.move_adjacency.Goals as goal

pub relabel-moved-requires : goal.relabel-moved-requires
relabel-moved-requires c =
    move_relabel c.requires c.meet.ensures

pub hand_over-requires : goal.hand_over-requires
hand_over-requires c =
    move_hand c.requires c.meet.ensures c.relabel-moved.ensures

pub returns : goal.returns
returns c =
    move_done c.requires c.meet.ensures c.relabel-moved.ensures c.hand_over.ensures
