-- `store::move_adjacency` meets its contract: in either direction `moving`.
use Rattle.plain.specs.declared.TraversalDirection.TheVariants.{Outgoing, Incoming}
use Rattle.store.proofs.Relocating.{told_movable, movable, moving}
use Rattle.store.proofs.move_adjacency.Goals as goal

pub move_adjacency-requires : goal.move_adjacency-requires
move_adjacency-requires c =
    rw (c.tombstoned-some_removed.ensures, c.layout-layout.ensures) (movable (told_movable c.in-Outgoing.is c.requires))

pub move_adjacency-requires-in-Incoming : goal.move_adjacency-requires-in-Incoming
move_adjacency-requires-in-Incoming c =
    rw (c.tombstoned-some_removed.ensures, c.layout-layout.ensures) (movable (told_movable c.in-Incoming.is c.requires))

pub returns-in-Outgoing-clause-moved : goal.returns-in-Outgoing-clause-moved
returns-in-Outgoing-clause-moved c =
    let told = c.in-Outgoing.is in
    rw told (moving Outgoing (told_movable told c.requires) _ (rw c.layout-layout.ensures at c.move_adjacency.ensures) c.move_adjacency.auto.axis)

pub returns-in-Incoming-clause-moved : goal.returns-in-Incoming-clause-moved
returns-in-Incoming-clause-moved c =
    let told = c.in-Incoming.is in
    rw told (moving Incoming (told_movable told c.requires) _ (rw c.layout-layout.ensures at c.move_adjacency-in-Incoming.ensures) c.move_adjacency-in-Incoming.auto.axis)
