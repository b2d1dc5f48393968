-- `store::redirect` meets its contract: in either direction `redirecting`.
use Rattle.plain.specs.declared.TraversalDirection.TheVariants.{Outgoing, Incoming}
use Rattle.store.proofs.Relocating.{redirectable, redirecting}
use Rattle.store.proofs.redirect.Goals as goal

pub redirect-requires : goal.redirect-requires
redirect-requires c =
    rw (c.tombstoned-some_removed.ensures, c.layout-layout.ensures) (redirectable c.requires Outgoing)

pub redirect-requires-in-Incoming : goal.redirect-requires-in-Incoming
redirect-requires-in-Incoming c =
    rw (c.tombstoned-some_removed.ensures, c.layout-layout.ensures) (redirectable c.requires Incoming)

pub returns-in-Outgoing-clause-redirected : goal.returns-in-Outgoing-clause-redirected
returns-in-Outgoing-clause-redirected c =
    let told = c.in-Outgoing.is in
    rw told (redirecting c.requires Outgoing _ (rw c.layout-layout.ensures at c.redirect.ensures) c.redirect.auto.axis)

pub returns-in-Incoming-clause-redirected : goal.returns-in-Incoming-clause-redirected
returns-in-Incoming-clause-redirected c =
    let told = c.in-Incoming.is in
    rw told (redirecting c.requires Incoming _ (rw c.layout-layout.ensures at c.redirect-in-Incoming.ensures) c.redirect-in-Incoming.auto.axis)
