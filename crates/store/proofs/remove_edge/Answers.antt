-- `store::remove_edge` meets its contract: its two ways are `removing_live` and `removing_none`.
use Rattle.store.proofs.Editing.{edge_counted, removing_live}
use Rattle.store.proofs.remove_edge.Goals as goal

pub overflow_sub-store : goal.overflow_sub-store
overflow_sub-store c =
    edge_counted c.requires c.args.edge c.clear.ensures c.if-not-clear.false

pub returns-clause-removed : goal.returns-clause-removed
returns-clause-removed c =
    removing_live c.requires c.args.edge c.clear.ensures c.if-not-clear.false c.clear.auto.words
