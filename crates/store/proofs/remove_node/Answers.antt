-- `store::remove_node` meets its contract: its two ways are `clearing_live` and `clearing_none`.
use Rattle.std.specs.Prelude.{refl}
use Rattle.plain.specs.Library.{arith}
use Rattle.plain.specs.declared.TraversalDirection.TheVariants.{Outgoing, Incoming}
use Rattle.store.proofs.Clearing.{node_counted, node_clearable, edges_few, clearing_live}
use Rattle.store.proofs.remove_node.Goals as goal

pub clear_adjacency-out-requires : goal.clear_adjacency-out-requires
clear_adjacency-out-requires c =
    rw c.layout-layout.ensures (node_clearable c.requires c.args.node c.clear.ensures c.if-not-clear.false Outgoing refl)

pub clear_adjacency-back-requires : goal.clear_adjacency-back-requires
clear_adjacency-back-requires c =
    rw c.layout-layout.ensures (node_clearable c.requires c.args.node c.clear.ensures c.if-not-clear.false Incoming (rw c.layout-layout.ensures at c.clear_adjacency-out.ensures).long)

pub overflow_sub-store : goal.overflow_sub-store
overflow_sub-store c =
    node_counted c.requires c.args.node c.clear.ensures c.if-not-clear.false

pub overflow_add-store : goal.overflow_add-store
overflow_add-store c =
    omega (
      arith,
      edges_few c.requires c.args.node c.clear.ensures c.if-not-clear.false (rw c.layout-layout.ensures at c.clear_adjacency-out.ensures) (rw c.layout-layout.ensures at c.clear_adjacency-back.ensures),
    )

pub returns-clause-removed : goal.returns-clause-removed
returns-clause-removed c =
    (clearing_live c.requires c.args.node c.clear.ensures c.if-not-clear.false (rw c.layout-layout.ensures at c.clear_adjacency-out.ensures) (rw c.layout-layout.ensures at c.clear_adjacency-back.ensures)
    c.clear.auto.words)
