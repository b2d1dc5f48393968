-- `relocate::moves::relabel` meets its contract. The invariant is `Relabelling`.
use Rattle.std.specs.Prelude.{◌-◌}
use Rattle.relocate.proofs.Moving.{Relabelling}
use Rattle.relocate.proofs.moves.relabel.Given as goal

abbrev pub invariant-loop : goal.invariant-loop
invariant-loop l = Relabelling l.initial.axis l.axis l.layout.edge_capacity l.layout.node_capacity l.node l.new (l.length - l.counter) l.next
