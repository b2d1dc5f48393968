-- `runs::append_live` meets its contract. The invariant is `Appending`.
use Rattle.std.specs.Prelude.{◌-◌}
use Rattle.runs.proofs.Sweeping.{Appending}
use Rattle.runs.proofs.append_live.Given as goal

abbrev pub invariant-loop : goal.invariant-loop
invariant-loop l =
    Appending l.initial.axis l.axis l.layout.edge_capacity l.layout.node_capacity l.layout.counts l.node l.live l.first l.length l.next (l.length - l.counter)
