-- `runs::find_before` meets its contract. The invariant is `Searching`.
use Rattle.std.specs.Prelude.{◌-◌}
use Rattle.runs.proofs.Searching.{Searching}
use Rattle.runs.proofs.find_before.Given as goal

abbrev pub invariant-loop : goal.invariant-loop
invariant-loop l = Searching l.axis l.layout.edge_capacity l.first l.length l.entry l.before (l.length - l.counter)
