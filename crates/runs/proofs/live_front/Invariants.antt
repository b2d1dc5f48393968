-- `runs::live_front` meets its contract. The invariant is `Scanning`.
use Rattle.std.specs.Prelude.{◌-◌}
use Rattle.runs.proofs.Scanning.{Scanning}
use Rattle.runs.proofs.live_front.Given as goal

abbrev pub invariant-loop-read : goal.invariant-loop-read
invariant-loop-read l = Scanning l.axis l.layout.edge_capacity l.layout.node_capacity l.node l.live l.bound l.last l.next (l.length - l.read)
