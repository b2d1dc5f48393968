-- `validate_words::rings::rings_climb` meets its contract. The loop's invariant: the edges of the delta before e climb, and the lasts among them are counted.
use Rattle.validate_words.proofs.Climbing.{Climbing}
use Rattle.validate_words.proofs.rings.rings_climb.Given as goal

abbrev pub invariant-loop-e : goal.invariant-loop-e
invariant-loop-e l = Climbing l.axis l.layout.edge_capacity l.base l.bound l.ends l.e l.lasts
