-- `validate::flat::count_places` meets its contract. The loop's invariant: the places of the nodes before x are counted. The measure is the number of nodes left.
use Rattle.validate.proofs.Flattening.{Counted}
use Rattle.validate.proofs.flat.count_places.Given as goal

abbrev pub invariant-loop-x : goal.invariant-loop-x
invariant-loop-x l = Counted l.axis l.fn.layout.edge_capacity l.fn.layout.node_capacity l.base l.x l.total
