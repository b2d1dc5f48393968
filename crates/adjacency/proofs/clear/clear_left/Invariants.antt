-- `adjacency::clear::clear_left` meets its contract. The loop's invariant is `Clearing`.
use Rattle.adjacency.proofs.Clearing.{Clearing}
use Rattle.adjacency.proofs.clear.clear_left.Given as goal

abbrev pub invariant-loop-edge : goal.invariant-loop-edge
invariant-loop-edge l = Clearing l.fn.entries l.yielded l.edge-iterator l.slots l.initial.live_edges l.live_edges l.n
