-- `adjacency::clear::clear_left` meets its contract. The loop's invariant is `Clearing`.
use Rattle.std.proofs.Common.{add-zero}
use Rattle.plain.specs.Library.{arith}
use Rattle.adjacency.specs.Laws.Clear.{retired_then}
use Rattle.adjacency.proofs.Clearing.{clearing_start, clearing_on, retired_few}
use Rattle.adjacency.proofs.clear.clear_left.Goals as goal

pub loop-edge-init : goal.loop-edge-init
loop-edge-init c = rw c.into_iter-edge-iterator.ensures.into_iter_gives (clearing_start c.args.entries c.args.slots c.args.live_edges.now)

pub overflow_add-n : goal.overflow_add-n
overflow_add-n c =
    let gone = rw c.if-retire.true at c.retire.ensures in
    omega (arith, retired_few (retired_then c.loop-edge.invariant.retired gone), c.requires.few)

pub loop-edge-preserved-then-retire : goal.loop-edge-preserved-then-retire
loop-edge-preserved-then-retire c = clearing_on c.loop-edge.invariant c.in-Some.ensures.steps (rw c.if-retire.true at c.retire.ensures)

pub loop-edge-preserved : goal.loop-edge-preserved
loop-edge-preserved c =
    let next = clearing_on c.loop-edge.invariant c.in-Some.ensures.steps (rw c.if-retire.false at c.retire.ensures) in
    rw add-zero at next
