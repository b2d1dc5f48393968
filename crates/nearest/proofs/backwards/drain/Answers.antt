-- `nearest::backwards::drain` meets its contract. The loop's invariant is `Draining`; the measure is how many lots can still be taken.
use Rattle.plain.specs.Library.{inl, inr, arith}
use Rattle.nearest.proofs.Draining.{draining_start, expand_lot, draining_on}
use Rattle.nearest.proofs.backwards.drain.Goals as goal

pub loop-head-init : goal.loop-head-init
loop-head-init c = draining_start c.requires

pub returns-then-work-first-ne0 : goal.returns-then-work-first-ne0
returns-then-work-first-ne0 c =
    record { head = c.loop-head.head; tail = c.loop-head.tail; kept = c.loop-head.invariant; over = inl c.if-work-first-ne0.true }

pub expand_lot-tail-requires : goal.expand_lot-tail-requires
expand_lot-tail-requires c =
    expand_lot c.requires c.loop-head.invariant c.loop-head-test.true

pub loop-head-preserved : goal.loop-head-preserved
loop-head-preserved c =
    draining_on c.requires c.loop-head.invariant c.loop-head-test.true c.expand_lot-tail.ensures

pub shape_of-work : goal.shape_of-work
shape_of-work c = c.loop-head.invariant.same_length

pub returns : goal.returns
returns c =
    record { head = c.loop-head.head; tail = c.loop-head.tail; kept = c.loop-head.invariant; over = inr (omega arith) }
