-- `runs::overlay::drain` meets its contract. The invariant is `Draining`; the measure is the length of what is to come of the ring.
use Rattle.std.specs.Prelude.{◌<◌}
use Rattle.plain.specs.Library.{arith}
use Rattle.runs.proofs.Draining.{drain_readable, drain_none, drain_start, drain_below, drain_keep, drain_more, drain_less, drain_last}
use Rattle.runs.proofs.overlay.drain.Goals.{At-loop-next}
use Rattle.runs.proofs.overlay.drain.Goals as goal

-- the present entry is an edge
next_in : (c : At-loop-next) → c.loop-next.next < c.args.layout.edge_capacity
next_in c = omega (arith, drain_below c.requires c.loop-next.invariant, c.requires.ready.editable.edges_within)

pub ring_ends-requires : goal.ring_ends-requires
ring_ends-requires c = drain_readable c.requires

pub returns-in_default : goal.returns-in_default
returns-in_default c = drain_none c.requires c.in_default.ensures

pub loop-next-init : goal.loop-next-init
loop-next-init c = drain_start c.requires c.in-Some.ensures.1 c.in-Some.ensures.0

pub overflow_cast-next : goal.overflow_cast-next
overflow_cast-next c = omega (arith, next_in (goal.at.overflow_cast-next c).At-loop-next)

pub overflow_add-next : goal.overflow_add-next
overflow_add-next c = omega (arith, next_in (goal.at.overflow_add-next c).At-loop-next)

pub offset_bounds-axis-layout : goal.offset_bounds-axis-layout
offset_bounds-axis-layout c = omega (arith, next_in (goal.at.offset_bounds-axis-layout c).At-loop-next)

pub bounds-axis-layout : goal.bounds-axis-layout
bounds-axis-layout c = omega (arith, next_in (goal.at.bounds-axis-layout c).At-loop-next, c.loop-next.invariant.long)

pub keep_one-requires : goal.keep_one-requires
keep_one-requires c = drain_keep c.requires c.loop-next.invariant

pub loop-next-smaller : goal.loop-next-smaller
loop-next-smaller c =
    drain_less c.requires c.loop-next.invariant c.loop-next-test.true

pub loop-next-preserved : goal.loop-next-preserved
loop-next-preserved c =
    drain_more c.requires c.loop-next.invariant c.loop-next-test.true c.keep_one.auto.axis c.keep_one.ensures

pub keep_one-requires-2 : goal.keep_one-requires-2
keep_one-requires-2 c = drain_keep c.requires c.loop-next.invariant

pub returns : goal.returns
returns c =
    drain_last c.requires c.loop-next.invariant c.loop-next-test.false c.keep_one-2.auto.axis c.keep_one-2.ensures c.detach.auto.axis c.detach.ensures
