-- `runs::append_live` meets its contract. The invariant is `Appending`.
use Rattle.std.specs.Prelude.{◌+◌, ◌-◌, ◌<◌, ◌≡◌}
use Rattle.plain.specs.Library.{arith}
use Rattle.runs.proofs.Sweeping.{append_start, append_below, append_keep, append_more, append_end}
use Rattle.runs.proofs.append_live.Goals.{In-loop}
use Rattle.runs.proofs.append_live.Goals as goal

-- some entries are left
some_left : (c : In-loop) → 0 < c.args.length - c.loop.counter
some_left c = omega (arith, c.loop-test.true)

-- the present entry is an edge
next_in : (c : In-loop) → c.loop.next < c.args.layout.edge_capacity
next_in c = omega (arith, append_below c.requires (some_left c) c.loop.invariant, c.requires.editable.edges_within)

pub loop-init : goal.loop-init
loop-init c = let all : c.args.length - 0 ≡ c.args.length = omega arith in rw all (append_start c.requires)

pub overflow_cast-next : goal.overflow_cast-next
overflow_cast-next c = omega (arith, next_in (goal.at.overflow_cast-next c).In-loop)

pub overflow_add-next : goal.overflow_add-next
overflow_add-next c = omega (arith, next_in (goal.at.overflow_add-next c).In-loop)

pub offset_bounds-axis-layout : goal.offset_bounds-axis-layout
offset_bounds-axis-layout c = omega (arith, next_in (goal.at.offset_bounds-axis-layout c).In-loop)

pub bounds-axis-layout : goal.bounds-axis-layout
bounds-axis-layout c = omega (arith, next_in (goal.at.bounds-axis-layout c).In-loop, c.loop.invariant.long)

pub keep_one-requires : goal.keep_one-requires
keep_one-requires c = append_keep c.requires (some_left (goal.at.keep_one-requires c).In-loop) c.loop.invariant

pub loop-preserved : goal.loop-preserved
loop-preserved c =
    let less : c.args.length - (c.loop.counter + 1) ≡ c.args.length - c.loop.counter - 1 = omega arith in
    rw less (append_more c.requires (some_left (goal.at.loop-preserved c).In-loop) c.loop.invariant c.keep_one.auto.axis c.keep_one.ensures)

pub returns : goal.returns
returns c = append_end c.requires (omega (arith, c.loop-test.false)) c.loop.invariant
