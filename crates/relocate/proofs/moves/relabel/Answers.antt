-- `relocate::moves::relabel` meets its contract. The invariant is `Relabelling`.
use Rattle.std.specs.Prelude.{◌+◌, ◌-◌, ◌*◌, ◌≤◌, ◌<◌, ◌≡◌, length}
use Rattle.plain.specs.Library.{arith}
use Rattle.shape.specs.Columns.{count_at}
use Rattle.relocate.proofs.Moving.{relabel_start, relabel_below, relabel_more, relabel_end}
use Rattle.relocate.proofs.moves.relabel.Goals.{In-loop}
use Rattle.relocate.proofs.moves.relabel.Goals as goal

-- some entries are left
some_left : (c : In-loop) → let a = c.args in 0 < count_at a.axis.now a.layout.edge_capacity a.layout.node_capacity a.node - c.loop.counter
some_left c = omega (arith, c.loop-test.true)

-- the present entry is an edge
next_in : (c : In-loop) → c.loop.next < c.args.layout.edge_capacity
next_in c = relabel_below c.requires c.args.new (some_left c) c.loop.invariant

-- and the axis has a word for its end and one for its link
long : (c : In-loop) → 4 * c.args.layout.edge_capacity ≤ length c.loop.axis
long c = omega (arith, c.loop.invariant.now.long, c.requires.editable.sized.room)

pub loop-init : goal.loop-init
loop-init c =
    let a = c.args in
    let n = count_at a.axis.now a.layout.edge_capacity a.layout.node_capacity a.node in
    let all : n - 0 ≡ n = omega arith in
    rw all (relabel_start c.requires _)

pub bounds-axis-layout-in-loop : goal.bounds-axis-layout-in-loop
bounds-axis-layout-in-loop c =
    omega (arith, next_in (goal.at.bounds-axis-layout-in-loop c).In-loop, long (goal.at.bounds-axis-layout-in-loop c).In-loop)

pub bounds-axis-slot : goal.bounds-axis-slot
bounds-axis-slot c = omega (arith, next_in (goal.at.bounds-axis-slot c).In-loop, long (goal.at.bounds-axis-slot c).In-loop)

pub loop-preserved : goal.loop-preserved
loop-preserved c =
    let a = c.args in
    let n = count_at a.axis.now a.layout.edge_capacity a.layout.node_capacity a.node in
    let less : n - (c.loop.counter + 1) ≡ n - c.loop.counter - 1 = omega arith in
    rw less (relabel_more c.requires _ (some_left (goal.at.loop-preserved c).In-loop) c.loop.invariant)

pub returns : goal.returns
returns c = relabel_end c.requires _ (omega (arith, c.loop-test.false)) c.loop.invariant
