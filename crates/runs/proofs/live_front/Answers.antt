-- `runs::live_front` meets its contract. The invariant is `Scanning`.
use Rattle.std.specs.Prelude.{◌+◌, ◌-◌, ◌<◌, ◌≡◌}
use Rattle.plain.specs.Library.{sym, ◌∙◌, arith}
use Rattle.shape.specs.Columns.{count_at}
use Rattle.runs.proofs.Scanning.{scan_start, scan_below, scan_more, scan_sum, divided, scan_all}
use Rattle.runs.proofs.live_front.Goals.{In-loop-read}
use Rattle.runs.proofs.live_front.Goals as goal

-- some entries are left
some_left : (c : In-loop-read) → let a = c.args in 0 < count_at a.axis.now a.layout.edge_capacity a.layout.node_capacity a.node - c.loop-read.read
some_left c = omega (arith, c.loop-read-test.true)

-- the present entry is an edge
next_in : (c : In-loop-read) → c.loop-read.next < c.args.layout.edge_capacity
next_in c = omega (arith, scan_below c.requires (some_left c) c.loop-read.invariant, c.requires.editable.edges_within)

pub loop-read-init : goal.loop-read-init
loop-read-init c =
    let a = c.args in
    let n = count_at a.axis.now a.layout.edge_capacity a.layout.node_capacity a.node in
    let all : n - 0 ≡ n = omega arith in
    rw all (scan_start c.requires)

pub returns-then-not-is_live : goal.returns-then-not-is_live
returns-then-not-is_live c = divided c.requires c.loop-read.invariant _ (omega (arith, scan_sum c.requires c.loop-read.invariant, c.loop-read-test.true))

pub bounds-axis-layout-in-loop-read : goal.bounds-axis-layout-in-loop-read
bounds-axis-layout-in-loop-read c =
    omega (arith, next_in (goal.at.bounds-axis-layout-in-loop-read c).In-loop-read, c.requires.editable.sized.room)

pub loop-read-preserved : goal.loop-read-preserved
loop-read-preserved c =
    let a = c.args in
    let n = count_at a.axis.now a.layout.edge_capacity a.layout.node_capacity a.node in
    let less : n - (c.loop-read.read + 1) ≡ n - c.loop-read.read - 1 = omega arith in
    rw less (scan_more c.requires (some_left (goal.at.loop-read-preserved c).In-loop-read) c.loop-read.invariant (sym c.is_live.ensures ∙ c.if-not-is_live.false))

pub returns : goal.returns
returns c = scan_all c.requires c.loop-read.invariant (omega (arith, c.loop-read-test.false))
