-- `runs::find_before` meets its contract. The invariant is `Searching`.
use Rattle.std.specs.Prelude.{◌+◌, ◌-◌, ◌<◌, ◌≡◌}
use Rattle.plain.specs.Library.{arith}
use Rattle.runs.proofs.Searching.{search_start, search_below, search_found, search_more, search_none}
use Rattle.runs.proofs.find_before.Goals.{At-loop}
use Rattle.runs.proofs.find_before.Goals as goal

-- the present entry is an edge
before_in : (c : At-loop) → c.loop.before < c.args.layout.edge_capacity
before_in c = search_below c.args.entry c.requires c.loop.invariant

pub loop-init : goal.loop-init
loop-init c = search_start _ c.requires

pub bounds-axis-layout : goal.bounds-axis-layout
bounds-axis-layout c = omega (arith, before_in (goal.at.bounds-axis-layout c).At-loop, c.requires.room)

pub returns-then-next-entry : goal.returns-then-next-entry
returns-then-next-entry c = (
  search_found _ c.requires c.loop.invariant (omega (arith, c.loop-test.true)) c.if-next-entry.true,
  λ none. omega (arith, before_in (goal.at.returns-then-next-entry c).At-loop, c.requires.edges_within),
)

pub loop-preserved : goal.loop-preserved
loop-preserved c =
    let less : c.args.length - (c.loop.counter + 1) ≡ c.args.length - c.loop.counter - 1 = omega arith in
    rw less (search_more _ c.requires c.loop.invariant (omega (arith, c.loop-test.true)) c.if-next-entry.false)

pub returns : goal.returns
returns c = search_none _ c.requires c.loop.invariant (omega (arith, c.loop-test.false, c.requires.full))
