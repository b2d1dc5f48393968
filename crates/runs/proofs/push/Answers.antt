-- `runs::push` meets its contract: the stores of its two ways are those of `push_first` and `push_more`.
use Rattle.std.specs.Prelude.{◌<◌}
use Rattle.plain.specs.Library.{length-set, arith}
use Rattle.shape.specs.Columns.{tail_at}
use Rattle.runs.specs.Laws.Pushing.{push_short, push_last, push_first, push_more}
use Rattle.runs.proofs.push.Goals.{Else-length-eq0}
use Rattle.runs.proofs.push.Goals as goal

-- the last entry of a run that is not empty is an edge
last_in : (c : Else-length-eq0) → let a = c.args in tail_at a.axis.now a.layout.edge_capacity a.layout.node_capacity a.node < a.layout.edge_capacity
last_in c = push_last c.requires c.if-length-eq0.false

pub overflow_add-axis : goal.overflow_add-axis
overflow_add-axis c = omega (arith, push_short c.requires)

pub returns-then-length-eq0 : goal.returns-then-length-eq0
returns-then-length-eq0 c = push_first c.requires c.if-length-eq0.true

pub bounds-axis-layout : goal.bounds-axis-layout
bounds-axis-layout c = simp length-set (omega (arith, last_in (goal.at.bounds-axis-layout c).Else-length-eq0))

pub returns : goal.returns
returns c = push_more c.requires c.if-length-eq0.false
