-- `relocate::moves::hand_over` meets its contract: the stores of its ways are those of `hand_first` and `hand_more`.
use Rattle.std.specs.Prelude.{◌<◌, ◌≢◌}
use Rattle.plain.specs.Library.{length-set, arith}
use Rattle.shape.specs.Columns.{tail_at, count_at}
use Rattle.relocate.proofs.Handing.{hand_short, hand_last, hand_none, hand_first, hand_more}
use Rattle.relocate.proofs.moves.hand_over.Goals.{Else-moved-eq0, Else-present-eq0}
use Rattle.relocate.proofs.moves.hand_over.Goals as goal

-- there are entries to hand over
some_moved : (c : Else-moved-eq0) → let a = c.args in count_at a.axis.now a.layout.edge_capacity a.layout.node_capacity a.old ≢ 0
some_moved c = c.if-moved-eq0.false

-- the last entry of the second run is an edge
last_in : (c : Else-present-eq0) → let a = c.args in tail_at a.axis.now a.layout.edge_capacity a.layout.node_capacity a.new < a.layout.edge_capacity
last_in c = hand_last c.requires c.if-present-eq0.false

pub returns-then-moved-eq0 : goal.returns-then-moved-eq0
returns-then-moved-eq0 c = hand_none c.requires c.if-moved-eq0.true

pub overflow_add-axis : goal.overflow_add-axis
overflow_add-axis c = omega (arith, hand_short c.requires, c.requires.editable.sized.edges_within)

pub returns-then-present-eq0 : goal.returns-then-present-eq0
returns-then-present-eq0 c = hand_first c.requires (some_moved (goal.at.returns-then-present-eq0 c).Else-moved-eq0) c.if-present-eq0.true

pub bounds-axis-layout : goal.bounds-axis-layout
bounds-axis-layout c = simp length-set (omega (arith, last_in (goal.at.bounds-axis-layout c).Else-present-eq0))

pub returns : goal.returns
returns c = hand_more c.requires (some_moved (goal.at.returns c).Else-moved-eq0) c.if-present-eq0.false
