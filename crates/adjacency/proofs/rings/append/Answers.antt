-- `adjacency::rings::append` meets its contract: the stores of its two ways are those of `append_first` and `append_more`.
use Rattle.std.specs.Prelude.{◌<◌}
use Rattle.plain.specs.Library.{length-set, arith}
use Rattle.shape.specs.Columns.{last_at}
use Rattle.adjacency.proofs.Appending.{last_below, append_first, append_more}
use Rattle.adjacency.proofs.rings.append.Goals.{Else-last}
use Rattle.adjacency.proofs.rings.append.Goals as goal

-- the last entry of the ring is an edge
last_in : (c : Else-last) → let a = c.args in last_at a.axis.now a.layout.edge_capacity a.node < a.appended
last_in c = last_below c.requires c.if-last.false

pub returns-then-last : goal.returns-then-last
returns-then-last c = append_first c.requires c.if-last.true

pub bounds-axis-from : goal.bounds-axis-from
bounds-axis-from c = simp length-set (omega (arith, last_in (goal.at.bounds-axis-from c).Else-last))

pub bounds-axis-from-2 : goal.bounds-axis-from-2
bounds-axis-from-2 c = simp length-set (omega (arith, last_in (goal.at.bounds-axis-from-2 c).Else-last))

pub returns : goal.returns
returns c = append_more c.requires c.if-last.false
