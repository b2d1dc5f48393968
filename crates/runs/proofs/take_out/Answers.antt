-- `runs::take_out` meets its contract, from what `find_before` and `unlink` ensure; where the entry is the first, the stores are those of `out_head`.
use Rattle.std.specs.Prelude.{◌<◌}
use Rattle.plain.specs.Library.{length-set, arith}
use Rattle.shape.specs.Columns.{first_at}
use Rattle.runs.proofs.Unlinking.{out_empty, out_first, out_searchable, out_none, out_some, out_head}
use Rattle.runs.proofs.take_out.Goals.{Else-length-eq0}
use Rattle.runs.proofs.take_out.Goals as goal

-- the first entry of a run that is not empty is an edge
first_in : (c : Else-length-eq0) → let a = c.args in first_at a.axis.now a.layout.edge_capacity a.layout.node_capacity a.node < a.layout.edge_capacity
first_in c = out_first c.requires c.args.entry c.if-length-eq0.false

pub returns-then-length-eq0 : goal.returns-then-length-eq0
returns-then-length-eq0 c = out_empty c.requires _ c.if-length-eq0.true

pub bounds-axis-after : goal.bounds-axis-after
bounds-axis-after c = simp length-set (omega (arith, first_in (goal.at.bounds-axis-after c).Else-length-eq0))

pub returns-then-first-entry : goal.returns-then-first-entry
returns-then-first-entry c = out_head c.requires _ c.if-length-eq0.false c.if-first-entry.true

pub find_before-requires : goal.find_before-requires
find_before-requires c = out_searchable c.requires c.args.entry c.if-length-eq0.false

pub unlink-requires : goal.unlink-requires
unlink-requires c = out_some c.requires _ c.in-Some.ensures.0 c.in-Some.ensures.1

pub returns-in_default : goal.returns-in_default
returns-in_default c = out_none c.requires _ c.if-length-eq0.false c.if-first-entry.false c.in_default.ensures
