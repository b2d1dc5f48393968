-- `runs::unlink` meets its contract: the stores of its two ways are those of `unlink_last` and `unlink_inner`.
use Rattle.plain.specs.Library.{length-set, arith}
use Rattle.runs.proofs.Unlinking.{unlink_full, unlink_entry, unlink_before, unlink_last, unlink_inner}
use Rattle.runs.proofs.unlink.Goals as goal

pub overflow_sub-axis : goal.overflow_sub-axis
overflow_sub-axis c = omega (arith, unlink_full c.requires)

pub bounds-axis-after : goal.bounds-axis-after
bounds-axis-after c = simp length-set (omega (arith, unlink_entry c.requires))

pub bounds-axis-at : goal.bounds-axis-at
bounds-axis-at c = simp length-set (omega (arith, unlink_before c.requires))

pub returns-then-axis-tail : goal.returns-then-axis-tail
returns-then-axis-tail c = unlink_last c.requires c.if-axis-tail.true

pub returns-else-axis-tail : goal.returns-else-axis-tail
returns-else-axis-tail c = unlink_inner c.requires c.if-axis-tail.false
