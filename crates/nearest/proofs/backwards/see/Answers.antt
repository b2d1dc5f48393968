-- `nearest::backwards::see` meets its contract.
use Rattle.plain.specs.Library.{length-set, arith}
use Rattle.nearest.proofs.Expanding.{see_new, see_old}
use Rattle.nearest.proofs.backwards.see.Goals as goal

pub overflow_add-end : goal.overflow_add-end
overflow_add-end c = let room = c.requires.room c.if-work-at-eq0.true in omega arith

pub offset_bounds-work-end : goal.offset_bounds-work-end
offset_bounds-work-end c = let room = c.requires.room c.if-work-at-eq0.true in omega arith

pub bounds-work-end : goal.bounds-work-end
bounds-work-end c = let room = c.requires.room c.if-work-at-eq0.true in simp length-set (omega arith)

pub overflow_add-result : goal.overflow_add-result
overflow_add-result c = let room = c.requires.room c.if-work-at-eq0.true in omega arith

pub returns-then-work-at-eq0 : goal.returns-then-work-at-eq0
returns-then-work-at-eq0 c = see_new _ _ _ _ _ c.if-work-at-eq0.true

pub returns : goal.returns
returns c = see_old _ _ _ _ _ c.if-work-at-eq0.false
