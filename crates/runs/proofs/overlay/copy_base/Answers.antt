-- `runs::overlay::copy_base` meets its contract. The invariant is `Copying`.
use Rattle.runs.proofs.Starting.{copy_start, copy_keep, copy_more, copy_end}
use Rattle.runs.proofs.overlay.copy_base.Goals as goal

pub loop-at-init : goal.loop-at-init
loop-at-init c = copy_start c.requires c.base_bounds-base.ensures

pub keep_one-requires : goal.keep_one-requires
keep_one-requires c = copy_keep c.requires c.loop-at-test.true c.loop-at.invariant

pub loop-at-preserved : goal.loop-at-preserved
loop-at-preserved c =
    copy_more c.requires c.loop-at-test.true c.loop-at.invariant c.keep_one.auto.axis c.keep_one.ensures

pub returns : goal.returns
returns c = copy_end c.requires c.loop-at-test.false c.loop-at.invariant
