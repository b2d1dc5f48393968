-- `runs::overlay::start_run` meets its contract: its stores are those of `start_copy`, and `copy_base` does the rest.
use Rattle.runs.proofs.Starting.{start_marked, start_copy, start_end}
use Rattle.runs.proofs.overlay.start_run.Goals as goal

pub returns-then-axis-mark-ne0 : goal.returns-then-axis-mark-ne0
returns-then-axis-mark-ne0 c = start_marked c.requires c.if-axis-mark-ne0.true

pub copy_base-requires : goal.copy_base-requires
copy_base-requires c = start_copy c.requires c.if-axis-mark-ne0.false

pub returns : goal.returns
returns c =
    start_end c.requires c.if-axis-mark-ne0.false c.copy_base.ensures
