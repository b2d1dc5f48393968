-- `runs::sweep` meets its contract, from what `live_front`, `shorten` and `append_live` ensure.
use Rattle.runs.proofs.Sweeping.{sweep_none, sweep_same, sweep_append, sweep_done}
use Rattle.runs.proofs.sweep.Goals as goal

pub returns-then-not-tombstoned : goal.returns-then-not-tombstoned
returns-then-not-tombstoned c = sweep_none c.requires c.if-not-tombstoned.true

pub returns-in_default : goal.returns-in_default
returns-in_default c = sweep_same c.requires c.in_default.ensures

pub append_live-requires : goal.append_live-requires
append_live-requires c = sweep_append c.requires c.in-Some.ensures c.shorten.ensures

pub returns : goal.returns
returns c = sweep_done c.requires c.in-Some.ensures c.shorten.ensures c.append_live.ensures
