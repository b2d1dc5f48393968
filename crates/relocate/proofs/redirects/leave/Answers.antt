-- `relocate::redirects::leave` meets its contract, from what `prepare` and `take_out` ensure.
use Rattle.relocate.proofs.Redirecting.{leave_out, leave_end}
use Rattle.relocate.proofs.redirects.leave.Goals as goal

pub take_out-requires : goal.take_out-requires
take_out-requires c =
    leave_out c.requires c.prepare.ensures

pub returns : goal.returns
returns c =
    leave_end c.requires c.prepare.ensures _ c.take_out.ensures
