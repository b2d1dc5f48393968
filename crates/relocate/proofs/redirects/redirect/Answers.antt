-- `relocate::redirects::redirect` meets its contract, from what `leave` and `arrive` ensure; its store is that of `redirect_done`.
use Rattle.relocate.proofs.Redirecting.{redirect_arrive, redirect_done}
use Rattle.relocate.proofs.redirects.redirect.Goals as goal

pub arrive-requires : goal.arrive-requires
arrive-requires c =
    redirect_arrive c.requires c.if-old-new.false c.leave.ensures

pub returns : goal.returns
returns c =
    redirect_done c.requires c.if-old-new.false c.leave.ensures c.arrive.ensures
