-- `relocate::redirects::arrive` meets its contract, from what `prepare` and `push` ensure.
use Rattle.relocate.proofs.Redirecting.{arrive_push, arrive_end}
use Rattle.relocate.proofs.redirects.arrive.Goals as goal

pub push-requires : goal.push-requires
push-requires c =
    arrive_push c.requires c.prepare.ensures

pub returns : goal.returns
returns c =
    arrive_end c.requires c.prepare.ensures c.push.ensures
