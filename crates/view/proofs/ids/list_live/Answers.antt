-- `view::ids::list_live` meets its contract: a law for each way out.
use Rattle.plain.proofs.Laws.Exits.{refused_exit}
use Rattle.view.specs.Laws.Calls.{listed_short, listed_done}
use Rattle.view.proofs.Listing.{told_size}
use Rattle.view.proofs.ids.list_live.Goals as goal

pub returns-in_err-need : goal.returns-in_err-need
returns-in_err-need c =
    let short = c.in_err-need.ensures in
    rw (refused_exit _ c.from_residual.ensures.1, short.1) (listed_short (told_size c.requires) short.0)

pub returns : goal.returns
returns c = listed_done (told_size c.requires) c.in_ok-need.ensures c.write_live.ensures
