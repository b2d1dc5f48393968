-- `nearest::find_chain` meets its contract: a law for each way out.
use Rattle.plain.proofs.Laws.Exits.{refused_exit}
use Rattle.nearest.proofs.Answering.{found_refused, found_short, way_forward, found_done}
use Rattle.nearest.proofs.find_chain.Goals as goal

pub returns-in_err-left : goal.returns-in_err-left
returns-in_err-left c = rw (refused_exit _ c.from_residual.ensures.1) (found_refused c.requires _ c.search.ensures c.in_err-left.ensures.value)

pub returns-in_err-need : goal.returns-in_err-need
returns-in_err-need c =
    let lacks = c.in_err-need.ensures in
    rw (refused_exit _ c.from_residual-in_err-need.ensures.1, lacks.1) (found_short c.requires (rw c.in_ok-left.ensures.ok_part at c.search.ensures) lacks.0)

pub write_way-requires : goal.write_way-requires
write_way-requires c = way_forward c.requires (rw c.in_ok-left.ensures.ok_part at c.search.ensures) c.in_ok-need.ensures

pub returns : goal.returns
returns c = found_done c.requires (rw c.in_ok-left.ensures.ok_part at c.search.ensures) c.in_ok-need.ensures c.write_way.ensures
