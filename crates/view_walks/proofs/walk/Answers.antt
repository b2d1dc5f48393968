-- `view_walks::walk` meets its contract: refused as its list is, or written.
use Rattle.plain.proofs.Laws.Exits.{refused_exit}
use Rattle.view_walks.proofs.Walking.{fits_checked, walk_refused, walk_done}
use Rattle.view_walks.proofs.walk.Goals as goal

pub returns-in_err-entries : goal.returns-in_err-entries
returns-in_err-entries c = rw (refused_exit _ c.from_residual.ensures.1) (walk_refused c.in_err-entries.ensures)

pub edges-requires-clause-checked : goal.edges-requires-clause-checked
edges-requires-clause-checked c = fits_checked c.in_ok-entries.ensures

pub returns : goal.returns
returns c = walk_done c.in_ok-entries.ensures (rw c.edges.ensures at c.write.ensures.wrote)
