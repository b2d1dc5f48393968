-- `view_walks::neighbors` meets its contract: refused as its list is, or its far ends written.
use Rattle.plain.proofs.Laws.Exits.{refused_exit}
use Rattle.view_walks.proofs.Walking.{fits_checked, far_within, far_ends_are, neighbors_refused, neighbors_done}
use Rattle.view_walks.proofs.neighbors.Goals as goal

pub returns-in_err-entries : goal.returns-in_err-entries
returns-in_err-entries c = rw (refused_exit _ c.from_residual.ensures.1) (neighbors_refused c.in_err-entries.ensures)

pub edges-requires-clause-checked : goal.edges-requires-clause-checked
edges-requires-clause-checked c = fits_checked c.in_ok-entries.ensures

pub write_ends-requires-clause-within : goal.write_ends-requires-clause-within
write_ends-requires-clause-within c = rw (c.edges.ensures, c.axis.ensures, c.opposite.ensures) (far_within c.in_ok-entries.ensures)

pub returns : goal.returns
returns c =
    neighbors_done c.in_ok-entries.ensures
    (rw (c.edges.ensures, c.axis.ensures, c.opposite.ensures, far_ends_are c.in_ok-entries.ensures) at c.write_ends.ensures)
