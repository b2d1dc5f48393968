-- `adjacency::reads::degree` meets its contract: the list of a node is its walk.
use Rattle.adjacency.proofs.Summing.{degree_read}
use Rattle.adjacency.proofs.reads.degree.Goals as goal

pub returns : goal.returns
returns c =
    degree_read c.requires.checked c.args.direction c.args.node c.requires.node_lt_bound c.is_node_live.ensures
    (rw (c.incidence.ensures.axis, c.incidence.ensures.layout, c.incidence.ensures.live_edges) at c.degree.ensures)
