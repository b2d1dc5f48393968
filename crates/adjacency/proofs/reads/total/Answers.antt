-- `adjacency::reads::total` meets its contract: the list of a node is its walk.
use Rattle.adjacency.proofs.Summing.{checked_summable, total_read}
use Rattle.adjacency.proofs.reads.total.Goals as goal

pub total-requires : goal.total-requires
total-requires c =
    rw (c.incidence.ensures.axis, c.incidence.ensures.layout, c.incidence.ensures.live_edges)
    (checked_summable c.requires.checked c.args.direction c.args.node c.requires.node_lt_bound c.is_node_live.ensures)

pub returns : goal.returns
returns c =
    total_read c.requires.checked c.args.direction c.args.node c.requires.node_lt_bound c.is_node_live.ensures
    (rw (c.incidence.ensures.axis, c.incidence.ensures.layout, c.incidence.ensures.live_edges) at c.total.ensures)
