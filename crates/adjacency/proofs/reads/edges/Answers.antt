-- `adjacency::reads::edges` meets its contract: the list of a node is its walk.
use Rattle.plain.specs.Library.{sym, ◌∙◌}
use Rattle.adjacency.specs.Laws.StoreWalks.{list_is_walk}
use Rattle.adjacency.proofs.reads.edges.Goals as goal

pub returns : goal.returns
returns c =
    (rw (c.incidence-side.ensures.axis, c.incidence-side.ensures.layout, c.incidence-side.ensures.live_edges, c.is_node_live.ensures) at c.edges.ensures) ∙ sym (list_is_walk _ c.args.direction c.args.node c.requires.node_lt_bound)
