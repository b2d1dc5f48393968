-- `adjacency::walk::find` meets its contract: the entries have an end each, and the listed ones are the walk.
use Rattle.adjacency.specs.Laws.Walk.{entries_within, listed_walk}
use Rattle.adjacency.proofs.walk.find.Goals as goal

pub find_end-requires : goal.find_end-requires
find_end-requires c =
    rw c.entries.ensures (entries_within c.requires.walkable.readable c.args.live _ c.requires.edge_capacity_in_bounds)

pub returns-clause-first : goal.returns-clause-first
returns-clause-first c = rw (c.listed_edges.ensures, c.entries.ensures, listed_walk c.requires.walkable c.args.live) at c.find_end.ensures.first

pub returns-clause-among : goal.returns-clause-among
returns-clause-among c = rw (c.listed_edges.ensures, c.entries.ensures, listed_walk c.requires.walkable c.args.live) at c.find_end.ensures.among
