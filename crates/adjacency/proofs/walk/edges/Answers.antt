-- `adjacency::walk::edges` meets its contract: the listed ones of the entries are the walk.
use Rattle.plain.specs.Library.{◌∙◌}
use Rattle.adjacency.specs.Laws.Walk.{listed_walk}
use Rattle.adjacency.proofs.walk.edges.Goals as goal

pub returns : goal.returns
returns c = c.listed.ensures ∙ rw (c.listed_edges.ensures, c.entries.ensures) (listed_walk c.requires c.args.live)
