-- `validate_lists::walks::walk_right` meets its contract: the edges of a walk are below the bound.
use Rattle.plain.specs.Library.{arith}
use Rattle.adjacency.specs.Laws.Walk.{walk_below}
use Rattle.validate_lists.proofs.walks.walk_right.Goals as goal

pub list_right-requires : goal.list_right-requires
list_right-requires c =
    let w = c.requires.walkable in
    let r = w.readable in
    rw c.edges-edges.ensures (record {
      ends_there = λ e m. omega (arith, walk_below w c.args.live e m, r.edges.bound_within, r.sized.room);
      marks_there = λ e m. omega (arith, walk_below w c.args.live e m, r.edges.bound_within, r.sized.edges_within, c.requires.marks_long);
    })
