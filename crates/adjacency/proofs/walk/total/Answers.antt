-- `adjacency::walk::total` meets its contract: the edges of a walk are few, and have weights each.
use Rattle.adjacency.specs.Laws.Walk.{walk_within}
use Rattle.adjacency.proofs.walk.total.Goals as goal

pub total-requires : goal.total-requires
total-requires c =
    let pre = c.requires in
    let within = walk_within pre.walkable c.args.live in
    rw c.edges.ensures (record { few = pre.few; in_lows = within _ pre.lows_long; in_highs = within _ pre.highs_long })
