-- `adjacency::walk::degree` meets its contract: with removed edges the walk is counted, and without the run or base part and the ring are.
use Rattle.plain.specs.Library.{sym, ◌∙◌, arith}
use Rattle.cursor.specs.Laws.Cursor.{ring_ready}
use Rattle.adjacency.specs.Laws.Walk.{given_degree, walk_short}
use Rattle.adjacency.proofs.walk.degree.Goals as goal

pub ring_count-requires : goal.ring_count-requires
ring_count-requires c = rw c.next_of.ensures (ring_ready c.start-start.ensures.ready)

pub returns : goal.returns
returns c =
    given_degree c.requires c.start-start.ensures (sym c.tombstoned.ensures ∙ c.if-tombstoned.false)
    c.next_of.ensures c.part_count.ensures c.ring_count.ensures

pub overflow_add-result : goal.overflow_add-result
overflow_add-result c = omega (arith, returns c, walk_short c.requires c.start-start.ensures)
