-- `write_ends` of the listed edges: the loop's invariant is `Writing`, with the end of each edge.
use Rattle.plain.specs.Lists.{keep}
use Rattle.cursor.specs.Cursor.{word, listed_by}
use Rattle.cursor.proofs.Writing.{Writing}
use Rattle.cursor.proofs.edges.AdjacentEdges.write_ends.Given as goal

abbrev pub invariant-loop-edge : goal.invariant-loop-edge
invariant-loop-edge l =
    Writing (word l.ends) l.fn.self (keep (listed_by l.listed) l.edge-iterator) l.fn.out l.out l.n
