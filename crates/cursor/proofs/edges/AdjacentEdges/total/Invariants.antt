-- `total` of the listed edges: the loop's invariant is `Summing`.
use Rattle.plain.specs.Lists.{keep}
use Rattle.cursor.specs.Cursor.{word, listed_by}
use Rattle.cursor.proofs.Summing.{Summing}
use Rattle.cursor.proofs.edges.AdjacentEdges.total.Given as goal

abbrev pub invariant-loop-edge : goal.invariant-loop-edge
invariant-loop-edge l =
    Summing (word l.lows) (word l.highs) l.fn.self (keep (listed_by l.listed) l.edge-iterator) l.sums.low l.sums.high
