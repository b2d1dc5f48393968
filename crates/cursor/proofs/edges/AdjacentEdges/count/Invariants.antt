-- `count` of the listed edges: those counted and those left are all.
use Rattle.std.specs.Prelude.{◌+◌, ◌≡◌, length}
use Rattle.plain.specs.Lists.{keep}
use Rattle.cursor.specs.Cursor.{listed_by}
use Rattle.cursor.proofs.edges.AdjacentEdges.count.Given as goal

abbrev pub invariant-loop-edge : goal.invariant-loop-edge
invariant-loop-edge l =
    l.count + length (keep (listed_by l.listed) l.edge-iterator) ≡ length l.fn.self
