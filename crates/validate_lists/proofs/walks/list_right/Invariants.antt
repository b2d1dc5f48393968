-- `validate_lists::walks::list_right` meets its contract. The loop's invariant: the edges that are left are still to be followed, those before are marked.
use Rattle.std.specs.Prelude.{eqb}
use Rattle.plain.specs.Lists.{keep}
use Rattle.shape.specs.Columns.{end_at}
use Rattle.cursor.specs.Cursor.{listed_by}
use Rattle.marks.specs.Laws.Following.{Following}
use Rattle.validate_lists.specs.Walks.{ListReadable}
use Rattle.validate_lists.proofs.walks.list_right.Given as goal

abbrev pub invariant-loop-edge : goal.invariant-loop-edge
invariant-loop-edge l =
    Following (λ e. eqb (end_at l.ends e) l.node) l.fn.edges l.initial.seen l.seen (keep (listed_by l.listed) l.edge-iterator)
    × ListReadable (keep (listed_by l.listed) l.edge-iterator) l.ends l.initial.seen
