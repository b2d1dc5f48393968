-- `image_check::check::lists_right` meets its contract. The loop's invariant: the entries from number i on decide, those before are marked.
use Rattle.std.specs.Prelude.{◌+◌, ◌*◌}
use Rattle.image_check.specs.Columns.{value}
use Rattle.image_check.proofs.Ordering.{Ordering}
use Rattle.image_check.proofs.check.lists_right.Given as goal

abbrev pub invariant-loop-i : goal.invariant-loop-i
invariant-loop-i l = Ordering l.ends.bytes.now (value l.ends) l.list l.v l.ends.edges l.seen l.last (l.list + l.v * l.i) l.i
