-- `adjacency::walk::entries` meets its contract: what the started cursor has to read are the entries.
use Rattle.plain.specs.Library.{◌∙◌}
use Rattle.adjacency.specs.Laws.Walk.{started_left}
use Rattle.adjacency.proofs.walk.entries.Goals as goal

pub returns : goal.returns
returns c =
    let columns = c.of-columns.ensures in
    c.of.ensures ∙ rw (columns.entries_are, columns.next_are) (started_left c.start-start.ensures)
