-- `countable` of the entries meets its contract: what a cursor has still to read is short.
use Rattle.plain.specs.Library.{arith}
use Rattle.cursor.specs.Laws.Reading.{remaining_short}
use Rattle.cursor.proofs.entries.Entries.countable.Goals as goal

pub returns-clause-few : goal.returns-clause-few
returns-clause-few c = omega (arith, remaining_short c.self.invariant)
