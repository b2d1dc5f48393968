-- `next` of the entries meets its contract: it is a step.
use Rattle.cursor.specs.Laws.Cursor.{turn}
use Rattle.cursor.proofs.Going.{goes_on}
use Rattle.plain.specs.Library.{sym}
use Rattle.cursor.proofs.entries.EntriesIterator.next.Goals as goal

pub invariant_of-self : goal.invariant_of-self
invariant_of-self c = (turn c.self.invariant c.advance.ensures).ready

pub returns-clause-steps : goal.returns-clause-steps
returns-clause-steps c = rw (sym c.self.view_is) (turn c.self.invariant c.advance.ensures).left

pub returns-clause-goes : goal.returns-clause-goes
returns-clause-goes c = goes_on (λ _. tt) c.advance.result (rw (sym c.self.view_is) (turn c.self.invariant c.advance.ensures).left)
