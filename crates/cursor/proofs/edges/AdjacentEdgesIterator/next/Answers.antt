-- `next` of the listed edges meets its contract: the entry that is listed is the first of those left.
use Rattle.plain.specs.Library.{sym, rules}
use Rattle.cursor.specs.Cursor.{listed_by}
use Rattle.cursor.proofs.Going.{goes_on, found_first}
use Rattle.cursor.proofs.edges.AdjacentEdgesIterator.next.Goals as goal

pub returns-clause-steps : goal.returns-clause-steps
returns-clause-steps c =
    let ran = c.find.ensures.ran in
    rw (sym c.self.view_is)
    (found_first (λ l. l) _ (listed_by c.self.inside.listed) (λ e b g h. search rules) ran.0 _ _ _ _ ran.1 ran.2.1 ran.2.2 ran.3 ran.4)

pub returns-clause-goes : goal.returns-clause-goes
returns-clause-goes c = goes_on (λ _. tt) _ (returns-clause-steps c)
