-- `find_end` of the entries meets its contract.
use Rattle.plain.specs.Library.{sym, ◌∙◌, eq-eqb, ne_eqb}
use Rattle.cursor.specs.Laws.Finding.{seek_in, seek_found, seek_among, seek_none, seek_skip, seek_on}
use Rattle.cursor.proofs.entries.Entries.find_end.Goals.{else-ends-edge-via-then-ends-edge+else-has, else-ends-edge-via-else-ends-edge}
use Rattle.cursor.proofs.entries.Entries.find_end.Goals as goal

pub bounds-ends-edge : goal.bounds-ends-edge
bounds-ends-edge c = c.requires c.in-Some.edge (seek_in c.loop-edge.invariant c.in-Some.ensures.steps)

pub returns-then-has-clause-first : goal.returns-then-has-clause-first
returns-then-has-clause-first c =
    sym (seek_found c.loop-edge.invariant c.in-Some.ensures.steps (eq-eqb _ _ c.if-ends-edge.true) (sym c.has.ensures ∙ c.if-has.true))

pub returns-then-has-clause-among : goal.returns-then-has-clause-among
returns-then-has-clause-among c = seek_among c.loop-edge.invariant c.in-Some.ensures.steps (sym c.has.ensures ∙ c.if-has.true)

pub loop-edge-preserved : goal.loop-edge-preserved
loop-edge-preserved c =
    elim c.else-ends-edge.branch [
      | else-ends-edge-via-then-ends-edge+else-has w ↦ seek_skip c.loop-edge.invariant c.in-Some.ensures.steps (sym w.has.ensures ∙ w.if-has.false)
      | else-ends-edge-via-else-ends-edge w ↦ seek_on c.loop-edge.invariant c.in-Some.ensures.steps (ne_eqb _ _ w.if-ends-edge.false)
    ]

pub returns-clause-first : goal.returns-clause-first
returns-clause-first c = sym (seek_none c.loop-edge.invariant c.in-None.ensures.steps.0)
