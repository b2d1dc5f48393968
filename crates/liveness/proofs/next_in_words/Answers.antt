-- `liveness::next_in_words` meets its contract: over words of 0 the next live slot stays the same, and in the first other word it is at the lowest set bit.
use Rattle.plain.specs.Library.{sym, ◌∙◌, arith}
use Rattle.liveness.specs.Laws.Flags.{length_flags}
use Rattle.liveness.proofs.NextWords.{next_end, next_word_zero, next_word_here, short_next, short_below}
use Rattle.liveness.proofs.next_in_words.Goals as goal

pub returns-then-word-ne0-clause-next : goal.returns-then-word-ne0-clause-next
returns-then-word-ne0-clause-next c =
    let i = c.loop-i.i in
    short_next _ _ c.then_some.ensures
    ∙ sym (c.loop-i.invariant ∙ next_word_here _ _ i (omega arith) (c.type_inv.words i).fits c.if-word-ne0.true)

pub returns-then-word-ne0-clause-below : goal.returns-then-word-ne0-clause-below
returns-then-word-ne0-clause-below c = short_below _ _ c.then_some.ensures

pub loop-i-preserved : goal.loop-i-preserved
loop-i-preserved c = c.loop-i.invariant ∙ next_word_zero _ _ _ (omega arith)

pub returns-clause-next : goal.returns-clause-next
returns-clause-next c = sym (c.loop-i.invariant ∙ next_end _ _ (rw length_flags (omega arith)) ∙ length_flags _ _)

pub returns-else-word-ne0-clause-next : goal.returns-else-word-ne0-clause-next
returns-else-word-ne0-clause-next c =
    sym (c.loop-i.invariant ∙ next_word_zero _ _ _ (omega arith) ∙ next_end _ _ (rw length_flags (omega arith)) ∙ length_flags _ _)
