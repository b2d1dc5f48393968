-- `liveness::next_live` meets its contract: none past the end, else in the rest of the slot's word, else in the words after it.
use Rattle.std.specs.Prelude.{◌/◌}
use Rattle.plain.specs.Library.{sym, ◌∙◌, arith}
use Rattle.liveness.specs.Laws.Flags.{length_flags}
use Rattle.liveness.proofs.NextWords.{next_end, next_word, next_zero, zeros_room, short_next, short_below}
use Rattle.liveness.proofs.next_live.Goals as goal

pub returns-then-slots-from-clause-next : goal.returns-then-slots-from-clause-next
returns-then-slots-from-clause-next c = sym (next_end _ _ (rw length_flags c.if-slots-from.true) ∙ length_flags _ _)

pub overflow_add-slot : goal.overflow_add-slot
overflow_add-slot c =
    let x = c.args.from in
    omega (arith, zeros_room _ _ (c.type_inv.words (x / 64)).fits c.if-word-ne0.true)

pub returns-then-word-ne0-clause-next : goal.returns-then-word-ne0-clause-next
returns-then-word-ne0-clause-next c =
    let x = c.args.from in
    short_next _ _ c.then_some.ensures ∙ sym (next_word _ _ x (omega arith) (c.type_inv.words (x / 64)).fits c.if-word-ne0.true)

pub returns-then-word-ne0-clause-below : goal.returns-then-word-ne0-clause-below
returns-then-word-ne0-clause-below c = short_below _ _ c.then_some.ensures

pub returns-clause-next : goal.returns-clause-next
returns-clause-next c = c.next_in_words.ensures.next ∙ sym (next_zero _ _ _ (omega arith))
