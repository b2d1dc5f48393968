-- `liveness::reset_all_live` meets its contract: the whole words are filled, those after them as they were, and then the word after them.
use Rattle.liveness.specs.Laws.Bits.{power}
use Rattle.liveness.proofs.Resets.{filled_by, reset_full, reset_rest}
use Rattle.liveness.proofs.reset_all_live.Goals as goal

pub returns-then-rest-ne0 : goal.returns-then-rest-ne0
returns-then-rest-ne0 c =
    rw (power, filled_by _ _ c.requires (c.fill.ensures.after (λ y e. e))) (reset_rest _ _ c.if-rest-ne0.true c.requires)

pub returns-else-rest-ne0 : goal.returns-else-rest-ne0
returns-else-rest-ne0 c =
    rw (filled_by _ _ c.requires (c.fill.ensures.after (λ y e. e))) (reset_full _ _ c.if-rest-ne0.false)
