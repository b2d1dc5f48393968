-- `lotstrip_text::tell` meets its contract: too long, not whole operations, or run.
use Rattle.plain.specs.Lotstrip.{codes}
use Rattle.lotstrip_text.proofs.Printing.{told_as, too_long, ragged, runs}
use Rattle.lotstrip_text.proofs.tell.Goals as goal

pub returns-then-input-gt-INPUT : goal.returns-then-input-gt-INPUT
unfolding codes
returns-then-input-gt-INPUT c = told_as (too_long c.args.input.now c.if-input-gt-INPUT.true) c.write.ensures

pub returns-then-input-ne0 : goal.returns-then-input-ne0
unfolding codes
returns-then-input-ne0 c = told_as (ragged c.args.input.now c.if-input-gt-INPUT.false c.if-input-ne0.true) c.write-then-input-ne0.ensures

pub returns-else-input-ne0 : goal.returns-else-input-ne0
returns-else-input-ne0 c = told_as (runs c.args.input.now c.if-input-gt-INPUT.false c.if-input-ne0.false) c.run.ensures
