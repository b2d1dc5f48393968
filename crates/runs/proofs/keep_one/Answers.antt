-- `runs::keep_one` meets its contract, from what `push` ensures.
use Rattle.plain.specs.Library.{sym, ◌∙◌}
use Rattle.runs.specs.Laws.Pushing.{keep_live, keep_dead}
use Rattle.runs.proofs.keep_one.Goals as goal

pub returns-then-is_live : goal.returns-then-is_live
returns-then-is_live c =
    keep_live c.requires (sym c.is_live.ensures ∙ c.if-is_live.true) c.push.ensures

pub returns-else-is_live : goal.returns-else-is_live
returns-else-is_live c = keep_dead c.requires (sym c.is_live.ensures ∙ c.if-is_live.false)
