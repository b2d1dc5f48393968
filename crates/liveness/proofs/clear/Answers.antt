-- `liveness::clear` meets its contract: the two ways are `clear_live` and `clear_dead` of proofs/Words.antt.
use Rattle.std.specs.Prelude.{◌≡◌, true, false, get_or}
use Rattle.plain.specs.Library.{sym, ◌∙◌, arith}
use Rattle.liveness.specs.Flags.{live_flags}
use Rattle.liveness.specs.Laws.Bits.{power, unmark_room}
use Rattle.liveness.proofs.Words.{live_below, live_one, clear_live, clear_dead}
use Rattle.liveness.proofs.clear.Goals.{Then-is_live}
use Rattle.liveness.proofs.clear.Goals as goal

-- the slot is live where its word is changed
live : (c : Then-is_live)
    → let a = c.args in get_or (live_flags a.words.now a.slots) a.slot false ≡ true
live c = sym c.is_live.ensures ∙ c.if-is_live.true

pub bounds-words-at : goal.bounds-words-at
bounds-words-at c = omega (arith, live_below _ _ _ c.requires (live (goal.at.bounds-words-at c).Then-is_live))

pub overflow_sub-words : goal.overflow_sub-words
overflow_sub-words c =
    omega (arith, power c.args.slot, unmark_room _ _ (live_one _ _ _ c.requires (live (goal.at.overflow_sub-words c).Then-is_live)))

pub bounds-words-at-then-is_live : goal.bounds-words-at-then-is_live
bounds-words-at-then-is_live c = omega (arith, live_below _ _ _ c.requires (live (goal.at.bounds-words-at-then-is_live c).Then-is_live))

pub returns-then-is_live : goal.returns-then-is_live
returns-then-is_live c = rw power (clear_live _ _ _ c.requires (live (goal.at.returns-then-is_live c).Then-is_live))

pub returns : goal.returns
returns c = clear_dead _ _ _ c.requires (sym c.is_live.ensures ∙ c.if-is_live.false)
