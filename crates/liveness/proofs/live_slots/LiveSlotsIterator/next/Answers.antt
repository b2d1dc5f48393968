-- `liveness::live_slots::LiveSlotsIterator::next` meets its contract: the next live slot begins what is left.
use Rattle.std.specs.Prelude.{length}
use Rattle.plain.specs.Library.{sym, ap, ◌∙◌, arith, rules}
use Rattle.liveness.proofs.LiveSlots.{left_here, left_more, left_none}
use Rattle.liveness.proofs.Words.{live_below}
use Rattle.liveness.proofs.live_slots.LiveSlotsIterator.next.Goals as goal

pub overflow_add-self : goal.overflow_add-self
overflow_add-self c =
    let below = live_below _ _ _ c.args.self.now.long (sym c.is_live.ensures ∙ c.if-is_live.true) in search (rules, below)

pub returns-then-is_live-clause-steps : goal.returns-then-is_live-clause-steps
returns-then-is_live-clause-steps c = left_here _ _ _ c.args.self.now.long (sym c.is_live.ensures ∙ c.if-is_live.true)

pub returns-then-is_live-clause-goes : goal.returns-then-is_live-clause-goes
returns-then-is_live-clause-goes c =
    let e = ap length (left_here _ _ _ c.args.self.now.long (sym c.is_live.ensures ∙ c.if-is_live.true)) in search (rules, e)

pub returns-clause-steps : goal.returns-clause-steps
returns-clause-steps c = left_more _ _ _ c.in_ok-slot.ensures.next c.in_ok-slot.ensures.below

pub returns-clause-goes : goal.returns-clause-goes
returns-clause-goes c =
    let e = ap length (left_more _ _ _ c.in_ok-slot.ensures.next c.in_ok-slot.ensures.below) in search (rules, e)

pub returns-in_err-slot-clause-steps : goal.returns-in_err-slot-clause-steps
returns-in_err-slot-clause-steps c =
    let none = left_none _ _ _ c.in_err-slot.ensures.next (omega arith) in rw c.from_residual.ensures (none, none)
