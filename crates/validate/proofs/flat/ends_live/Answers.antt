-- `validate::flat::ends_live` meets its contract: every node is live, or the loop has looked at every edge.
use Rattle.std.proofs.Common.{below_more}
use Rattle.plain.specs.Library.{sym, ◌∙◌, arith}
use Rattle.plain.proofs.Laws.Booleans.{and_left, and_right}
use Rattle.liveness.specs.Laws.Flags.{flag_at}
use Rattle.validate.proofs.Listing.{all_live}
use Rattle.validate.proofs.flat.ends_live.Goals as goal

pub returns-then-side : goal.returns-then-side
returns-then-side c = λ _ e l _. all_live c.args.side.now.layout.counts c.requires.live c.if-side.true _ (c.requires.ends_below e l)

pub loop-e-preserved : goal.loop-e-preserved
loop-e-preserved c = λ h. below_more _ _ (c.loop-e.invariant (and_left _ _ h)) (c.end_live-right.ensures (and_right _ _ h))

pub returns : goal.returns
returns c =
    let pre = c.requires in
    λ h e l q. flag_at _ _ _ (pre.ends_below e l) ∙ c.loop-e.invariant h e (omega (arith, c.loop-e-test.false)) (sym (flag_at _ _ e l) ∙ q)
