-- `validate_words::rings::rings_climb` meets its contract.
use Rattle.std.specs.Prelude.{ℕ, not, eqb}
use Rattle.plain.specs.Numbers.{NONE}
use Rattle.plain.specs.Library.{sym, ◌∙◌, arith, eqb-true}
use Rattle.validate_words.proofs.Climbing.{climbing_start, climbing_on, climbing_done, rings_close}
use Rattle.validate_words.specs.Laws.Passing.{part_count}
use Rattle.validate_words.proofs.rings.rings_climb.Goals as goal

pub loop-e-init : goal.loop-e-init
loop-e-init c = climbing_start _ _ _ _ _

pub loop-e-preserved : goal.loop-e-preserved
loop-e-preserved c = climbing_on _ _ _ _ _ c.loop-e.invariant c.loop-e-test.true (c.edge_climbs.ensures c.if-not-edge_climbs.false) c.rings_ended-lasts.ensures

pub returns : goal.returns
returns c =
    λ h. rings_close _ _ _ _ _
    (climbing_done _ _ _ _ _ (omega arith) (omega arith) c.loop-e.invariant c.loop-e-test.false (sym (c.ring_count.ensures ∙ part_count c.args.axis.now _ _ (omega arith) (λ (w : ℕ). not (eqb w NONE))) ∙ eqb-true _ _ h))
