-- `validate::flat::delta_flat` meets its contract.
use Rattle.plain.specs.Library.{sym, ◌∙◌, not-true, not-false}
use Rattle.validate.proofs.Flattening.{marking_start, marking_skip, marking_more, delta_done}
use Rattle.validate.proofs.flat.delta_flat.Goals as goal

pub loop-e-init : goal.loop-e-init
loop-e-init c = marking_start _ _ _ _ _ _

pub loop-e-preserved-then-has_run : goal.loop-e-preserved-then-has_run
loop-e-preserved-then-has_run c =
    marking_skip _ _ _ _ _ c.loop-e.invariant c.loop-e-test.true (not-true _ (sym c.has_run.ensures ∙ c.if-has_run.true))

pub loop-e-preserved : goal.loop-e-preserved
loop-e-preserved c =
    marking_more _ _ _ _ _ c.loop-e.invariant c.loop-e-test.true (not-false _ (sym c.has_run.ensures ∙ c.if-has_run.false)) (c.edge_linked.ensures c.if-not-edge_linked.false)
    c.mark.ensures c.if-not-mark.false c.mark.auto.seen

pub returns : goal.returns
returns c = λ _. delta_done _ _ _ _ c.loop-e.invariant c.loop-e-test.false
