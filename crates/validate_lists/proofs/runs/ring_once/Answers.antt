-- `validate_lists::runs::ring_once` meets its contract.
use Rattle.validate_lists.proofs.Once.{circling_start, circling_fails, circling_last, circling_on, circling_done}
use Rattle.validate_lists.proofs.runs.ring_once.Goals as goal

pub loop-init : goal.loop-init
loop-init c = circling_start _ _ _ _ _ _

pub returns-then-not-pass : goal.returns-then-not-pass
returns-then-not-pass c = circling_fails _ _ _ _ _ c.loop.invariant c.loop-test.true c.pass.ensures.passed c.if-not-pass.true

pub returns-then-e-last : goal.returns-then-e-last
returns-then-e-last c =
    circling_last _ _ _ _ _ c.loop.invariant c.loop-test.true c.pass.ensures.passed c.if-not-pass.false c.pass.auto.seen c.if-e-last.true

pub loop-preserved : goal.loop-preserved
loop-preserved c =
    circling_on _ _ _ _ _ c.loop.invariant c.loop-test.true c.pass.ensures.passed c.if-not-pass.false c.pass.auto.seen c.if-e-last.false

pub returns : goal.returns
returns c = circling_done _ _ _ _ _ c.loop.invariant c.loop-test.false
