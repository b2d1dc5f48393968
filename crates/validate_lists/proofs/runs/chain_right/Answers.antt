-- `validate_lists::runs::chain_right` meets its contract.
use Rattle.validate_lists.proofs.Running.{chaining_start, chaining_fails, chaining_on, chaining_done}
use Rattle.validate_lists.proofs.runs.chain_right.Goals as goal

pub loop-init : goal.loop-init
loop-init g c = chaining_start _ _ _ _ _ _

pub returns-then-not-pass : goal.returns-then-not-pass
returns-then-not-pass g c = chaining_fails _ _ _ _ _ c.loop.invariant c.loop-test.true c.pass.ensures.passed c.if-not-pass.true

pub loop-preserved : goal.loop-preserved
loop-preserved g c =
    chaining_on _ _ _ _ _ c.loop.invariant c.loop-test.true c.pass.ensures.passed c.if-not-pass.false c.pass.auto.seen

pub returns : goal.returns
returns g c = chaining_done _ _ _ _ _ c.loop.invariant c.loop-test.false
