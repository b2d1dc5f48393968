-- `validate_lists::runs::runs_right` meets its contract.
use Rattle.std.specs.Prelude.{replicate}
use Rattle.plain.specs.Library.{sym, ◌∙◌, arith}
use Rattle.shape.specs.Rules.{runs_right}
use Rattle.marks.specs.Laws.Fresh.{clear_map}
use Rattle.validate_lists.proofs.Running.{run_readable, tests_of, runs_first, runs_more, runs_fail, runs_none}
use Rattle.validate_lists.proofs.runs.runs_right.Goals as goal

pub loop-x-init : goal.loop-x-init
loop-x-init c = runs_first _ _ _ _ _ _ _ (replicate 512 0) (clear_map 512)

pub node_right-requires : goal.node_right-requires
node_right-requires c = run_readable c.requires c.loop-x-test.true (omega (arith, c.is_live-live.array_long))

pub returns-then-not-node_right : goal.returns-then-not-node_right
unfolding runs_right tests_of
returns-then-not-node_right c =
    sym (c.loop-x.invariant ∙ runs_fail _ _ _ _ _ _ _ _ c.loop-x-test.true c.is_live-live.ensures c.node_right.ensures c.if-not-node_right.true)

pub loop-x-preserved : goal.loop-x-preserved
loop-x-preserved c =
    c.loop-x.invariant ∙ runs_more _ _ _ _ _ _ _ _ c.loop-x-test.true c.is_live-live.ensures c.node_right.ensures c.if-not-node_right.false

pub returns : goal.returns
unfolding runs_right tests_of
returns c = sym (c.loop-x.invariant ∙ runs_none _ _ _ _ _ _ _ _ _ c.loop-x-test.false)
