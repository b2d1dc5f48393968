-- `validate_lists::runs::node_right` meets its contract: a node with no run passes.
use Rattle.plain.specs.Library.{eq-eqb}
use Rattle.shape.proofs.Laws.Frames.{run_list_unmarked}
use Rattle.validate_lists.proofs.Running.{no_run}
use Rattle.validate_lists.proofs.runs.node_right.Goals as goal

pub returns-then-side-node-eq0 : goal.returns-then-side-node-eq0
returns-then-side-node-eq0 c = rw (run_list_unmarked _ _ _ _ c.if-side-node-eq0.true, eq-eqb _ 0 c.if-side-node-eq0.true) (no_run _ _ _)
