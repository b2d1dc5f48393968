-- `validate_lists::runs::runs_once` meets its contract.
use Rattle.plain.specs.Library.{arith}
use Rattle.validate_lists.proofs.Running.{run_readable}
use Rattle.validate_lists.proofs.Once.{listing_start, listing_on, listing_done}
use Rattle.validate_lists.proofs.runs.runs_once.Goals as goal

pub loop-x-init : goal.loop-x-init
loop-x-init c = listing_start _ _ _ _ _ _ c.requires.1.clear

pub node_once-requires : goal.node_once-requires
node_once-requires c =
    let p = c.requires in
    (run_readable p.0 c.loop-x-test.true (omega (arith, p.1.marks_long, c.loop-x.invariant.long)), p.0.axis.edges.base_within)

pub loop-x-preserved : goal.loop-x-preserved
loop-x-preserved c = listing_on _ _ _ _ _ c.loop-x.invariant (c.node_once.ensures c.if-not-node_once.false) c.node_once.auto.seen

pub returns : goal.returns
returns c = λ _. listing_done c.loop-x.invariant c.loop-x-test.false
