-- `validate_lists::runs::node_once` meets its contract: no run, a run with no ring behind it, or both, one after the other.
use Rattle.marks.specs.Laws.Following.{followed_yes}
use Rattle.validate_lists.proofs.Once.{node_plain, node_bare, node_ring}
use Rattle.validate_lists.proofs.runs.node_once.Goals as goal

pub returns-then-side-node-eq0 : goal.returns-then-side-node-eq0
returns-then-side-node-eq0 c =
    let a = c.args in
    λ _. node_plain a.side.now.axis.now a.side.now.layout.edge_capacity a.side.now.layout.node_capacity a.side.now.layout.counts.edges.base a.side.now.layout.counts.edges.bound a.node c.if-side-node-eq0.true _

pub returns-then-last : goal.returns-then-last
returns-then-last c =
    λ _. node_bare _ _ _ _ _ _ c.if-side-node-eq0.false c.args.live _ (followed_yes c.run_right.ensures c.if-not-run_right.false) c.if-last.true

pub returns : goal.returns
returns c =
    λ h. node_ring _ _ _ _ _ _ c.if-side-node-eq0.false c.args.live _ (followed_yes c.run_right.ensures c.if-not-run_right.false) c.if-last.false
    (followed_yes c.ring_once.ensures h)
