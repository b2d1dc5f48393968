-- `validate::flat::ends_live` meets its contract: every node is live, or the loop has looked at every edge. Its invariant: where nothing was found the edges before e
-- have live ends if they are live. The measure is the number of edges left.
use Rattle.std.specs.Prelude.{ℕ, ◌<◌, ◌≡◌, true}
use Rattle.liveness.specs.Flags.{live_bit}
use Rattle.shape.specs.Columns.{end_at}
use Rattle.validate.proofs.flat.ends_live.Given as goal

abbrev pub invariant-loop-e : goal.invariant-loop-e
invariant-loop-e l =
    l.right ≡ true → (k : ℕ) → k < l.e → live_bit l.side.live_edges.now k ≡ true → live_bit l.side.live_nodes.now (end_at l.side.axis.now k) ≡ true
