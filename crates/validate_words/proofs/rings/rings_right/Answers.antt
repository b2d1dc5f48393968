-- `validate_words::rings::rings_right` meets its contract: the rings climb, or each is followed.
use Rattle.std.proofs.Common.{rules}
use Rattle.std.proofs.iter.runs.Sources.{range_runs}
use Rattle.std.specs.Prelude.{◌+◌, ◌<◌, ◌≡◌, true, false}
use Rattle.plain.specs.Library.{sym, ap, ◌∙◌, arith}
use Rattle.plain.specs.Lists.{all, from}
use Rattle.plain.proofs.Laws.Booleans.{by_test, true_false, same_truth}
use Rattle.shape.specs.Rules.{ring_right}
use Rattle.shape.proofs.Laws.Checking.{all_below, below_all}
use Rattle.validate_words.specs.Laws.Ranges.{at_item, if_some, meets}
use Rattle.validate_words.proofs.rings.rings_right.Goals as goal

-- the rings climb
pub returns-then-rings_climb : goal.returns-then-rings_climb
returns-then-rings_climb c = c.if-rings_climb.true ∙ sym (c.rings_climb.ensures c.if-rings_climb.true)

-- each node has been asked, or one has been found
pub returns-else-rings_climb : goal.returns-else-rings_climb
returns-else-rings_climb c =
    let l = c.args.layout in
    let test = ring_right l.edge_capacity l.counts.edges.base l.counts.edges.bound c.args.axis.now in
    let nb = l.counts.nodes.bound in
    same_truth c.all.result (all test (from 0 nb))
    (λ h. below_all test nb
    (λ x k. let run = rw h at c.all.ensures.runs in
    let p = run.0 in
    let up = range_runs p p.seen in
    let first : p.from.start ≡ 0 = ap (λ r. r.start) run.1 in
    let end : p.from.end ≡ nb = ap (λ r. r.end) run.1 in
    let place : p.from.start + x ≡ x = omega (arith, first) in
    let there = rw place at (up.3 x (omega (arith, up.1 run.2.0, first, end))) in
    let answers = run.2.1 (λ a r f q. search rules) in
    at_item (λ y. test y ≡ true) (p.at x) x there (if_some (λ y. test y ≡ true) (p.at x) (answers x) (λ y q. search (rules, q.met.0)))))
    (λ h. by_test c.all.result (λ yes. yes)
    (λ no. let run = rw no at c.all.ensures.runs in
    let p = run.0 in
    let end : p.from.end ≡ nb = ap (λ r. r.end) run.1 in
    let found = run.2 (λ a r f q. search rules) in
    meets {Q = λ y. (y ≡ p.from.start + found.0) × (y < p.from.end)} (p.at found.0) found.2 ((range_runs p p.seen).2 found.0)
    (λ y q below. let low : y < nb = omega (arith, below.1, end) in
    let fails : test y ≡ false = search (rules, q.met.0) in
    true_false (all_below test nb h y low) fails)))
