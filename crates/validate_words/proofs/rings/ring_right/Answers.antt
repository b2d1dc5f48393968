-- `validate_words::rings::ring_right` meets its contract.
use Rattle.std.specs.Prelude.{◌+◌, ◌-◌, ◌*◌, ◌<◌, ◌≡◌, refl, true}
use Rattle.plain.specs.Library.{sym, ◌∙◌, arith}
use Rattle.shape.specs.Columns.{cell, last_at}
use Rattle.shape.specs.Rules.{ring_right}
use Rattle.validate_words.specs.Rings.{own_test}
use Rattle.validate_words.proofs.Ringing.{closes, closes_none, closes_fails, closes_last, closes_more, own_below, ring_none, ring_some, ring_out}
use Rattle.validate_words.proofs.rings.ring_right.Goals.{At-loop, Else-not-own_edge}
use Rattle.validate_words.proofs.rings.ring_right.Goals as goal

-- a ring is what its links decide
some : (c : At-loop)
    → let a = c.args in
    closes (cell a.axis.now (2 * a.layout.edge_capacity)) (last_at a.axis.now a.layout.edge_capacity a.node) (own_test a.layout.counts.edges.base a.layout.counts.edges.bound a.axis.now a.node) (c.args.layout.counts.edges.bound - c.loop.counter) c.loop.e
    ≡ ring_right a.layout.edge_capacity a.layout.counts.edges.base a.layout.counts.edges.bound a.axis.now a.node
some c = sym c.loop.invariant ∙ ring_some _ _ _ _ _ c.if-last.false

-- the entry is one of the node's own edges
own : (c : Else-not-own_edge)
    → let a = c.args in
    own_test a.layout.counts.edges.base a.layout.counts.edges.bound a.axis.now a.node c.loop.e ≡ true
own c = sym c.own_edge.ensures ∙ c.if-not-own_edge.false

below : (c : Else-not-own_edge)
    → c.loop.e < c.args.layout.counts.edges.bound
below c = own_below _ 0 _ _ _ _ (own c)

pub returns-then-last : goal.returns-then-last
returns-then-last c = ring_none _ _ _ _ _ c.if-last.true

pub returns-then-last-bound : goal.returns-then-last-bound
returns-then-last-bound c = ring_out _ _ _ _ _ c.if-last.false c.if-last-bound.true

pub loop-init : goal.loop-init
loop-init c = refl

pub returns-then-not-own_edge : goal.returns-then-not-own_edge
returns-then-not-own_edge c =
    sym (closes_fails _ _ _ _ _ (omega (arith, c.loop-test.true)) (sym c.own_edge.ensures ∙ c.if-not-own_edge.true)) ∙ some (goal.at.returns-then-not-own_edge c).At-loop

pub returns-then-e-last : goal.returns-then-e-last
returns-then-e-last c =
    sym (closes_last _ _ _ _ _ (omega (arith, c.loop-test.true)) (own (goal.at.returns-then-e-last c).Else-not-own_edge) c.if-e-last.true) ∙ some (goal.at.returns-then-e-last c).At-loop

pub bounds-axis-layout-in-loop : goal.bounds-axis-layout-in-loop
bounds-axis-layout-in-loop c = omega (arith, below (goal.at.bounds-axis-layout-in-loop c).Else-not-own_edge)

pub loop-preserved : goal.loop-preserved
loop-preserved c =
    let one : c.args.layout.counts.edges.bound - c.loop.counter - 1 ≡ c.args.layout.counts.edges.bound - (c.loop.counter + 1) = omega arith in
    c.loop.invariant ∙ closes_more _ _ _ _ _ (omega (arith, c.loop-test.true)) (own (goal.at.loop-preserved c).Else-not-own_edge) c.if-e-last.false ∙ rw one

pub returns : goal.returns
returns c = sym (closes_none _ _ _ _ _ (omega (arith, c.loop-test.false))) ∙ some (goal.at.returns c).At-loop
