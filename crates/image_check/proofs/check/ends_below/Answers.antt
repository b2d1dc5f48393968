-- `image_check::check::ends_below` meets its contract. The loop's invariant: the edges from `edge` on decide.
use Rattle.plain.specs.Library.{sym, ◌∙◌, lt-ltb, le-ltb}
use Rattle.validate_words.specs.Laws.Passing.{rest_more, rest_fails, rest_none}
use Rattle.image_check.proofs.check.ends_below.Goals as goal

pub returns-then-get-n : goal.returns-then-get-n
returns-then-get-n c =
    sym (c.loop-edge.invariant ∙ rest_fails _ _ _ c.loop-edge-test.true (le-ltb _ _ (rw c.get.ensures at c.if-get-n.true)))

pub loop-edge-preserved : goal.loop-edge-preserved
loop-edge-preserved c =
    c.loop-edge.invariant ∙ rest_more _ _ _ c.loop-edge-test.true (lt-ltb _ _ (rw c.get.ensures at c.if-get-n.false))

pub returns : goal.returns
returns c = sym (c.loop-edge.invariant ∙ rest_none _ _ _ c.loop-edge-test.false)
