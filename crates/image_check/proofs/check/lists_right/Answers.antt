-- `image_check::check::lists_right` meets its contract. The loop's invariant: the entries from number i on decide, those before are marked.
use Rattle.std.specs.Prelude.{◌+◌, ◌*◌, ◌≡◌}
use Rattle.plain.specs.Library.{arith}
use Rattle.image_check.proofs.Ordering.{order_start, order_room, order_past, order_descends, order_marked, order_more, order_done}
use Rattle.image_check.proofs.check.lists_right.Goals as goal

pub loop-i-init : goal.loop-i-init
loop-i-init c = order_start _ _ _ _ _ c.requires.within

pub read_field-edge-requires : goal.read_field-edge-requires
read_field-edge-requires c = let room = order_room c.loop-i.invariant c.loop-i-test.true in omega (arith, c.requires)

pub returns-then-edge-ends : goal.returns-then-edge-ends
returns-then-edge-ends c =
    order_past c.loop-i.invariant c.loop-i-test.true c.read_field-edge.ensures c.if-edge-ends.true

pub returns-then-end-last : goal.returns-then-end-last
returns-then-end-last c =
    order_descends c.loop-i.invariant c.loop-i-test.true c.read_field-edge.ensures c.get-end.ensures c.if-end-last.true

pub returns-then-not-mark : goal.returns-then-not-mark
returns-then-not-mark c =
    order_marked c.loop-i.invariant c.loop-i-test.true c.read_field-edge.ensures c.mark.ensures c.if-not-mark.true

pub loop-i-preserved : goal.loop-i-preserved
loop-i-preserved c =
    let a = c.args in
    let next : a.list + a.v * c.loop-i.i + a.v ≡ a.list + a.v * (c.loop-i.i + 1) = omega arith in
    rw next at
    (order_more c.loop-i.invariant c.loop-i-test.true c.read_field-edge.ensures c.get-end.ensures c.if-edge-ends.false c.if-end-last.false
    c.mark.ensures c.if-not-mark.false c.mark.auto.seen)

pub returns : goal.returns
returns c = order_done c.loop-i.invariant c.loop-i-test.false
