-- `nearest::forwards::write_way` meets its contract. The loop's invariant is `Going`.
use Rattle.nearest.proofs.Nearing.{going_start, going_end, nearer_lot, edge_low, going_on, nearer_there}
use Rattle.nearest.proofs.forwards.write_way.Goals as goal

pub loop-i-init : goal.loop-i-init
loop-i-init c = going_start c.requires

pub nearer_lot-requires : goal.nearer_lot-requires
nearer_lot-requires c = nearer_lot c.requires c.loop-i.invariant c.loop-i-test.true

pub unwrap-edge-requires : goal.unwrap-edge-requires
unwrap-edge-requires c = nearer_there c.requires c.loop-i.invariant c.loop-i-test.true _ c.nearer_lot.ensures

pub bounds-store-edge : goal.bounds-store-edge
bounds-store-edge c = edge_low c.requires c.loop-i.invariant c.loop-i-test.true (rw c.unwrap-edge.ensures at c.nearer_lot.ensures)

pub loop-i-preserved : goal.loop-i-preserved
loop-i-preserved c = going_on c.requires c.loop-i.invariant c.loop-i-test.true (rw c.unwrap-edge.ensures at c.nearer_lot.ensures)

pub returns : goal.returns
returns c = going_end c.requires c.loop-i.invariant c.loop-i-test.false
