-- `image_write::write_record` meets its contract: both ends are one value, then the low, then the high.
use Rattle.plain.specs.Library.{arith}
use Rattle.image_write.proofs.Writing.{ends_small, ends_put, low_put, high_put, record_written}
use Rattle.image_write.proofs.write_record.Goals as goal

pub raise-requires : goal.raise-requires
raise-requires c = rw c.from.ensures (omega (arith, ends_small c.requires))

pub overflow_add-ends : goal.overflow_add-ends
overflow_add-ends c = rw (c.raise.ensures, c.from.ensures, c.from-2.ensures) (omega (arith, ends_small c.requires))

pub put-requires : goal.put-requires
put-requires c = rw (c.raise.ensures, c.from.ensures, c.from-2.ensures) (ends_put c.requires)

pub put-requires-2 : goal.put-requires-2
put-requires-2 c = low_put c.requires (rw (c.raise.ensures, c.from.ensures, c.from-2.ensures) at c.put.ensures) (omega arith)

pub put-requires-3 : goal.put-requires-3
put-requires-3 c = high_put c.requires (rw (c.raise.ensures, c.from.ensures, c.from-2.ensures) at c.put.ensures) _ c.put-2.ensures (omega arith)

pub returns : goal.returns
returns c =
    record_written c.requires (rw (c.raise.ensures, c.from.ensures, c.from-2.ensures) at c.put.ensures) c.args.edge.payload
    (rw c.from-3.ensures at c.put-2.ensures) (rw c.from-4.ensures at c.put-3.ensures)
