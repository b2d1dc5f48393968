-- `image_write::write_counts` meets its contract: both counts are one value of 32 bits.
use Rattle.image_write.proofs.Writing.{counts_put, counts_written}
use Rattle.image_write.proofs.write_counts.Goals as goal

pub put-requires : goal.put-requires
put-requires c = rw (c.raise.ensures, c.from.ensures, c.from-2.ensures) (counts_put c.requires)

pub returns : goal.returns
returns c = counts_written c.requires (rw (c.raise.ensures, c.from.ensures, c.from-2.ensures) at c.put.ensures)
