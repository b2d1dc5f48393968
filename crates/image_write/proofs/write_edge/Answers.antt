-- `image_write::write_edge` meets its contract: two new numbers, and the record.
use Rattle.image_write.proofs.Writing.{rank_there, record_fits}
use Rattle.image_write.proofs.write_edge.Goals as goal

pub new_number-requires : goal.new_number-requires
new_number-requires c = (rank_there c.requires.ranks_fit _ c.requires.source_live).0

pub new_number-requires-2 : goal.new_number-requires-2
new_number-requires-2 c = (rank_there c.requires.ranks_fit _ c.requires.target_live).0

pub write_record-requires : goal.write_record-requires
write_record-requires c =
    record_fits c.requires c.new_number.ensures c.new_number-2.ensures

pub returns : goal.returns
returns c =
    rw (c.new_number.ensures, c.new_number-2.ensures) at c.write_record.ensures
