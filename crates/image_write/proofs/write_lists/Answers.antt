-- `image_write::write_lists` meets its contract: the ranks of the live edges, and the entries by them.
use Rattle.plain.specs.Library.{rules}
use Rattle.image_write.proofs.Surviving.{ranks_room}
use Rattle.image_write.proofs.write_lists.Goals as goal

pub new-edges-requires : goal.new-edges-requires
new-edges-requires c =
    let h = c.requires in record { fit = ranks_room h.long h.few (search rules); right = h.right }

pub write_entries-requires : goal.write_entries-requires
write_entries-requires c =
    let h = c.requires in
    rw (c.new-edges.ensures.live, c.new-edges.ensures.slots, c.new-edges.ensures.width)
    (record { ranks_fit = record { narrow = h.narrow; wide = h.wide }; entries_live = h.entries_live; room = h.room })

pub returns : goal.returns
returns c = rw (c.new-edges.ensures.live, c.new-edges.ensures.slots, c.new-edges.ensures.width) at c.write_entries.ensures
