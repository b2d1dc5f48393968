-- `image_write::write_entries` meets its contract: after each turn one entry more was written.
use Rattle.image_write.proofs.Strung.{StrungTo}
use Rattle.image_write.proofs.Writing.{entry_bits}
use Rattle.image_write.proofs.write_entries.Given as goal

abbrev pub invariant-loop-entry : goal.invariant-loop-entry
invariant-loop-entry l =
    StrungTo l.initial.out l.edges.width (entry_bits l.edges.width l.edges.live.now l.edges.slots) l.entries l.entry-index l.out
