-- `image_write::write_entries` meets its contract: after each turn one entry more was written.
use Rattle.std.specs.Prelude.{get_or}
use Rattle.plain.specs.Library.{◌∙◌, arith}
use Rattle.plain.specs.Compaction.{rank}
use Rattle.plain.proofs.Laws.Bits.{length_bits_of}
use Rattle.liveness.specs.Flags.{live_flags}
use Rattle.image_write.proofs.Strung.{entry_none, entry_more, entries_all, row_strung}
use Rattle.image_write.proofs.Writing.{entry_bits, rank_there, next_entry}
use Rattle.image_write.proofs.write_entries.Goals as goal

pub loop-entry-init : goal.loop-entry-init
loop-entry-init c =
    let a = c.args in
    entry_none a.out.now a.edges.now.width (entry_bits a.edges.now.width a.edges.now.live.now a.edges.now.slots) a.entries.now c.requires.room

pub new_number-requires : goal.new_number-requires
new_number-requires c =
    (rank_there c.requires.ranks_fit (get_or c.args.entries.now c.loop-entry.entry-index 0) (c.requires.entries_live c.loop-entry.entry-index (omega arith))).0

pub put-requires : goal.put-requires
put-requires c =
    next_entry c.requires c.loop-entry.invariant (omega arith) (c.from.ensures ∙ c.new_number.ensures)

pub loop-entry-preserved : goal.loop-entry-preserved
loop-entry-preserved c =
    let a = c.args in
    entry_more c.loop-entry.invariant (λ e. length_bits_of a.edges.now.width (rank (live_flags a.edges.now.live.now a.edges.now.slots) e)) (omega arith)
    (rw (c.from.ensures, c.new_number.ensures) at c.put.ensures)

pub returns : goal.returns
returns c =
    let a = c.args in
    rw (row_strung a.edges.now.width (rank (live_flags a.edges.now.live.now a.edges.now.slots)) a.entries.now) at
    (entries_all c.loop-entry.invariant (omega arith))
