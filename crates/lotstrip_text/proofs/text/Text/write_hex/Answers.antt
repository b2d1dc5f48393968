-- `lotstrip_text::text::Text::write_hex` meets its contract: the digits of the bytes passed are written.
use Rattle.plain.specs.Library.{arith}
use Rattle.lotstrip_text.proofs.Pieces.{writing_start, writing_room, writing_more, writing_end}
use Rattle.lotstrip_text.proofs.Lines.{hex_next, hex_none}
use Rattle.lotstrip_text.proofs.text.Text.write_hex.Goals as goal

pub loop-byte-init : goal.loop-byte-init
loop-byte-init c = writing_start _ _ c.requires

pub write_byte-requires : goal.write_byte-requires
write_byte-requires c = writing_room c.loop-byte.invariant (hex_next c.args.bytes.now c.loop-byte.byte-index (omega arith))

pub loop-byte-preserved : goal.loop-byte-preserved
loop-byte-preserved c =
    writing_more c.loop-byte.invariant (hex_next c.args.bytes.now c.loop-byte.byte-index (omega arith)) c.write_byte.ensures

pub returns : goal.returns
returns c = writing_end c.loop-byte.invariant (hex_none c.args.bytes.now c.loop-byte.byte-index (omega arith))
