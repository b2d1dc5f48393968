-- `lotstrip_text::print` meets its contract: the lines, the image and a newline one after the other.
use Rattle.plain.specs.Library.{arith}
use Rattle.lotstrip_text.proofs.Pieces.{append_then, append_length}
use Rattle.lotstrip_text.proofs.Printing.{length_printed}
use Rattle.lotstrip_text.proofs.print.Goals as goal

pub write_answers-requires : goal.write_answers-requires
write_answers-requires c = let a = c.args in omega (arith, length_printed a.answers.now a.bytes.now)

pub write_hex-requires : goal.write_hex-requires
write_hex-requires c =
    let a = c.args in
    omega (arith, length_printed a.answers.now a.bytes.now, c.write_answers.ensures.ended, append_length c.write_answers.ensures)

pub push-requires : goal.push-requires
push-requires c =
    let a = c.args in
    omega (arith, length_printed a.answers.now a.bytes.now, c.write_answers.ensures.ended, append_length c.write_answers.ensures, c.write_hex.ensures.ended, append_length c.write_hex.ensures)

pub returns : goal.returns
returns c = append_then c.write_answers.ensures (append_then c.write_hex.ensures c.push.ensures)
