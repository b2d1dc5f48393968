-- `lotstrip_text::text::Text::write_line` meets its contract: three numbers one after the other.
use Rattle.plain.specs.Library.{arith}
use Rattle.plain.specs.Lotstrip.{space}
use Rattle.lotstrip_text.specs.Lines.{line}
use Rattle.lotstrip_text.proofs.Pieces.{append_then, append_length}
use Rattle.lotstrip_text.proofs.Lines.{length_line, length_numbered}
use Rattle.lotstrip_text.proofs.text.Text.write_line.Goals as goal

pub write_number-requires : goal.write_number-requires
write_number-requires c = let a = c.args in omega (arith, length_line a.position a.number a.value)

pub write_number-requires-2 : goal.write_number-requires-2
write_number-requires-2 c =
    let a = c.args in
    omega (arith, length_line a.position a.number a.value, c.write_number.ensures.ended, length_numbered a.position space, append_length c.write_number.ensures)

pub write_number-requires-3 : goal.write_number-requires-3
write_number-requires-3 c =
    let a = c.args in
    omega (
      arith,
      length_line a.position a.number a.value,
      c.write_number.ensures.ended,
      length_numbered a.position space,
      append_length c.write_number.ensures,
      c.write_number-2.ensures.ended,
      length_numbered a.number space,
      append_length c.write_number-2.ensures,
    )

pub returns : goal.returns
unfolding line
returns c = append_then c.write_number.ensures (append_then c.write_number-2.ensures c.write_number-3.ensures)
