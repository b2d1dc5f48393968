-- `lotstrip_text::text::Text::write_hex` meets its contract: the digits of the bytes passed are written.
use Rattle.std.specs.Prelude.{drop}
use Rattle.plain.specs.Lotstrip.{hexadecimal}
use Rattle.lotstrip_text.proofs.Pieces.{Writing}
use Rattle.lotstrip_text.proofs.text.Text.write_hex.Given as goal

abbrev pub invariant-loop-byte : goal.invariant-loop-byte
invariant-loop-byte l = Writing l.initial.self (hexadecimal l.bytes) (hexadecimal (drop l.byte-index l.bytes)) l.self
