-- `lotstrip_text::text::Text::write_number` meets its contract.
use Rattle.std.specs.Prelude.{◌+◌, ◌-◌, ◌≡◌, refl, length}
use Rattle.plain.specs.Library.{arith}
use Rattle.plain.specs.Lotstrip.{decimal}
use lib.Seq.{drop-drop}
use Rattle.bits.specs.Laws.Put.{split_put}
use Rattle.lotstrip_text.proofs.Pieces.{append_then}
use Rattle.lotstrip_text.proofs.text.Text.write_number.Goals as goal

pub returns : goal.returns
returns c =
    let from = c.args.self.now.end in
    let e : from + c.digit_count.result - from ≡ length (decimal c.args.n) = omega (arith, c.digit_count.ensures) in
    append_then (record { same = refl; put = split_put (omega (arith, c.requires)) (rw (c.write_digits.ensures, e, drop-drop) refl); ended = omega (arith, c.digit_count.ensures) }) c.push.ensures
