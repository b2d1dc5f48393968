-- `lotstrip_text::text::Text::write` meets its contract.
use Rattle.std.specs.Prelude.{◌+◌, ◌-◌, ◌≡◌, refl, length}
use Rattle.plain.specs.Library.{arith}
use lib.Seq.{drop-drop}
use Rattle.bits.specs.Laws.Put.{split_put}
use Rattle.lotstrip_text.proofs.text.Text.write.Goals as goal

pub returns : goal.returns
returns c =
    let a = c.args in
    let e : a.self.now.end + length a.bytes.now - a.self.now.end ≡ length a.bytes.now = omega arith in
    record { same = refl; put = split_put c.requires (rw (c.copy_from_slice.ensures.after, e, drop-drop) refl); ended = refl }
