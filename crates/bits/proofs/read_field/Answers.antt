-- `bits::read_field` meets its contract: a field in a window of eight bytes.
use Rattle.std.specs.Prelude.{ℕ, ◌+◌, ◌-◌, ◌/◌, ◌≤◌, ◌≡◌, length, take, drop}
use Rattle.plain.specs.Library.{ap, ◌∙◌, sym, arith}
use lib.ListN.{length-drop}
use lib.Seq.{take-length}
use Rattle.bits.proofs.Fields.{window_past, window_eight}
use Rattle.bits.proofs.read_field.Goals as goal

pub returns : goal.returns
returns c =
    let a = c.args in
    let s = a.bytes.now in
    let i = a.position / 8 in
    let rest : take (length s - i) (drop i s) ≡ drop i s = ap (λ (n : ℕ). take n (drop i s)) (sym (length-drop i s)) ∙ take-length (drop i s) in
    let room : i + 8 ≤ length s = let enough = rw (rest, length-drop) at c.in-Some.ensures.cases.enough in omega arith in
    rw (c.cut.ensures, c.from_be_bytes.ensures)
    (rw (window_eight s i _ (omega arith) (λ k. (c.type_inv.bytes k).fits) (c.in-Some.ensures.cases.same ∙ ap (take 8) rest))
    (window_past s a.position a.width (omega arith) (omega arith)))
