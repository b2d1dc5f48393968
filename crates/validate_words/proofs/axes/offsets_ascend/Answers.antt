-- `validate_words::axes::offsets_ascend` meets its contract: the words from one on and those from the next are parts of the column.
use Rattle.std.specs.Prelude.{suc, ◌+◌, ◌≤◌, ◌≡◌, length, leb}
use Rattle.plain.specs.Library.{sym, ap₂, ◌∙◌, arith}
use Rattle.validate_words.specs.Laws.Passing.{part_long, part_at, slots_agree}
use Rattle.validate_words.proofs.axes.offsets_ascend.Goals as goal

pub returns : goal.returns
returns c =
    let ws = c.args.axis.now in
    let at = c.args.at in
    let base = c.args.base in
    let there : at + base ≤ length ws = omega (arith, c.requires) in
    let later : at + 1 + base ≤ length ws = omega (arith, c.requires) in
    c.none_above.ensures ∙ rw (part_long ws at base there)
    (slots_agree _ _ base
    (λ x l. let next : at + 1 + x ≡ at + suc x = omega arith in ap₂ leb (part_at ws at base there x l) (part_at ws (at + 1) base later x l ∙ rw next)))

pub none_above-requires : goal.none_above-requires
none_above-requires c =
    let ws = c.args.axis.now in
    let at = c.args.at in
    let base = c.args.base in
    part_long ws at base (omega (arith, c.requires)) ∙ sym (part_long ws (at + 1) base (omega (arith, c.requires)))
