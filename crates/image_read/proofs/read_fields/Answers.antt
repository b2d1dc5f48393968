-- `image_read::read_fields` meets its contract.
use Rattle.std.specs.Prelude.{ℕ, refl}
use Rattle.plain.specs.Library.{ap, ◌∙◌, length-set, zero-add, arith}
use native.Mathlib.Nat.{mul-zero}
use Rattle.plain.specs.Bits.{field_at}
use Rattle.shape.proofs.Laws.Indexing.{rewritten_none, rewritten_more, rewritten_all}
use Rattle.image_check.specs.Laws.Spread.{spread_room, spread_next, further}
use Rattle.image_read.proofs.read_fields.Goals as goal

pub loop-word-init : goal.loop-word-init
loop-word-init c = let none = mul-zero c.args.stride in record { long = refl; place = omega arith; passed = rewritten_none _ _ _ }

pub read_field-requires : goal.read_field-requires
read_field-requires c = rw c.loop-word.invariant.place (spread_room c.requires c.loop-word.word-index (omega arith))

pub overflow_add-from : goal.overflow_add-from
overflow_add-from c = omega (arith, c.loop-word.invariant.place, spread_next c.requires c.loop-word.word-index (omega arith))

pub loop-word-preserved : goal.loop-word-preserved
loop-word-preserved c =
    let l = c.loop-word in
    let a = c.args in record {
      long = rw length-set l.invariant.long;
      place = omega (arith, l.invariant.place, further a.position a.stride l.word-index);
      passed = rw zero-add at
          (rewritten_more _ l.invariant.passed (omega arith) (c.read_field.ensures ∙ ap (λ (p : ℕ). field_at a.bytes.now p a.width) l.invariant.place));
    }

pub returns : goal.returns
returns c = rewritten_all _ c.loop-word.invariant.passed (omega arith) (omega arith)
