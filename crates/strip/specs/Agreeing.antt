-- Two outcomes of one strip agree on every field, so what is no field is all that the contract leaves to the program.
use Rattle.std.specs.Prelude.{ℕ, List, eqb}
use Rattle.plain.specs.Library.{sym, ◌∙◌, eqb-true, eqb-false}
use Rattle.plain.proofs.Laws.Booleans.{by_test}
use Rattle.shape.specs.Shape.{Words}
use Rattle.shape.specs.Fields.{SameFields}
use Rattle.shape.specs.Laws.Agreeing.{Narrow}
use Rattle.shape.proofs.Laws.Agreeing.{kept_fields, kept_both}
use Rattle.strip.specs.Strip.{StripOf}

-- A refused strip leaves every word; of one that is done the shape is fixed, and each mark, by what it was and whether the node has a run. That live words are
-- words of 64 bits holds of every slice of `u64`.
pub strip_outcomes_agree : {w v u : Words} {words entry exit exit' : List ℕ} {number value number' value' : ℕ} → StripOf w words entry number value v exit
    → StripOf w words entry number' value' u exit' → Narrow v → Narrow u → SameFields v u
strip_outcomes_agree {number = number} a b v-narrow u-narrow =
    by_test (eqb number 0)
    (λ t. let done = eqb-true number 0 t in
    let too = b.numbered ∙ sym a.numbered ∙ done in
    kept_fields (a.checked done) (b.checked too) (b.shape too ∙ sym (a.shape done)) a.lengths b.lengths a.kept b.kept
    v-narrow u-narrow)
    (λ t. let refused = eqb-false number 0 t in
    kept_both (a.refused_keeps refused) (b.refused_keeps (λ q. refused (a.numbered ∙ sym b.numbered ∙ q))))
