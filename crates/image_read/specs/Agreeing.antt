-- Two outcomes of one reading agree on every field, so what is no field is all that the contract leaves to the program.
use Rattle.std.specs.Prelude.{ℕ, ◌≡◌, List, eqb}
use Rattle.plain.specs.Library.{sym, ap, ◌∙◌, eqb-true, eqb-false}
use Rattle.plain.specs.declared.Answer.{Answer}
use Rattle.plain.specs.Devices.{Device}
use Rattle.plain.proofs.Laws.Booleans.{by_test}
use Rattle.shape.specs.Shape.{Words}
use Rattle.shape.specs.Fields.{SameFields}
use Rattle.shape.proofs.Laws.Agreeing.{kept_both}
use Rattle.compact.specs.Agreeing.{canonical_fields}
use Rattle.image_read.specs.Calls.{ReadOf}

-- A refused reading leaves every word; of one that is done the shape is fixed, and the store is canonical.
pub reading_outcomes_agree : {device : Device} {w v u : Words} {bytes : List ℕ} {number value number' value' : ℕ} → ReadOf device w bytes number value v → ReadOf device w bytes number' value' u
    → SameFields v u
reading_outcomes_agree {number = number} {number' = number'} a b =
    by_test (eqb number 0)
    (λ t. let done = eqb-true number 0 t in
    let too = one ∙ done in
    canonical_fields (a.checked done) (b.checked too) (b.shape too ∙ sym (a.shape done)) (b.lengths ∙ sym a.lengths)
    (a.canonical done) (b.canonical too))
    (λ t. let refused = eqb-false number 0 t in
    kept_both (a.refused_keeps refused) (b.refused_keeps (λ q. refused (sym one ∙ q))))
  where
    one : number' ≡ number
    one = ap (λ (r : Answer). r.number) (b.answered ∙ sym a.answered)
