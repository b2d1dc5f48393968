-- Two outcomes of one join agree on every field, so what is no field is all that the contract leaves to the program.
use Rattle.std.specs.Prelude.{ℕ, ◌≡◌, eqb}
use Rattle.plain.specs.Library.{sym, ap, ◌∙◌, eqb-true, eqb-false}
use Rattle.plain.specs.declared.Answer.{Answer}
use Rattle.plain.proofs.Laws.Booleans.{by_test}
use Rattle.shape.specs.Fields.{SameFields}
use Rattle.shape.specs.Shape.{Words}
use Rattle.shape.proofs.Laws.Agreeing.{kept_both}
use Rattle.compact.specs.Agreeing.{canonical_fields}
use Rattle.join.specs.Calls.{LentMaps, JoinOf}

-- A refused join leaves every word; of one that is done the shape is fixed, and the store is canonical. The slices lent for the maps are those of one call.
pub join_outcomes_agree : {first second w v u : Words} {maps maps' maps'' : LentMaps} {number value number' value' : ℕ} → JoinOf first second w maps number value v maps'
    → JoinOf first second w maps number' value' u maps'' → SameFields v u
join_outcomes_agree {number = number} {number' = number'} a b =
    let same : number' ≡ number = ap (λ (r : Answer). r.number) (b.answered ∙ sym a.answered) in
    by_test (eqb number 0)
    (λ t. let done = eqb-true number 0 t in
    let too = same ∙ done in
    canonical_fields (a.checked done) (b.checked too) (b.shape too ∙ sym (a.shape done)) (b.lengths ∙ sym a.lengths) (a.canonical done) (b.canonical too))
    (λ t. let refused = eqb-false number 0 t in
    kept_both (a.refused_keeps refused) (b.refused_keeps (λ q. refused (sym same ∙ q))))
