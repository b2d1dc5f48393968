-- The two ways that an operation ends: it leaves every word, or the store's function has done it.
use Rattle.std.specs.Prelude.{◌≡◌, refl, Bool, true, false, cond}
use Rattle.plain.specs.Library.{sym, ap, ◌∙◌}
use Rattle.plain.specs.declared.Operation.{Operation}
use Rattle.plain.specs.declared.Operation.TheVariants.{Unknown}
use Rattle.plain.specs.Numbers.{NONE}
use Rattle.plain.specs.Step.{Outcome}
use Rattle.plain.proofs.Laws.Booleans.{true_false}
use Rattle.plain.specs.Laws.Cases.{Case, unknown as unknown_code}
use Rattle.plain.proofs.Laws.Cases.{comes_to}
use Rattle.shape.specs.Shape.{Words, capacities, shape_of, lists}
use Rattle.shape.specs.Checked.{Checked}
use Rattle.shape.specs.Kept.{kept_none}
use Rattle.shape.specs.Writes.{nothing_written}
use Rattle.shape.specs.Steps.{acted, acts, shape_step}
use Rattle.store.specs.Operations.{Acted}
use Rattle.refusals.specs.Step.{StepOf}

-- it is refused, or done with nothing to change: every word stays
pub stays : {operation : Operation} {w : Words} {o : Outcome} → Checked w → Case (capacities w) (lists w) operation o → acts operation o ≡ false
    → StepOf operation w w o.number o.value
unfolding shape_step
stays {operation} {w} c case idle =
    let same = comes_to case in
    record {
      numbered = ap (λ (o : Outcome). o.number) (sym same);
      valued = ap (λ (o : Outcome). o.value) (sym same);
      shaped = sym (ap (λ (b : Bool). cond b (acted operation (shape_of w)) (shape_of w)) (ap (acts operation) same ∙ idle));
      live_only = λ h. true_false h (ap (acts operation) same ∙ idle);
      checked = c;
      lengths = refl;
      refused_keeps = λ h. refl;
      idle_keeps = λ h. refl;
      kept = kept_none w;
      writes = nothing_written operation w;
    }

-- it is done and changes the store
pub done : {operation : Operation} {w v : Words} {o : Outcome} → Case (capacities w) (lists w) operation o → acts operation o ≡ true → o.number ≡ 0
    → Acted operation w v → StepOf operation w v o.number o.value
unfolding shape_step
done {operation} {w} case busy zero a =
    let same = comes_to case in
    record {
      numbered = ap (λ (o : Outcome). o.number) (sym same);
      valued = ap (λ (o : Outcome). o.value) (sym same);
      live_only = λ h. a.live_only;
      shaped = a.shape ∙ sym (ap (λ (b : Bool). cond b (acted operation (shape_of w)) (shape_of w)) (ap (acts operation) same ∙ busy));
      checked = a.checked;
      lengths = a.lengths;
      refused_keeps = λ h. absurd (h zero);
      idle_keeps = λ h. true_false (ap (acts operation) same ∙ busy) h;
      kept = a.kept;
      writes = a.writes;
    }

-- ---- unknown codes

pub unknown : {w : Words} → Checked w → StepOf Unknown w w 4 NONE
unknown c = stays c unknown_code refl
