-- A whole strip on the shape: its plain lists and compact flag are those of the strip of document 01.
use Rattle.std.specs.Prelude.{◌≡◌, refl, Bool, List, [], ◌∷◌, ◌++◌}
use Rattle.plain.specs.Library.{ap, ap₂, ◌∙◌}
use Rattle.plain.specs.declared.Operation.{Operation}
use Rattle.plain.specs.Plain.{Plain}
use Rattle.plain.specs.Step.{Capacities, State, stepped, run}
use Rattle.plain.specs.Laws.Stepping.{AllFitting, no_more, one_more}
use Rattle.shape.specs.Shape.{Shape}
use Rattle.shape.specs.Steps.{shape_step, shape_run, state_of}
use Rattle.shape.specs.Laws.Refining.{Proper}
use Rattle.shape.proofs.Laws.Stepping.{step_refines}
use Rattle.shape.proofs.Laws.Keeping.{step_proper}
use Rattle.shape.specs.Laws.Compactness.{Based}
use Rattle.shape.proofs.Laws.Compactness.{step_based, step_compact}

-- one operation on lists and flag
pub step_state : {caps : Capacities} {s : Shape} → Proper caps s → Based s → (operation : Operation)
    → state_of (shape_step caps s operation) ≡ stepped caps (state_of s) operation
step_state h b operation =
    ap₂ {C = State} (λ (p : Plain) (c : Bool). record { lists = p; compact = c }) (step_refines h operation) (step_compact h b operation)

-- a strip on lists and flag
pub run_refines : {caps : Capacities} {s : Shape} {ops : List Operation} → Proper caps s → Based s → AllFitting ops
    → state_of (shape_run caps s ops) ≡ run caps (state_of s) ops
unfolding shape_run run
run_refines h b no_more = refl
run_refines {caps} {s} h b (one_more {x} {xs} f fs) =
    run_refines {s = shape_step caps s x} (step_proper h x f) (step_based caps b x) fs ∙ ap (λ (t : State). run caps t xs) (step_state h b x)

-- one operation more
pub shape_run_snoc : (caps : Capacities) (s : Shape) (ops : List Operation) (x : Operation)
    → shape_run caps s (ops ++ (x ∷ [])) ≡ shape_step caps (shape_run caps s ops) x
unfolding shape_run
shape_run_snoc caps s [] x = refl
shape_run_snoc caps s (y ∷ ops) x = shape_run_snoc caps (shape_step caps s y) ops x
