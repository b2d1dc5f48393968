-- `strip::strip` meets its contract: the check and the answer before the first operation, then the operations.
use Rattle.std.specs.Prelude.{refl}
use Rattle.plain.specs.Library.{arith}
use Rattle.plain.proofs.Laws.Exits.{refused_exit}
use Rattle.plain.proofs.Laws.Lending.{refusal_number}
use Rattle.strip.proofs.Ending.{strip_refused, strip_runnable, strip_run}
use Rattle.strip.proofs.strip.Goals as goal

pub returns-in_err-opening-clause-strips : goal.returns-in_err-opening-clause-strips
returns-in_err-opening-clause-strips c =
    rw (refused_exit _ c.from_residual-in_err-opening.ensures.1)
    (strip_refused c.as_store.ensures _ _ c.in_ok-check_store.ensures c.in_err-opening.ensures (λ q. omega (arith, refusal_number c.in_err-opening.field-0.0)))

pub run-requires : goal.run-requires
run-requires c = strip_runnable c.as_store.ensures _ _ c.in_ok-check_store.ensures c.in_ok-opening.ensures refl

pub returns-clause-strips : goal.returns-clause-strips
returns-clause-strips c = strip_run c.as_store.ensures _ _ c.in_ok-check_store.ensures c.in_ok-opening.ensures refl c.run.ensures.ran
