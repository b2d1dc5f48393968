-- A call that ends by `?`.
use Rattle.std.specs.Prelude.{◌≡◌, Result, Ok, Err}
use Rattle.std.specs.Result.{IsErrAnd}
use Rattle.plain.specs.Library.{ap}
use Rattle.plain.specs.declared.refusals.Refusal.{Refusal}

-- a call that ends with a refusal by `?` answers that refusal
pub refused_exit : {A : Type 0} {r : Refusal} (came : Result A Refusal) → IsErrAnd came (λ e. e ≡ r) → came ≡ Err r
refused_exit (Ok value) none = absurd none
refused_exit (Err e) same = ap Err same
