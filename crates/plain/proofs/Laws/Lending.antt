-- A call that refuses the first lent slice that is too short: what its refusal says, and what is known where it goes on.
use Rattle.std.specs.Prelude.{◌<◌, ℕ, ◌≡◌, refl, List, Ok, Err}
use Rattle.plain.specs.Library.{Option, none, some, ap, sym, ⊎_elim, arith}
use Rattle.plain.specs.declared.Answer.{Answer}
use Rattle.plain.specs.declared.refusals.Refusal.{Refusal}
use Rattle.plain.specs.declared.refusals.Refusal.TheVariants.{NoStore, TooShort, Ragged, UnknownCode, OutOfRangeNode, RemovedNode, OutOfRangeEdge, RemovedEdge, OntoItself, Full, Unreadable, AboveLimit, Unreachable, AboveSkid, Inverted}
use Rattle.plain.specs.Answers.{done_of}
use Rattle.plain.specs.Calls.{short_answer}
use Rattle.plain.specs.Memory.{Slice, first_short}
use Rattle.plain.specs.Refusals.{number_of, value_of}
use Rattle.plain.specs.Laws.CallCases.{LongEnough}
use Rattle.plain.proofs.Laws.CallCases.{long_or_short, one_short}

-- no refusal has the number of what is done
pub refusal_number : (r : Refusal) → 0 < number_of r
refusal_number (NoStore rule) = omega arith
refusal_number (TooShort needed) = omega arith
refusal_number (Ragged length) = omega arith
refusal_number UnknownCode = omega arith
refusal_number OutOfRangeNode = omega arith
refusal_number RemovedNode = omega arith
refusal_number OutOfRangeEdge = omega arith
refusal_number RemovedEdge = omega arith
refusal_number OntoItself = omega arith
refusal_number Full = omega arith
refusal_number (Unreadable rule) = omega arith
refusal_number (AboveLimit capacity) = omega arith
refusal_number Unreachable = omega arith
refusal_number (AboveSkid asked) = omega arith
refusal_number Inverted = omega arith

-- refused, the first that is too short needs what is told
pub first_told : (r : Refusal) (first : Option ℕ) → done_of (Err r) ≡ short_answer first → (first ≡ some (value_of r)) × (number_of r ≡ 2)
first_told r none is = absurd (omega (arith, refusal_number r, ap (λ (a : Answer). a.number) is))
first_told r (some needed) is = (ap (λ (a : Answer). some a.value) (sym is), ap (λ (a : Answer). a.number) is)

-- not refused, none is
pub none_told : {done : Unit} (first : Option ℕ) → done_of (Ok done) ≡ short_answer first → first ≡ none
none_told none is = refl
none_told (some needed) is = absurd (omega (arith, ap (λ (a : Answer). a.number) is))

-- where none is, all are long enough
pub none_short : (slices : List Slice) → first_short slices ≡ none → LongEnough slices
none_short slices is = ⊎_elim (λ h. h) (λ short. let first = one_short short.1 in cc) (long_or_short slices)
