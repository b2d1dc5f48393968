-- What is answered with number 0 was not refused.
use Rattle.std.specs.Prelude.{ℕ, ◌≡◌, refl, Result, Ok, Err, IsOk}
use Rattle.plain.specs.Library.{arith}
use Rattle.plain.specs.declared.refusals.Refusal.{Refusal}
use Rattle.plain.specs.Answers.{answer_by}
use Rattle.plain.proofs.Laws.Lending.{refusal_number}

-- what came is there
pub done_ok : {A : Type 0} (value_is : A → ℕ) (came : Result A Refusal) → (answer_by value_is came).number ≡ 0 → IsOk came
done_ok value_is (Ok value) done = refl
done_ok value_is (Err refusal) done = absurd (omega (arith, refusal_number refusal))
