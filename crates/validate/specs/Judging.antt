-- The check before a call: where a rule is broken the call answers 1 with that rule; else the store is checked and what the call itself answers counts.
use Rattle.std.specs.Prelude.{ℕ, ◌≡◌, []}
use Rattle.plain.specs.declared.Answer.{Answer}
use Rattle.plain.specs.Numbers.{no_store}
use Rattle.plain.specs.Reads.{Reply}
use Rattle.shape.specs.Shape.{Words}
use Rattle.shape.specs.Rules.{broken}
use Rattle.shape.specs.Checked.{Checked}

-- What the check found: the first broken rule, and a checked store where there is none.
pub record Judged (w : Words) (rule : ℕ) : Type 0 where
  pub first : rule ≡ broken w
  pub checked : rule ≡ 0 → Checked w

-- "words are no store | 1 | rule 1 to 7 | everything"
abbrev pub refusal : ℕ → Answer
refusal rule = record { number = no_store; value = rule }

abbrev pub reply_refusal : ℕ → Reply
reply_refusal rule = record { number = no_store; value = rule; words = [] }
