-- What the public calls of this crate promise: each is the definition of crate plain.
use Rattle.std.specs.Prelude.{ℕ, ◌≡◌, cond, List, length, eqb}
use Rattle.plain.specs.declared.Answer.{Answer}
use Rattle.plain.specs.Numbers.{NONE}
use Rattle.plain.specs.Lists.{written}
use Rattle.plain.specs.Renumbering.{lookup, lookup_answer, compose, is_identity}

-- what the second map makes of a slot that the first one gave, as in `composed`
abbrev pub through : List ℕ → ℕ → ℕ
through second slot = cond (eqb slot NONE) NONE (lookup second slot)

-- "The slot a map lookup gives or NONE."
pub record Lookup (renumbering : List ℕ) (slot : ℕ) (answer : Answer) : Type 0 where
  pub answers : answer ≡ lookup_answer renumbering slot

-- "Compose: 2." The result slice's words are given as the call begins.
pub record Compose (first second result : List ℕ) (answer : Answer) (exit : List ℕ) : Type 0 where
  pub number : answer.number ≡ (compose first second (length result)).number
  pub value : answer.value ≡ (compose first second (length result)).value
  -- a refusal writes nothing, and words past the result keep their content
  pub writes : exit ≡ written (compose first second (length result)).words result

-- "1 or 0 for a yes or no."
pub record IsIdentity (nodes edges : List ℕ) (answer : Answer) : Type 0 where
  pub answers : answer ≡ is_identity nodes edges
