-- What a strip comes to: one equation with the fold of document 01's operations, answers as a whole list.
use Rattle.std.specs.Prelude.{ℕ, ◌*◌, ◌/◌, ◌%◌, ◌≤◌, ◌<◌, ◌≡◌, List, [], ◌∷◌, length}
use Rattle.plain.specs.declared.Answer.{Answer}
use Rattle.plain.specs.declared.Operation.{Operation}
use Rattle.plain.specs.Numbers.{done, no_store, too_short, ragged}
use Rattle.plain.specs.Lists.{written}
use Rattle.plain.specs.Operations.{operation_words, operations}
use Rattle.plain.specs.Step.{run, answers}
use Rattle.plain.specs.Calls.{Stripped, strip, judged_strip}
use Rattle.shape.specs.Shape.{Words, capacities, shape_of}
use Rattle.shape.specs.Checked.{Checked}
use Rattle.shape.specs.Rules.{broken}
use Rattle.shape.specs.Kept.{Kept, Spared, SameLengths}
use Rattle.shape.specs.Fields.{StripLeaves}
use Rattle.shape.specs.Steps.{shape_run, state_of}
use Rattle.refusals.specs.Step.{StepOf}

-- What it takes to run a strip: a checked store, and two words of answer for every operation.
pub record Runnable (w : Words) (words answers : List ℕ) : Type 0 where
  pub checked : Checked w
  pub room : 2 * length (operations words) ≤ length answers

-- Operations done in turn, from store w to store v, each on the store that the one before left: of these a refused one leaves every word.
pub data Steps : Words → List Operation → Words → Type 0 where
  no_step : {w : Words} → Steps w [] w
  one_step : {w u v : Words} {x : Operation} {ops : List Operation} {number value : ℕ} → StepOf x w u number value → Steps u ops v → Steps w (x ∷ ops) v

-- What operations come to that were done in turn on store w, with answers into `entry`: the store v, and the answer slice `exit`.
pub record Ran (w : Words) (ops : List Operation) (entry : List ℕ) (v : Words) (exit : List ℕ) : Type 0 where
  pub shape : shape_of v ≡ shape_run (capacities w) (shape_of w) ops
  pub state : state_of (shape_of v) ≡ run (capacities w) (state_of (shape_of w)) ops
  pub checked : Checked v
  pub lengths : SameLengths w v
  pub kept : Kept w v
  pub steps : Steps w ops v
  -- "words past an answer's end keep their content"
  pub answered : exit ≡ written (answers (capacities w) (state_of (shape_of w)) ops) entry

-- What a strip answers before its first operation, by the rule that its store breaks, its length and the room for its answers: "1, 3, 2", else 0.
pub data Opening (rule length room : ℕ) : Answer → Type 0 where
  -- "words are no store | 1 | rule 1 to 7 | everything"
  unsound : (rule ≡ 0 → ⊥) → Opening rule length room (record { number = no_store; value = rule })
  -- "Number 3 now concerns multiples of five": 3, its length, everything
  uneven : rule ≡ 0 → (length % operation_words ≡ 0 → ⊥) → Opening rule length room (record { number = ragged; value = length })
  -- "a lent slice too short | 2 | length needed | everything"
  short : rule ≡ 0 → length % operation_words ≡ 0 → room < 2 * (length / operation_words)
      → Opening rule length room (record { number = too_short; value = 2 * (length / operation_words) })
  opens : rule ≡ 0 → length % operation_words ≡ 0 → 2 * (length / operation_words) ≤ room → Opening rule length room (record { number = done; value = 0 })

-- what document 01 says of a strip on a store, number 1 included
abbrev pub stripped : Words → List ℕ → ℕ → Stripped
stripped w words room = judged_strip (broken w) (state_of (shape_of w)) (strip (capacities w) (state_of (shape_of w)) words room)

-- What a strip comes to on any words.
pub record StripOf (w : Words) (words entry : List ℕ) (number value : ℕ) (v : Words) (exit : List ℕ) : Type 0 where
  pub numbered : number ≡ (stripped w words (length entry)).number
  pub valued : value ≡ (stripped w words (length entry)).value
  -- a refusal writes nothing, and words past the answers keep their content
  pub answered : exit ≡ written (stripped w words (length entry)).words entry
  pub state : state_of (shape_of v) ≡ (stripped w words (length entry)).after
  -- run contents are fixed, not only the lists
  pub shape : number ≡ 0 → shape_of v ≡ shape_run (capacities w) (shape_of w) (operations words)
  pub checked : number ≡ 0 → Checked v
  pub lengths : SameLengths w v
  -- "A refused operation changes nothing and the strip goes on": not a word
  pub steps : number ≡ 0 → Steps w (operations words) v
  -- "a lent slice too short .. everything": not a word of the store changes
  pub refused_keeps : (number ≡ 0 → ⊥) → v ≡ w
  -- column by column: no word of the index, none past the bounds and no spare one is written; and a mark is as it was, or 1 where it was 0, so that every field is
  -- fixed (Agreeing)
  pub kept : Kept w v
  pub spared : Spared w v
  -- of what is no field (`NoField`): which words are as they were, and which are left to the program
  pub leaves : StripLeaves w v
