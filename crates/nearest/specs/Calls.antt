-- The call for the nearest lot: its definition on the plain lists, with the lengths of what is lent, and what its entry promises on any words. Document 02, No. 4.
use Rattle.std.specs.Prelude.{ℕ, zero, suc, ◌*◌, ◌≡◌, cond, List, [], length, replicate, ltb}
use Rattle.plain.specs.Library.{Option, none, some}
use Rattle.plain.specs.declared.TraversalDirection.TheVariants.{Outgoing, Incoming}
use Rattle.plain.specs.declared.Answer.{Answer}
use Rattle.plain.specs.Numbers.{NONE, done, no_store, too_short, unreachable}
use Rattle.plain.specs.Lists.{written}
use Rattle.plain.specs.Plain.{Plain, list_of, end_of}
use Rattle.plain.specs.Step.{node_fault}
use Rattle.shape.specs.Shape.{Words, node_capacity, lists}
use Rattle.shape.specs.Rules.{broken}
use Rattle.nearest.specs.Chains.{nearest}

-- What a call comes to: number and value, and the words that the work slice and the chain's slice then start with.
pub record Searched : Type 0 where
  pub number : ℕ
  pub value : ℕ
  pub work : List ℕ
  pub chain : List ℕ

-- refused with nothing written
abbrev pub unsearched : ℕ → ℕ → Searched
unsearched number value = record { number = number; value = value; work = []; chain = [] }

-- refused with a number that is not 0, and NONE; else as it goes on
abbrev pub search_unless : ℕ → Searched → Searched
search_unless zero searched = searched
search_unless (suc number) searched = unsearched (suc number) NONE

-- "a work slice of twice the lot capacity"
abbrev pub work_needed : ℕ → ℕ
work_needed capacity = 2 * capacity

-- "these words are all zero"
abbrev pub cleared : ℕ → List ℕ
cleared capacity = replicate (work_needed capacity) 0

-- "These words are all zero after an answer 0 or 14 and after the 2 for the chain, the chain's slice then being untouched." "The value is the chain's length."
-- `room` is the length of the chain's slice.
abbrev pub chain_answer : ℕ → ℕ → Option (List ℕ) → Searched
chain_answer capacity room none = record { number = unreachable; value = NONE; work = cleared capacity; chain = [] }
chain_answer capacity room (some c) =
    cond (ltb room (length c)) (record { number = too_short; value = length c; work = cleared capacity; chain = [] })
    (record { number = done; value = length c; work = cleared capacity; chain = c })

-- "It refuses with 14 ..: after 1, after 5 and 6 for the first lot and then for the second, after 2 for the work slice, and before 2 for the chain." Of the lot
-- capacity, the two lots, and the lengths of the work slice and the chain's.
unfoldable pub nearest_lot : ℕ → Plain → ℕ → ℕ → ℕ → ℕ → Searched
nearest_lot capacity p first second work room =
    search_unless (node_fault p first)
    (search_unless (node_fault p second)
    (cond (ltb work (work_needed capacity)) (unsearched too_short (work_needed capacity))
    (chain_answer capacity room (nearest (list_of Outgoing p) (end_of Incoming p) capacity first second))))

-- "words are no store | 1 | rule 1 to 7 | everything", of this call
abbrev pub judged_search : ℕ → Searched → Searched
judged_search zero searched = searched
judged_search (suc rule) searched = unsearched no_store (suc rule)

-- what the documents say of the call on a store, number 1 included
abbrev pub nearest_of : Words → ℕ → ℕ → ℕ → ℕ → Searched
nearest_of w first second work room = judged_search (broken w) (nearest_lot (node_capacity w) (lists w) first second work room)

-- What the entry promises: what the two lent slices hold as the call begins (`work`, `chain`) and as it ends. A refusal but 14 and the last 2 writes nothing, and
-- words past those that the definition names keep their content. The store is lent by `&`, so every word of it stays.
pub record NearestOf (w : Words) (first second : ℕ) (work chain : List ℕ) (answer : Answer) (work' chain' : List ℕ) : Type 0 where
  pub numbered : answer.number ≡ (nearest_of w first second (length work) (length chain)).number
  pub valued : answer.value ≡ (nearest_of w first second (length work) (length chain)).value
  pub worked : work' ≡ written (nearest_of w first second (length work) (length chain)).work work
  pub wrote : chain' ≡ written (nearest_of w first second (length work) (length chain)).chain chain
