-- What the search and the way forward come to together, and what the call refuses before them.
use Rattle.std.specs.Prelude.{ℕ, ◌≡◌, List, length, drop}
use Rattle.plain.specs.declared.TraversalDirection.TheVariants.{Outgoing, Incoming}
use Rattle.plain.specs.declared.Answer.{Answer}
use Rattle.plain.specs.Lists.{written}
use Rattle.plain.specs.Plain.{list_of, end_of}
use Rattle.shape.specs.Shape.{Words, node_capacity, lists}
use Rattle.shape.specs.Rules.{broken}
use Rattle.nearest.specs.Chains.{nearest}
use Rattle.nearest.specs.Calls.{Searched, unsearched, work_needed, chain_answer, nearest_of}
use Rattle.nearest.specs.Stores.{Asked}

-- what the call's definition says once nothing is refused before the search
abbrev pub search_of : Words → ℕ → ℕ → ℕ → Searched
search_of w first goal room =
    chain_answer (node_capacity w) room (nearest (list_of Outgoing (lists w)) (end_of Incoming (lists w)) (node_capacity w) first goal)

-- What is found: that, but for the borrowed words, which are left as they come; those past them are as before.
pub record Found (w : Words) (first goal : ℕ) (work chain : List ℕ) (r : Answer) (work' chain' : List ℕ) : Type 0 where
  pub numbered : r.number ≡ (search_of w first goal (length chain)).number
  pub valued : r.value ≡ (search_of w first goal (length chain)).value
  pub wrote : chain' ≡ written (search_of w first goal (length chain)).chain chain
  pub same_length : length work' ≡ length work
  pub beyond : drop (work_needed (node_capacity w)) work' ≡ drop (work_needed (node_capacity w)) work

-- What is answered and left: all of it, as equations on the whole slices.
pub record Answered (w : Words) (first goal : ℕ) (work chain : List ℕ) (r : Answer) (work' chain' : List ℕ) : Type 0 where
  pub numbered : r.number ≡ (search_of w first goal (length chain)).number
  pub valued : r.value ≡ (search_of w first goal (length chain)).value
  pub wrote : chain' ≡ written (search_of w first goal (length chain)).chain chain
  pub worked : work' ≡ written (search_of w first goal (length chain)).work work

-- What is refused before the search, where the work slice has `room` words: the answer that the call's definition gives, whatever the chain's slice; or nothing, and
-- the search can begin.
pub record Refused (w : Words) (first goal room : ℕ) (r : Answer) : Type 0 where
  pub refused : (r.number ≡ 0 → ⊥) → (chain : ℕ) → nearest_of w first goal room chain ≡ unsearched r.number r.value
  pub unbroken : r.number ≡ 0 → broken w ≡ 0
  pub asked : r.number ≡ 0 → (work : List ℕ) → length work ≡ room → Asked w first goal work
