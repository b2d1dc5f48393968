-- Linked lists, over the links as a function from an entry to the next: chains of a length, rings with a last entry. The functions are total, whatever the
-- links; the relations say what they are where the links are right.
use Rattle.std.specs.Prelude.{ℕ, zero, suc, ◌≤◌, ◌<◌, ◌≡◌, true, cond, ◌⊎◌, List, [], ◌∷◌, ◌++◌, length, eqb}
use Rattle.plain.specs.Numbers.{NONE}
use Rattle.plain.specs.Lists.{member, distinct}

-- the n entries from e on
unfoldable pub chain : (ℕ → ℕ) → ℕ → ℕ → List ℕ
chain link zero e = []
chain link (suc n) e = e ∷ chain link n (link e)

-- the entries from e on up to `last`, at most n of them
unfoldable pub until : (ℕ → ℕ) → ℕ → ℕ → ℕ → List ℕ
until link last zero e = []
until link last (suc n) e = e ∷ cond (eqb e last) [] (until link last n (link e))

-- a ring by its last entry, in the order of appending; NONE is the last entry of the empty ring
unfoldable pub ring : (ℕ → ℕ) → ℕ → ℕ → List ℕ
ring link n last = cond (eqb last NONE) [] (until link last n (link last))

-- x is in a list
abbrev pub In : ℕ → List ℕ → Type 0
In x l = member x l ≡ true

-- from e the links visit xs, in order, and then point to q
abbrev pub Seg : (ℕ → ℕ) → ℕ → List ℕ → ℕ → Type 0
Seg link e [] q = e ≡ q
Seg link e (x ∷ xs) q = (e ≡ x) × Seg link (link x) xs q

-- the links visit xs from its first entry f to its last entry t; the entries are different, at least lo and below hi
pub record Line (link : ℕ → ℕ) (lo hi f t : ℕ) (xs : List ℕ) : Type 0 where
  pub front : List ℕ
  pub ends : xs ≡ front ++ (t ∷ [])
  pub visits : Seg link f front t
  pub once : distinct xs ≡ true
  pub least : (x : ℕ) → In x xs → lo ≤ x
  pub below : (x : ℕ) → In x xs → x < hi

-- xs is the run with first entry f, last entry t and n entries below hi; of an empty run f and t say nothing
pub record Run (link : ℕ → ℕ) (hi f t n : ℕ) (xs : List ℕ) : Type 0 where
  pub counted : n ≡ length xs
  pub line : (xs ≡ []) ⊎ Line link 0 hi f t xs

-- l is the last entry of the ring xs, whose entries are at least lo and below hi, or NONE where xs is empty
abbrev pub Ring : (ℕ → ℕ) → ℕ → ℕ → ℕ → List ℕ → Type 0
Ring link lo hi l xs = ((l ≡ NONE) × (xs ≡ [])) ⊎ Line link lo hi (link l) l xs
