-- The few functions on lists that the definitions of document 01 use beside the library's.
use Rattle.std.specs.Prelude.{ℕ, zero, suc, ◌+◌, Bool, true, false, cond, ◌&&◌, ◌||◌, not, List, [], ◌∷◌, ◌++◌, length, drop, get_or, set, eqb}

-- whether x is in a list
unfoldable pub member : ℕ → List ℕ → Bool
member x [] = false
member x (y ∷ ys) = eqb x y || member x ys

-- a list without x
unfoldable pub without : ℕ → List ℕ → List ℕ
without x [] = []
without x (y ∷ ys) = cond (eqb x y) (without x ys) (y ∷ without x ys)

-- whether nothing is in a list twice
unfoldable pub distinct : List ℕ → Bool
distinct [] = true
distinct (x ∷ xs) = not (member x xs) && distinct xs

-- whether two lists are equal
unfoldable pub same : List ℕ → List ℕ → Bool
same [] [] = true
same [] (y ∷ ys) = false
same (x ∷ xs) [] = false
same (x ∷ xs) (y ∷ ys) = eqb x y && same xs ys

-- the numbers of a list, added up
unfoldable pub sum : List ℕ → ℕ
sum [] = 0
sum (n ∷ ns) = n + sum ns

-- n numbers from a on
unfoldable pub from : ℕ → ℕ → List ℕ
from a zero = []
from a (suc n) = a ∷ from (suc a) n

module _ {A : Type 0} where
  -- what passes a test, in its order
  unfoldable pub keep : (A → Bool) → List A → List A
  keep test [] = []
  keep test (x ∷ xs) = cond (test x) (x ∷ keep test xs) (keep test xs)

  -- whether all pass a test
  unfoldable pub all : (A → Bool) → List A → Bool
  all test [] = true
  all test (x ∷ xs) = test x && all test xs

  -- how many pass a test
  unfoldable pub count : (A → Bool) → List A → ℕ
  count test [] = 0
  count test (x ∷ xs) = cond (test x) 1 0 + count test xs

  -- the lists one after the other
  unfoldable pub joined : List (List A) → List A
  joined [] = []
  joined (l ∷ ls) = l ++ joined ls

  -- what a lent slice holds once xs is written at its start: "words past an answer's end keep their content"
  abbrev pub written : List A → List A → List A
  written xs entry = xs ++ drop (length xs) entry

-- the lists, with more appended to list x
unfoldable pub append_at : ℕ → List ℕ → List (List ℕ) → List (List ℕ)
append_at x more lists = set lists x (get_or lists x [] ++ more)

-- the lists, with y deleted from list x
unfoldable pub delete_at : ℕ → ℕ → List (List ℕ) → List (List ℕ)
delete_at x y lists = set lists x (without y (get_or lists x []))

-- the list, with v at each of the places
unfoldable pub set_all : List ℕ → ℕ → List ℕ → List ℕ
set_all [] v list = list
set_all (i ∷ places) v list = set (set_all places v list) i v
