-- The search's words: of a work slice the first n are a word a lot, the next n the queue. One lot's in-list gone through, as a function of the words, and what the
-- words keep of the search.
use Rattle.std.specs.Prelude.{ℕ, ◌+◌, ◌*◌, ◌≤◌, ◌<◌, ◌≡◌, cond, List, [], ◌∷◌, length, get_or, set, take, drop, eqb}
use Rattle.nearest.specs.Search.{Network, Search}

-- ---- the words

-- a word a lot
abbrev pub dist_in : ℕ → List ℕ → List ℕ
dist_in n work = take n work

-- the queue so far
abbrev pub queue_in : ℕ → ℕ → List ℕ → List ℕ
queue_in n tail work = take tail (drop n work)

-- The work slice, and how long the queue is.
pub record Frontier : Type 0 where
  pub tail : ℕ
  pub work : List ℕ

-- lot x, not seen before, gets its word and goes to the end of the queue
abbrev pub pushed : ℕ → ℕ → ℕ → Frontier → Frontier
pushed n word x f = record { tail = f.tail + 1; work = set (set f.work x word) (n + f.tail) x }

-- one edge of an in-list, from lot x
unfoldable pub turn : ℕ → ℕ → ℕ → Frontier → Frontier
turn n word x f = cond (eqb (get_or f.work x 0) 0) (pushed n word x f) f

-- the edges of an in-list, one after the other
unfoldable pub expanded : ℕ → (ℕ → ℕ) → ℕ → List ℕ → Frontier → Frontier
expanded n source word [] f = f
expanded n source word (e ∷ es) f = expanded n source word es (turn n word (source e) f)

-- the same of a slice and a length
abbrev pub frontier : ℕ → List ℕ → Frontier
frontier tail work = record { tail = tail; work = work }

-- ---- what they keep

-- The search for y so far, of the words; `rest` is what stands past the 2 n words.
pub record Held (t : Network) (n y head : ℕ) (rest past : List ℕ) (f : Frontier) : Type 0 where
  pub long : 2 * n ≤ length f.work
  pub within : f.tail ≤ n
  pub beyond : drop (2 * n) f.work ≡ rest
  pub search : Search t y (dist_in n f.work) (queue_in n f.tail f.work) head past

-- The lot z at the queue's head, whose in-list is gone through, and the word that new lots get.
pub record Standing (n head z word : ℕ) (f : Frontier) : Type 0 where
  pub more : head < f.tail
  pub at : get_or (queue_in n f.tail f.work) head 0 ≡ z
  pub next : word ≡ get_or (dist_in n f.work) z 0 + 1
