-- The first entry of a list that passes a test, and what a search for it along a walk finds: the entry, and the cursor behind it.
use Rattle.std.specs.Prelude.{ℕ, ◌<◌, ◌≤◌, ◌≡◌, refl, Bool, true, false, cond, ◌&&◌, not, List, [], ◌∷◌, ◌++◌, length, eqb, Option, None, Some}
use Rattle.plain.specs.Library.{sym, ap, ◌∙◌, append-nil, length-append, arith, eqb-true}
use Rattle.plain.specs.Lists.{member, keep}
use Rattle.plain.proofs.Laws.Booleans.{by_test, and_true}
use Rattle.cursor.specs.declared.AdjacencyCursor.{AdjacencyCursor}
use Rattle.cursor.specs.Cursor.{remaining, listed_left, Ready, Seekable}

-- ---- the definitions

-- what was found, with what is left behind it
abbrev pub found_then : Option ℕ → List ℕ → List ℕ
found_then None rest = []
found_then (Some e) rest = e ∷ rest

-- a list from its first entry on that passes a test
unfoldable pub from_first : (ℕ → Bool) → List ℕ → List ℕ
from_first test [] = []
from_first test (x ∷ xs) = cond (test x) (x ∷ xs) (from_first test xs)

-- What a search for the next entry that passes finds: the walk from that entry on is the entry and what the cursor left has to read.
pub record Sought (test : ℕ → Bool) (linked : Bool) (entries next : List ℕ) (c : AdjacencyCursor) (s : Option ℕ × AdjacencyCursor) : Type 0 where
  pub ready : Ready linked entries next s.1
  pub left : from_first test (remaining linked entries next c) ≡ found_then s.0 (remaining linked entries next s.1)

-- What it takes to write the listed entries of a walk to a slice: room for all.
pub record Writable (linked : Bool) (entries next : List ℕ) (tombstoned : Bool) (live : List ℕ) (slots : ℕ) (c : AdjacencyCursor) (out : List ℕ)
    : Type 0 where
  pub seekable : Seekable linked entries next live slots c
  pub fits : length (listed_left linked entries next tombstoned live slots c) ≤ length out

-- ---- a list from its first entry on that passes

-- the same entries pass
from_first_keep : (test : ℕ → Bool) (xs : List ℕ) → keep test (from_first test xs) ≡ keep test xs
unfolding from_first keep
from_first_keep test [] = refl
from_first_keep test (x ∷ xs) = by_test (test x) (λ t. rw (t, t)) (λ t. rw t (from_first_keep test xs))

-- its first entry passes
from_first_passes : (test : ℕ → Bool) (xs : List ℕ) (e : ℕ) (rest : List ℕ) → from_first test xs ≡ e ∷ rest → test e ≡ true
unfolding from_first
from_first_passes test [] e rest q = let z : ◌≡◌ {A = ℕ} 0 1 = cc in absurd (omega arith)
from_first_passes test (x ∷ xs) e rest q =
    by_test (test x) (λ t. let same : x ≡ e = cc (rw t at q) in rw same at t) (λ t. from_first_passes test xs e rest (rw t at q))

-- those before it
unfoldable pub before_first : (ℕ → Bool) → List ℕ → List ℕ
before_first test [] = []
before_first test (x ∷ xs) = cond (test x) [] (x ∷ before_first test xs)

-- both are the list
before_from : (test : ℕ → Bool) (xs : List ℕ) → xs ≡ before_first test xs ++ from_first test xs
unfolding before_first from_first
before_from test [] = refl
before_from test (x ∷ xs) = by_test (test x) (λ t. rw t) (λ t. rw t (ap (λ (l : List ℕ). x ∷ l) (before_from test xs)))

-- none of those before it passes
pub before_fails : (test : ℕ → Bool) (xs : List ℕ) (k : ℕ) → (test k && not (member k (before_first test xs))) ≡ test k
unfolding before_first member
before_fails test [] k = and_true (test k)
before_fails test (x ∷ xs) k =
    by_test (test x) (λ t. rw t (and_true (test k)))
    (λ t.
    rw t
    (by_test (eqb k x) (λ q. let fails : test k ≡ false = ap test (eqb-true k x q) ∙ t in rw (q, fails)) (λ q. rw q (before_fails test xs k))))

-- ---- what a search found

module _ {test : ℕ → Bool} {linked : Bool} {entries next : List ℕ} {c : AdjacencyCursor} {s : Option ℕ × AdjacencyCursor} (found : Sought test linked entries next c s) where
  -- an entry: it is the first that passes, and the cursor has those behind it
  pub sought_edge : {e : ℕ} → s.0 ≡ Some e
      → keep test (remaining linked entries next c) ≡ e ∷ keep test (remaining linked entries next s.1)
  unfolding keep
  sought_edge {e} q =
      let left : from_first test (remaining linked entries next c) ≡ e ∷ remaining linked entries next s.1 = rw q at found.left in
      sym (from_first_keep test (remaining linked entries next c))
      ∙ rw (left, from_first_passes test (remaining linked entries next c) e (remaining linked entries next s.1) left)

  -- the entries before it were passed over
  pub sought_whole : {e : ℕ} → s.0 ≡ Some e
      → remaining linked entries next c ≡ before_first test (remaining linked entries next c) ++ (e ∷ remaining linked entries next s.1)
  sought_whole {e} q =
      let left : from_first test (remaining linked entries next c) ≡ e ∷ remaining linked entries next s.1 = rw q at found.left in
      before_from test (remaining linked entries next c) ∙ ap (λ (l : List ℕ). before_first test (remaining linked entries next c) ++ l) left

  -- less is left
  pub sought_less : {e : ℕ} → s.0 ≡ Some e → length (remaining linked entries next s.1) < length (remaining linked entries next c)
  sought_less {e} q = omega (arith, simp length-append at (ap length (sought_whole q)))

  -- nothing: all were passed over
  pub sought_over : s.0 ≡ None → remaining linked entries next c ≡ before_first test (remaining linked entries next c)
  sought_over q =
      let left : from_first test (remaining linked entries next c) ≡ [] = rw q at found.left in
      before_from test (remaining linked entries next c) ∙ ap (λ (l : List ℕ). before_first test (remaining linked entries next c) ++ l) left
      ∙ append-nil (before_first test (remaining linked entries next c))

  -- and no entry passes
  pub sought_none : s.0 ≡ None → keep test (remaining linked entries next c) ≡ []
  unfolding keep
  sought_none q =
      let left : from_first test (remaining linked entries next c) ≡ [] = rw q at found.left in
      sym (from_first_keep test (remaining linked entries next c)) ∙ rw left
