-- Document 02, No. 4, "Nearest lot": chains of live transfers, and the nearest. Everything is said of an out-list function and of the target of each edge, so that
-- a reader to whom some transfers are hidden gets the same definitions with other out-lists.
use Rattle.std.specs.Prelude.{ℕ, zero, suc, ◌<◌, ◌≡◌, true, cond, ◌⊎◌, List, [], ◌∷◌, map, eqb}
use Rattle.plain.specs.Library.{Option, none, some}
use Rattle.plain.specs.Lists.{member, joined}

-- where x first stands in a list
unfoldable pub position : ℕ → List ℕ → ℕ
position x [] = 0
position x (y ∷ ys) = cond (eqb x y) 0 (suc (position x ys))

-- the first of the candidates
unfoldable pub first_candidate : List (List ℕ) → Option (List ℕ)
first_candidate [] = none
first_candidate (c ∷ cs) = some c

-- one candidate, or else another
abbrev pub or_else : Option (List ℕ) → Option (List ℕ) → Option (List ℕ)
or_else none other = other
or_else (some c) other = some c

module _ (out : ℕ → List ℕ) (target : ℕ → ℕ) where
  -- "chain of live transfers, following their direction, from one live lot to another, written as edge slots"; "a lot reaches itself by an empty chain". The first
  -- edge of a chain stands in the out-list of the lot where it begins, and its rest is a chain from that edge's target.
  abbrev pub Chain : ℕ → List ℕ → ℕ → Type 0
  Chain x [] y = x ≡ y
  Chain x (e ∷ c) y = (member e (out x) ≡ true) × Chain (target e) c y

  -- "the chain whose first edge stands earliest in the out-list, then its second, and so on": of two chains that begin at lot x, the first goes before the second
  abbrev pub Before : ℕ → List ℕ → List ℕ → Type 0
  Before x [] other = ⊥
  Before x (e ∷ c) [] = ⊥
  Before x (e ∷ c) (e' ∷ c') = (position e (out x) < position e' (out x)) ⊎ ((e ≡ e') × Before (target e) c c')

  -- the chains of exactly k edges from x to y, those with an earlier first edge first
  unfoldable pub chains : ℕ → ℕ → ℕ → List (List ℕ)
  chains zero x y = cond (eqb x y) ([] ∷ []) []
  chains (suc k) x y = joined (map (λ e. map (λ (c : List ℕ). e ∷ c) (chains k (target e) y)) (out x))

  -- of the chains of k edges, of k + 1, and so on for n lengths, the first
  unfoldable pub nearest_from : ℕ → ℕ → ℕ → ℕ → Option (List ℕ)
  nearest_from k zero x y = none
  nearest_from k (suc n) x y = or_else (first_candidate (chains k x y)) (nearest_from (suc k) n x y)

  -- "the shortest chain"; "among equal lengths take the chain whose first edge stands earliest in the out-list, then its second, and so on". Among n lots no shortest
  -- chain has n edges or more, so n lengths are enough: `nearest_none`.
  unfoldable pub nearest : ℕ → ℕ → ℕ → Option (List ℕ)
  nearest n x y = nearest_from 0 n x y
