-- The definitions that the laws of proofs/Laws/Fitting.antt speak of.
use Rattle.std.specs.Prelude.{ℕ, ◌≡◌, Bool, true, ◌&&◌, List, [], length, get_or, eqb, ltb}
use Rattle.plain.specs.Lists.{member, distinct}

-- whether edge e has node x for its end
abbrev pub has_end : List ℕ → ℕ → ℕ → Bool
has_end ends x e = ltb e (length ends) && eqb (get_or ends e 0) x

-- What rule 6 says of each list: no repeats, and every entry is an edge with that end.
pub record Right (ends : List ℕ) (lists : List (List ℕ)) : Type 0 where
  pub once : (x : ℕ) → distinct (get_or lists x []) ≡ true
  pub at_end : (x e : ℕ) → member e (get_or lists x []) ≡ true → has_end ends x e ≡ true
