-- What the marks of a store say: that no node below a bound has a run.
use Rattle.std.specs.Prelude.{ℕ, ◌+◌, ◌*◌, Bool, List, ltb}
use Rattle.plain.specs.Lists.{all, from}
use Rattle.shape.specs.Columns.{cell}

-- no node below a bound has a mark, in words of these capacities
abbrev pub unmarked : List ℕ → ℕ → ℕ → ℕ → Bool
unmarked ws ce cn bound = all (λ x. ltb (cell ws (4 * ce + 4 * cn) x) 1) (from 0 bound)
