-- A slot's fault: a number where it is at or above the bound, another where it is removed, 0 where it is live.
use Rattle.std.specs.Prelude.{ℕ, Bool, false, cond, List, get_or, leb}

unfoldable pub fault_of : List Bool → ℕ → ℕ → ℕ → ℕ → ℕ
fault_of flags bound slot absent removed = cond (leb bound slot) absent (cond (get_or flags slot false) 0 removed)
