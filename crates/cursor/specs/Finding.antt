-- Finding in a walk: the first listed entry that is wanted, or NONE.
use Rattle.std.specs.Prelude.{ℕ, Bool, List, Option, None, Some, get_or, eqb}
use Rattle.plain.specs.Numbers.{NONE}
use Rattle.plain.specs.Lists.{keep}
use Rattle.shape.specs.Chains.{In}

-- the first entry of a list that is wanted, NONE where none is
unfoldable pub first_of : (ℕ → Bool) → List ℕ → ℕ
first_of wanted list = get_or (keep wanted list) 0 NONE

-- an entry that is found is one of the list
abbrev pub Among : Option ℕ → List ℕ → Type 0
Among None list = Unit
Among (Some e) list = In e list

-- whether an edge ends at a node, by a column of ends
abbrev pub ends_at : List ℕ → ℕ → ℕ → Bool
ends_at ends end e = eqb (get_or ends e 0) end
