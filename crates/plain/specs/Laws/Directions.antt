-- The definitions that the laws of proofs/Laws/Directions.antt speak of.
use Rattle.std.specs.Prelude.{ℕ, List, [], get_or}
use Rattle.plain.specs.Plain.{Incidence}

-- the list of a node and the end of an edge
abbrev pub list_at : Incidence → ℕ → List ℕ
list_at i x = get_or i.lists x []

abbrev pub end_at : Incidence → ℕ → ℕ
end_at i e = get_or i.ends e 0
