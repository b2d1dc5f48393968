-- The definitions that the laws of proofs/Laws/Finding.antt speak of.
use Rattle.std.specs.Prelude.{ℕ, Bool, ◌&&◌, List, [], ◌∷◌, eqb}
use Rattle.plain.specs.declared.TraversalDirection.TheVariants.{Outgoing, Incoming}
use Rattle.plain.specs.Numbers.{NONE}
use Rattle.plain.specs.Lists.{member, keep}
use Rattle.plain.specs.Plain.{Plain, edge_flags, end_of}
use Rattle.plain.specs.Reads.{live_slots}

-- the live edges from node a to node b, in slot order
unfoldable pub edges_between : Plain → ℕ → ℕ → List ℕ
edges_between p a b = keep (λ e. eqb (end_of Outgoing p e) a && eqb (end_of Incoming p e) b) (live_slots (edge_flags p))

-- one of the candidates, or NONE where there is none and only then
abbrev pub one_of : List ℕ → ℕ → Bool
one_of [] value = eqb value NONE
one_of (e ∷ es) value = member value (e ∷ es)
