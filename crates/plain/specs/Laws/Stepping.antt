-- The definitions that the laws of proofs/Laws/Stepping.antt speak of.
use Rattle.std.specs.Prelude.{ℕ, ◌<◌, ◌^◌, List, [], ◌∷◌, get_or}
use Rattle.plain.specs.declared.Operation.{Operation}
use Rattle.plain.specs.declared.Operation.TheVariants.{AddNode, AddEdge, RemoveEdge, RemoveNode, Redirect, Move, SetPayload, Unknown}

-- the payload of an operation fits its words; of an edge's the high does, since a low above it is refused
abbrev pub Fitting : Operation → Type 0
Fitting (AddNode v) = v < 2 ^ 32
Fitting (AddEdge s t v) = v.high < 2 ^ 32
Fitting (RemoveEdge e) = Unit
Fitting (RemoveNode x) = Unit
Fitting (Redirect d e x) = Unit
Fitting (Move d old new) = Unit
Fitting (SetPayload e v) = v.high < 2 ^ 32
Fitting Unknown = Unit

pub data AllFitting : List Operation → Type 0 where
  no_more : AllFitting []
  one_more : {x : Operation} {xs : List Operation} → Fitting x → AllFitting xs → AllFitting (x ∷ xs)

-- the words of a strip fit
abbrev pub Words : List ℕ → Type 0
Words words = (i : ℕ) → get_or words i 0 < 2 ^ 32
