-- A strip's words as operations. Document 01, "The strip"; document 02, No. 8.
use Rattle.std.specs.Prelude.{ℕ, cond, ◌&&◌, List, [], ◌∷◌, eqb}
use Rattle.plain.specs.declared.TraversalDirection.TheVariants.{Outgoing, Incoming}
use Rattle.plain.specs.declared.Operation.{Operation}
use Rattle.plain.specs.declared.Operation.TheVariants.{AddNode, AddEdge, RemoveEdge, RemoveNode, Redirect, Move, SetPayload, Unknown}

-- "Strips take five words an operation (code, first, second, low, high; both last are node payload and 0 for code 1)."
abbrev pub operation_words : ℕ
operation_words = 5

-- "Unused words are 0."
unfoldable pub unused : ℕ → ℕ → ℕ → Operation → Operation
unused a b c operation = cond (eqb a 0 && (eqb b 0 && eqb c 0)) operation Unknown

-- "The port decides on the code of an operation, 1 to 9: 1 add node (payload); 2 add edge (source, target, payload); 3 remove edge (first); 4 remove node
-- (first); 5 redirect source and 6 redirect target (edge, node); 7 move out-list and 8 move in-list (old, new); 9 set edge payload (edge; removed edges too)."
unfoldable pub decoded : ℕ → ℕ → ℕ → ℕ → ℕ → Operation
decoded code first second low high =
    cond (eqb code 1) (unused first second high (AddNode low))
    (cond (eqb code 2) (AddEdge first second (record { low = low; high = high }))
    (cond (eqb code 3) (unused second low high (RemoveEdge first))
    (cond (eqb code 4) (unused second low high (RemoveNode first))
    (cond (eqb code 5) (unused low high 0 (Redirect Outgoing first second))
    (cond (eqb code 6) (unused low high 0 (Redirect Incoming first second))
    (cond (eqb code 7) (unused low high 0 (Move Outgoing first second))
    (cond (eqb code 8) (unused low high 0 (Move Incoming first second))
    (cond (eqb code 9) (unused second 0 0 (SetPayload first (record { low = low; high = high }))) Unknown))))))))

-- the operations of a strip's words, five words each; words short of a whole operation are left out
unfoldable pub operations : List ℕ → List Operation
operations [] = []
operations (a ∷ []) = []
operations (a ∷ b ∷ []) = []
operations (a ∷ b ∷ c ∷ []) = []
operations (a ∷ b ∷ c ∷ d ∷ []) = []
operations (code ∷ first ∷ second ∷ low ∷ high ∷ rest) = decoded code first second low high ∷ operations rest
