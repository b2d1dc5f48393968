-- A strip operation by operation: the operation at a place of the words, and what one operation more adds to the answers and the state.
use Rattle.std.specs.Prelude.{ℕ, zero, suc, ◌+◌, ◌*◌, ◌/◌, ◌<◌, ◌≡◌, refl, List, [], ◌∷◌, ◌++◌, length, get_or}
use Rattle.plain.specs.Library.{sym, ap, ◌∙◌, arith}
use Rattle.plain.specs.declared.Operation.{Operation}
use Rattle.plain.specs.declared.Operation.TheVariants.{Unknown}
use Rattle.plain.specs.Operations.{operation_words, decoded, operations}
use Rattle.plain.specs.Step.{Capacities, State, step, stepped, run, answers}

-- as many operations as the words make whole
pub length_operations : (words : List ℕ) → length (operations words) ≡ length words / operation_words
unfolding operations
length_operations [] = refl
length_operations (a ∷ []) = refl
length_operations (a ∷ b ∷ []) = refl
length_operations (a ∷ b ∷ c ∷ []) = refl
length_operations (a ∷ b ∷ c ∷ d ∷ []) = refl
length_operations (a ∷ b ∷ c ∷ d ∷ e ∷ rest) = let h = length_operations rest in omega arith

-- past the words of the first operation
later : (a b c d e : ℕ) (rest : List ℕ) (i j : ℕ) → i ≡ operation_words + j → get_or (a ∷ b ∷ c ∷ d ∷ e ∷ rest) i 0 ≡ get_or rest j 0
later a b c d e rest i j q =
    let five : i ≡ suc (suc (suc (suc (suc j)))) = omega arith in
    ap (λ (n : ℕ). get_or (a ∷ b ∷ c ∷ d ∷ e ∷ rest) n 0) five

-- operation i is decoded from its words
pub operation_at : (words : List ℕ) (i : ℕ) → i < length (operations words)
    → get_or (operations words) i Unknown ≡ decoded (get_or words (operation_words * i) 0) (get_or words (operation_words * i + 1) 0) (get_or words (operation_words * i + 2) 0)
    (get_or words (operation_words * i + 3) 0) (get_or words (operation_words * i + 4) 0)
unfolding operations
operation_at [] i h = absurd (omega arith)
operation_at (a ∷ []) i h = absurd (omega arith)
operation_at (a ∷ b ∷ []) i h = absurd (omega arith)
operation_at (a ∷ b ∷ c ∷ []) i h = absurd (omega arith)
operation_at (a ∷ b ∷ c ∷ d ∷ []) i h = absurd (omega arith)
operation_at (a ∷ b ∷ c ∷ d ∷ e ∷ rest) zero h = refl
operation_at (a ∷ b ∷ c ∷ d ∷ e ∷ rest) (suc i) h =
    operation_at rest i (omega arith)
    ∙ sym (rw (
      later a b c d e rest (operation_words * suc i) (operation_words * i) (omega arith),
      later a b c d e rest (operation_words * suc i + 1) (operation_words * i + 1) (omega arith),
      later a b c d e rest (operation_words * suc i + 2) (operation_words * i + 2) (omega arith),
      later a b c d e rest (operation_words * suc i + 3) (operation_words * i + 3) (omega arith),
      later a b c d e rest (operation_words * suc i + 4) (operation_words * i + 4) (omega arith),
    ))

-- one operation more
pub run_snoc : (caps : Capacities) (s : State) (ops : List Operation) (x : Operation) → run caps s (ops ++ (x ∷ [])) ≡ stepped caps (run caps s ops) x
unfolding run
run_snoc caps s [] x = refl
run_snoc caps s (y ∷ ops) x = run_snoc caps (stepped caps s y) ops x

pub answers_snoc : (caps : Capacities) (s : State) (ops : List Operation) (x : Operation)
    → answers caps s (ops ++ (x ∷ []))
    ≡ answers caps s ops ++ ((step caps (run caps s ops).lists x).number ∷ (step caps (run caps s ops).lists x).value ∷ [])
unfolding run answers
answers_snoc caps s [] x = refl
answers_snoc caps s (y ∷ ops) x = ap (λ (l : List ℕ). (step caps s.lists y).number ∷ (step caps s.lists y).value ∷ l) (answers_snoc caps (stepped caps s y) ops x)

-- two words an operation
pub length_answers : (caps : Capacities) (s : State) (ops : List Operation) → length (answers caps s ops) ≡ 2 * length ops
unfolding answers
length_answers caps s [] = refl
length_answers caps s (y ∷ ops) = let h = length_answers caps (stepped caps s y) ops in omega arith
