-- A refused operation tells no value: "value NONE".
use Rattle.std.specs.Prelude.{ℕ, zero, suc, ◌≡◌, refl, Bool, true, false, List, [], ◌∷◌, eqb, Result, Ok, Err, IfErr}
use Rattle.plain.specs.Library.{Option, none, some, ◌∙◌, arith}
use Rattle.plain.specs.declared.refusals.Refusal.{Refusal}
use Rattle.plain.specs.declared.TraversalDirection.{TraversalDirection}
use Rattle.plain.specs.declared.Operation.{Operation}
use Rattle.plain.specs.declared.Operation.TheVariants.{AddNode, AddEdge, RemoveEdge, RemoveNode, Redirect, Move, SetPayload, Unknown}
use Rattle.plain.specs.Numbers.{NONE}
use Rattle.plain.specs.Refusals.{value_of}
use Rattle.plain.specs.Answers.{answer_of}
use Rattle.plain.specs.Plain.{Plain, node_bound, edge_bound, list_of, end_of}
use Rattle.plain.specs.Step.{Capacities, Outcome, unless, node_fault, node_missing, edge_fault, edge_missing, room_fault, self_fault, payload_fault, removing, redirecting, moving, step}
use Rattle.plain.proofs.Laws.Booleans.{by_test}
use Rattle.plain.proofs.Laws.Lending.{refusal_number}
use Rattle.shape.specs.Shape.{Words, capacities, lists}
use Rattle.refusals.specs.Step.{StepOf}

-- an outcome with a number has no value
record Silent (o : Outcome) : Type 0 where
  silence : (o.number ≡ 0 → ⊥) → o.value ≡ NONE

silent_unless : (number : ℕ) (p : Plain) (o : Outcome) → Silent o → Silent (unless number p o)
silent_unless zero p o rest = rest
silent_unless (suc number) p o rest = record { silence = λ h. refl }

-- what is done has none
silent_done : (o : Outcome) → o.number ≡ 0 → Silent o
silent_done o done = record { silence = λ refused. absurd (refused done) }

silent_removing : (slot : Option Bool) (p after : Plain) → Silent (removing slot p after)
silent_removing none p after = silent_done _ refl
silent_removing (some false) p after = silent_done _ refl
silent_removing (some true) p after = silent_done _ refl

silent_redirecting : (d : TraversalDirection) (e new : ℕ) (p : Plain) → Silent (redirecting d e new p)
silent_redirecting d e new p =
    by_test (eqb (end_of d p e) new) (λ q. rw q (silent_done _ refl)) (λ q. rw q (silent_done _ refl))

silent_moving : (d : TraversalDirection) (old new : ℕ) (es : List ℕ) (p : Plain) → Silent (moving d old new es p)
silent_moving d old new [] p = silent_done _ refl
silent_moving d old new (e ∷ es) p = silent_unless (node_fault p new) p _ (silent_done _ refl)

silent : (caps : Capacities) (p : Plain) (operation : Operation) → Silent (step caps p operation)
unfolding step
silent caps p (AddNode payload) = silent_unless (room_fault (node_bound p) caps.nodes) p _ (silent_done _ refl)
silent caps p (AddEdge source target payload) =
    silent_unless (payload_fault payload) p _
    (silent_unless (node_fault p source) p _
    (silent_unless (node_fault p target) p _
    (silent_unless (room_fault (edge_bound p) caps.edges) p _ (silent_done _ refl))))
silent caps p (RemoveEdge e) = silent_removing _ p _
silent caps p (RemoveNode x) = silent_removing _ p _
silent caps p (Redirect d e new) =
    silent_unless (edge_fault p e) p _ (silent_unless (node_fault p new) p _ (silent_redirecting d e new p))
silent caps p (Move d old new) =
    silent_unless (self_fault old new) p _ (silent_unless (node_missing p old) p _ (silent_moving d old new (list_of d p old) p))
silent caps p (SetPayload e payload) =
    silent_unless (payload_fault payload) p _ (silent_unless (edge_missing p e) p _ (silent_done _ refl))
silent caps p Unknown = record { silence = λ h. refl }

-- an operation that is refused has none
pub untold : {operation : Operation} {w v : Words} (came : Result ℕ Refusal) → StepOf operation w v (answer_of came).number (answer_of came).value
    → IfErr came (λ refusal. value_of refusal ≡ NONE)
untold (Ok value) does = tt
untold {operation} {w} (Err refusal) does =
    does.valued ∙ (silent (capacities w) (lists w) operation).silence (λ q. let none = does.numbered ∙ q in omega (arith, refusal_number refusal))
