-- The operations of a strip in turn: what holds as one begins, and the laws of the loop, operation by operation.
use Rattle.std.specs.Prelude.{ℕ, zero, suc, ◌+◌, ◌*◌, ◌/◌, ◌≤◌, ◌<◌, ◌≡◌, refl, List, [], ◌∷◌, ◌++◌, length, get_or, set, slice_index, take, drop}
use Rattle.std.specs.Simd.{first_chunks}
use Rattle.plain.specs.Library.{sym, ap, ap₂, subst, ◌∙◌, append_assoc, length-append, length-set, add-one, arith}
use lib.Seq.{take-suc, length-take-le}
use Rattle.plain.specs.declared.Operation.{Operation}
use Rattle.plain.specs.declared.Operation.TheVariants.{Unknown}
use Rattle.plain.specs.Lists.{written}
use Rattle.plain.specs.Operations.{operation_words, decoded, operations}
use Rattle.plain.specs.Plain.{Plain}
use Rattle.plain.specs.Step.{Capacities, State, Outcome, step, stepped, run, answers}
use Rattle.plain.proofs.Laws.Strips.{run_snoc, answers_snoc, length_answers, length_operations}
use Rattle.shape.specs.Shape.{Words, Shape, capacities, shape_of}
use Rattle.shape.specs.Checked.{Checked}
use Rattle.shape.specs.Kept.{kept_none, kept_through, same_capacities}
use Rattle.shape.specs.Steps.{shape_step, shape_run, state_of}
use Rattle.shape.proofs.Laws.CheckedShape.{checked_proper, checked_based}
use Rattle.shape.proofs.Laws.Running.{shape_run_snoc, step_state}
use Rattle.cursor.specs.Laws.Reading.{write_one}
use Rattle.refusals.specs.Step.{StepOf, outcome}
use Rattle.strip.specs.Strip.{Runnable, Steps, no_step, one_step, Ran}

-- the plain lists and the compact flag afterwards are document 01's
step_lists : {operation : Operation} {w v : Words} {number value : ℕ} → Checked w → StepOf operation w v number value
    → state_of (shape_of v) ≡ stepped (capacities w) (state_of (shape_of w)) operation
step_lists {operation} {w} c does = ap state_of does.shaped ∙ step_state (checked_proper w c) (checked_based w c) operation

-- ---- the words

-- the operation of five words
abbrev pub decoded_words : List ℕ → Operation
decoded_words five = decoded (slice_index five 0) (slice_index five 1) (slice_index five 2) (slice_index five 3) (slice_index five 4)

-- operation i is decoded from chunk i of the words
pub chunk_decoded : (words : List ℕ) (count i : ℕ) → i < count → operation_words * count ≤ length words
    → decoded_words (get_or (first_chunks operation_words count words) i []) ≡ get_or (operations words) i Unknown
unfolding operations
chunk_decoded words zero i l h = absurd (omega arith)
chunk_decoded [] (suc count) i l h = absurd (omega arith)
chunk_decoded (a ∷ []) (suc count) i l h = absurd (omega arith)
chunk_decoded (a ∷ b ∷ []) (suc count) i l h = absurd (omega arith)
chunk_decoded (a ∷ b ∷ c ∷ []) (suc count) i l h = absurd (omega arith)
chunk_decoded (a ∷ b ∷ c ∷ d ∷ []) (suc count) i l h = absurd (omega arith)
chunk_decoded (a ∷ b ∷ c ∷ d ∷ e ∷ rest) (suc count) zero l h = refl
chunk_decoded (a ∷ b ∷ c ∷ d ∷ e ∷ rest) (suc count) (suc i) l h = chunk_decoded rest count i (omega arith) (omega arith)

-- ---- the answer slice

-- two words more
two_more : (xs entry : List ℕ) (at n v : ℕ) → at ≡ length xs → at + 2 ≤ length entry → set (set (written xs entry) at n) (at + 1) v ≡ written (xs ++ (n ∷ v ∷ [])) entry
two_more xs entry at n v is room =
    let low : at < length entry = omega arith in
    let next : at + 1 < length entry = omega arith in
    let longer : at + 1 ≡ length (xs ++ (n ∷ [])) = rw (length-append xs (n ∷ [])) (omega arith) in
    let whole : length (xs ++ (n ∷ v ∷ [])) ≡ at + 1 + 1 = rw (length-append xs (n ∷ v ∷ [])) (omega arith) in
    ap (λ (k : ℕ). set (set (xs ++ drop k entry) at n) (at + 1) v) (sym is)
    ∙ ap (λ (l : List ℕ). set l (at + 1) v) (write_one xs entry at n is low)
    ∙ write_one (xs ++ (n ∷ [])) entry (at + 1) v longer next
    ∙ ap₂ {C = List ℕ} (λ (l : List ℕ) (k : ℕ). l ++ drop k entry) (append_assoc xs (n ∷ []) (v ∷ [])) (sym whole)

-- ---- the loop

-- before the first operation
ran_none : {w : Words} {entry : List ℕ} → Checked w → Ran w [] entry w entry
unfolding shape_run run answers
ran_none {w} c = record { shape = refl; state = refl; checked = c; lengths = refl; kept = kept_none w; steps = no_step; answered = refl }

steps_more : {w v u : Words} {ops : List Operation} {x : Operation} {number value : ℕ} → Steps w ops v → StepOf x v u number value → Steps w (ops ++ (x ∷ [])) u
steps_more no_step does = one_step does no_step
steps_more (one_step first rest) does = one_step first (steps_more rest does)

-- one operation more
module _ {w v u : Words} {ops : List Operation} {entry exit : List ℕ} {x : Operation} {number value : ℕ}
    (ran : Ran w ops entry v exit) (does : StepOf x v u number value) where
  ran_outcome : outcome v x ≡ step (capacities w) (run (capacities w) (state_of (shape_of w)) ops).lists x
  ran_outcome =
      ap₂ {C = Outcome} (λ (caps : Capacities) (p : Plain). step caps p x) (same_capacities ran.lengths) (ap (λ (s : State). s.lists) ran.state)

  ran_more : (at : ℕ) → at ≡ 2 * length ops → at + 2 ≤ length entry → Ran w (ops ++ (x ∷ [])) entry u (set (set exit at number) (at + 1) value)
  ran_more at is room = record {
    shape = does.shaped ∙ ap₂ {C = Shape} (λ (caps : Capacities) (s : Shape). shape_step caps s x) (same_capacities ran.lengths) ran.shape
        ∙ sym (shape_run_snoc (capacities w) (shape_of w) ops x);
    state = step_lists ran.checked does
        ∙ ap₂ {C = State} (λ (caps : Capacities) (s : State). stepped caps s x) (same_capacities ran.lengths) ran.state
        ∙ sym (run_snoc (capacities w) (state_of (shape_of w)) ops x);
    checked = does.checked;
    lengths = does.lengths ∙ ran.lengths;
    kept = kept_through ran.lengths ran.kept does.kept;
    steps = steps_more ran.steps does;
    answered = ap (λ (l : List ℕ). set (set l at number) (at + 1) value) ran.answered
        ∙ two_more before entry at number value (is ∙ sym (length_answers (capacities w) (state_of (shape_of w)) ops)) room
        ∙ ap₂ {C = List ℕ} (λ (n m : ℕ). written (before ++ (n ∷ m ∷ [])) entry) (does.numbered ∙ ap (λ (o : Outcome). o.number) ran_outcome)
        (does.valued ∙ ap (λ (o : Outcome). o.value) ran_outcome)
        ∙ sym (ap (λ (l : List ℕ). written l entry) (answers_snoc (capacities w) (state_of (shape_of w)) ops x));
  }
    where
      before : List ℕ
      before = answers (capacities w) (state_of (shape_of w)) ops

-- What holds as operation i begins, of `count` operations.
pub record Running (w : Words) (words entry : List ℕ) (count : ℕ) (v : Words) (exit : List ℕ) (i : ℕ) : Type 0 where
  pub counted : count ≡ length (operations words)
  pub within : i ≤ count
  pub room : 2 * count ≤ length entry
  pub same_room : length exit ≡ length entry
  pub ran : Ran w (take i (operations words)) entry v exit

pub running_start : {w : Words} {words entry : List ℕ} → Runnable w words entry → Running w words entry (length words / operation_words) w entry 0
running_start {w} {words} {entry} pre = record {
  counted = sym (length_operations words);
  within = omega arith;
  room = rw (← length_operations words) pre.room;
  same_room = refl;
  ran = ran_none pre.checked;
}

pub running_turn : {w : Words} {words entry : List ℕ} {count : ℕ} {v u : Words} {exit exit' : List ℕ} {i number value : ℕ} {x : Operation}
    → Running w words entry count v exit i → i < count → x ≡ get_or (operations words) i Unknown → StepOf x v u number value
    → exit' ≡ set (set exit (2 * i) number) (2 * i + 1) value → Running w words entry count u exit' (i + 1)
running_turn {w} {words} {entry} {count} {v} {u} {exit} {exit'} {i} {number} {value} r more is does puts =
    let low : i < length (operations words) = omega (arith, r.counted) in
    let taken : length (take i (operations words)) ≡ i = length-take-le i (operations words) (omega arith) in
    let fits : 2 * i + 2 ≤ length entry = omega (arith, r.room) in
    record {
      counted = r.counted;
      within = omega arith;
      room = r.room;
      same_room = ap length puts ∙ length-set (set exit (2 * i) number) (2 * i + 1) value ∙ length-set exit (2 * i) number ∙ r.same_room;
      ran = subst (λ (l : List Operation). Ran w l entry u exit')
          (sym (ap (λ (k : ℕ). take k (operations words)) (add-one i) ∙ take-suc (operations words) i Unknown low))
          (subst (λ (l : List ℕ). Ran w (take i (operations words) ++ (get_or (operations words) i Unknown ∷ [])) entry u l) (sym puts)
          (ran_more r.ran (subst (λ (x : Operation). StepOf x v u number value) is does) (2 * i) (ap (λ (k : ℕ). 2 * k) (sym taken)) fits));
    }
