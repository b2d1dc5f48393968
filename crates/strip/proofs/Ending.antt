-- The ways that a strip ends, by what it answers before its first operation: refused, or its operations done in turn.
use Rattle.std.specs.Prelude.{ℕ, ◌*◌, ◌/◌, ◌%◌, ◌≤◌, ◌<◌, ◌≡◌, refl, List, [], length, Result, Ok, Err, MatchResult}
use Rattle.plain.specs.Library.{sym, ap, subst, ◌∙◌, arith}
use Rattle.plain.specs.declared.Answer.{Answer}
use Rattle.plain.specs.declared.refusals.Refusal.{Refusal}
use Rattle.plain.specs.declared.refusals.Refusal.TheVariants.{TooShort}
use Rattle.plain.specs.Answers.{done_of}
use Rattle.plain.specs.Lists.{written}
use Rattle.plain.specs.Operations.{operation_words, operations}
use Rattle.plain.specs.Calls.{Stripped, strip, judged_strip}
use Rattle.plain.proofs.Laws.Strips.{length_operations}
use Rattle.plain.proofs.Laws.CallCases.{strip_ragged, strip_short, strip_done}
use Rattle.shape.specs.Shape.{Words, capacities, shape_of}
use Rattle.shape.specs.Kept.{kept_none, kept_spared, nothing_spared, same_nodes, same_edges}
use Rattle.shape.specs.Steps.{state_of}
use Rattle.shape.proofs.Laws.NoFields.{kept_leaves}
use Rattle.validate.specs.Judging.{Judged}
use Rattle.strip.specs.Strip.{Runnable, Ran, Opening, unsound, uneven, short, opens, stripped, StripOf}

module _ (w : Words) (words entry : List ℕ) where
  -- refused: not a word changes
  kept : (o : Stripped) → stripped w words (length entry) ≡ o → o.words ≡ [] → o.after ≡ state_of (shape_of w) → (o.number ≡ 0 → ⊥)
      → StripOf w words entry o.number o.value w entry
  kept o is none same refused =
      record {
        numbered = ap (λ (s : Stripped). s.number) (sym is);
        valued = ap (λ (s : Stripped). s.value) (sym is);
        answered = sym (ap (λ (l : List ℕ). written l entry) (ap (λ (s : Stripped). s.words) is ∙ none));
        state = sym (ap (λ (s : Stripped). s.after) is ∙ same);
        shape = λ h. absurd (refused h);
        checked = λ h. absurd (refused h);
        lengths = refl;
        steps = λ h. absurd (refused h);
        refused_keeps = λ h. refl;
        kept = kept_none w;
        spared = nothing_spared w;
        leaves = λ p out held. refl;
      }

  module _ {rule : ℕ} (j : Judged w rule) (sound : rule ≡ 0) where
    told : stripped w words (length entry) ≡ strip (capacities w) (state_of (shape_of w)) words (length entry)
    told = ap (λ (n : ℕ). judged_strip n (state_of (shape_of w)) (strip (capacities w) (state_of (shape_of w)) words (length entry))) (sym j.first ∙ sound)

    not_whole : (length words % operation_words ≡ 0 → ⊥) → StripOf w words entry 3 (length words) w entry
    not_whole rest =
        kept (record { number = 3; value = length words; words = []; after = state_of (shape_of w) })
        (told ∙ strip_ragged (capacities w) (state_of (shape_of w)) words (length entry) rest) refl refl (λ q. omega arith)

    module _ (whole : length words % operation_words ≡ 0) where
      needed : 2 * length (operations words) ≡ 2 * (length words / operation_words)
      needed = rw (length_operations words) (omega arith)

      no_room : length entry < 2 * (length words / operation_words) → StripOf w words entry 2 (2 * (length words / operation_words)) w entry
      no_room little =
          subst (λ (n : ℕ). StripOf w words entry 2 n w entry) needed
          (kept (record { number = 2; value = 2 * length (operations words); words = []; after = state_of (shape_of w) })
          (told ∙ strip_short (capacities w) (state_of (shape_of w)) words (length entry) whole (rw needed little)) refl refl (λ q. omega arith))

      module _ (room : 2 * (length words / operation_words) ≤ length entry) where
        runnable : Runnable w words entry
        runnable = record { checked = j.checked sound; room = rw needed room }

        ran_through : {v : Words} {exit : List ℕ} → Ran w (operations words) entry v exit → StripOf w words entry 0 0 v exit
        ran_through {v} {exit} ran =
            let is = told ∙ strip_done (capacities w) (state_of (shape_of w)) words (length entry) whole (rw needed room) in
            record {
              numbered = ap (λ (o : Stripped). o.number) (sym is);
              valued = ap (λ (o : Stripped). o.value) (sym is);
              answered = ran.answered ∙ sym (ap (λ (o : Stripped). written o.words entry) is);
              state = ran.state ∙ sym (ap (λ (o : Stripped). o.after) is);
              shape = λ h. ran.shape;
              checked = λ h. ran.checked;
              lengths = ran.lengths;
              steps = λ h. ran.steps;
              refused_keeps = λ h. absurd (h refl);
              kept = ran.kept;
              spared = let c = ran.checked in
                  kept_spared (omega (arith, c.nodes.bounded.bound_within, same_nodes ran.lengths)) (omega (arith, c.edges.bounded.bound_within, same_edges ran.lengths)) ran.kept;
              leaves = kept_leaves w v ran.lengths ran.kept;
            }

-- what a strip is refused with before its first operation, where its length is whole
pub opening_told : {length room : ℕ} (came : Result Unit Refusal) → length % operation_words ≡ 0
    → MatchResult came (λ _. 2 * (length / operation_words) ≤ room) (λ refusal. (room < 2 * (length / operation_words)) × (refusal ≡ TooShort (2 * (length / operation_words))))
    → Opening 0 length room (done_of came)
opening_told (Ok done) whole room = opens refl whole room
opening_told (Err refusal) whole short_by = rw short_by.1 (short refl whole short_by.0)

-- what an answer of 0 says
opened : {words room : ℕ} {r : Answer} → Opening 0 words room r → r.number ≡ 0 → (words % operation_words ≡ 0) × (2 * (words / operation_words) ≤ room)
opened (unsound broke) none = absurd (broke refl)
opened (uneven sound rest) none = absurd (omega arith)
opened (short sound whole little) none = absurd (omega arith)
opened (opens sound whole room) none = (whole, room)

-- by the answer before the first operation, where the store v that was checked, which is the store w as it stands, breaks no rule
module _ {v w : Words} (same : v ≡ w) (words entry : List ℕ) (j : Judged v 0) where
  sound : Judged w 0
  sound = subst (λ (u : Words). Judged u 0) same j

  pub strip_refused : {r : Answer} → Opening 0 (length words) (length entry) r → (r.number ≡ 0 → ⊥) → StripOf w words entry r.number r.value w entry
  strip_refused (unsound broke) some = absurd (broke refl)
  strip_refused (uneven unbroken rest) some = not_whole w words entry sound refl rest
  strip_refused (short unbroken whole little) some = no_room w words entry sound refl whole little
  strip_refused (opens unbroken whole room) some = absurd (some refl)

  pub strip_runnable : {r : Answer} → Opening 0 (length words) (length entry) r → r.number ≡ 0 → Runnable w words entry
  strip_runnable o none = let p = opened o none in runnable w words entry sound refl p.0 p.1

  pub strip_run : {r : Answer} {u : Words} {exit : List ℕ} → Opening 0 (length words) (length entry) r → r.number ≡ 0
      → Ran w (operations words) entry u exit → StripOf w words entry 0 0 u exit
  strip_run o none ran = let p = opened o none in ran_through w words entry sound refl p.0 p.1 ran
