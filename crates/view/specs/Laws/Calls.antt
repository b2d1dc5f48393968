-- The ways that a read ends: refused by the check, refused by the read itself, or done.
use Rattle.std.specs.Prelude.{ℕ, ◌≤◌, ◌<◌, ◌≡◌, refl, List, [], length}
use Rattle.plain.specs.Library.{sym, ap, ◌∙◌}
use Rattle.plain.specs.declared.Answer.{Answer}
use Rattle.plain.specs.declared.Record.{Record}
use Rattle.plain.specs.declared.Total.{Total}
use Rattle.plain.specs.Numbers.{NONE}
use Rattle.plain.specs.Lists.{written}
use Rattle.plain.specs.Reads.{Reply, no_record, no_total, listing}
use Rattle.plain.proofs.Laws.CallCases.{lent_short, lent_done}
use Rattle.shape.specs.Shape.{Words}
use Rattle.shape.specs.Checked.{Checked}
use Rattle.validate.specs.Judging.{Judged, refusal}
use Rattle.validate.specs.Laws.Judging.{answer_counts, answer_refused, reply_counts, reply_refused, record_counts, record_refused, total_counts, total_refused}
use Rattle.view.specs.Calls.{Answered, Recorded, Totalled, Replied, Listed}

-- ---- a list and the room for it

module _ {list entry : List ℕ} {n : ℕ} (size : n ≡ length list) where
  pub listed_short : length entry < n → Listed list entry (record { number = 2; value = n }) entry
  listed_short short =
      let is = lent_short (length entry) (length list) list (rw (← size) short) in
      record {
        number = ap (λ (r : Reply). r.number) (sym is);
        value = size ∙ ap (λ (r : Reply). r.value) (sym is);
        writes = ap (λ (r : Reply). written r.words entry) (sym is);
      }

  pub listed_done : {exit : List ℕ} → n ≤ length entry → exit ≡ written list entry → Listed list entry (record { number = 0; value = n }) exit
  listed_done fits wrote =
      let is = lent_done (length entry) (length list) list (rw (← size) fits) in
      record {
        number = ap (λ (r : Reply). r.number) (sym is);
        value = size ∙ ap (λ (r : Reply). r.value) (sym is);
        writes = wrote ∙ ap (λ (r : Reply). written r.words entry) (sym is);
      }

-- ---- the two ways a read ends

module _ {w : Words} {rule : ℕ} (j : Judged w rule) where
  -- a rule is broken
  pub answer_refuses : {read : Words → Answer} {r : Answer} → (rule ≡ 0 → ⊥) → r ≡ refusal rule → Answered w read r
  answer_refuses {read} h is = record { answers = is ∙ answer_refused j h (read w) }

  pub record_refuses : {read : Words → Record} {r : Record} → (rule ≡ 0 → ⊥) → r ≡ no_record 1 rule → Recorded w read r
  record_refuses {read} h is = record { answers = is ∙ record_refused j h (read w) }

  pub total_refuses : {read : Words → Total} {r : Total} → (rule ≡ 0 → ⊥) → r ≡ no_total 1 rule → Totalled w read r
  total_refuses {read} h is = record { answers = is ∙ total_refused j h (read w) }

  pub reply_refuses : {read : Words → ℕ → Reply} {entry : List ℕ} {r : Answer} → (rule ≡ 0 → ⊥) → r ≡ refusal rule → Replied w read entry r entry
  reply_refuses {read} {entry} h is =
      let same = reply_refused j h (read w (length entry)) in
      record {
        number = ap (λ (a : Answer). a.number) is ∙ ap (λ (a : Reply). a.number) same;
        value = ap (λ (a : Answer). a.value) is ∙ ap (λ (a : Reply). a.value) same;
        writes = ap (λ (a : Reply). written a.words entry) same;
      }

  -- none is, and the read itself counts
  pub answer_done : {read : Words → Answer} {r : Answer} → rule ≡ 0 → r ≡ read w → Answered w read r
  answer_done {read} h is = record { answers = is ∙ answer_counts j h (read w) }

  -- where it counts since the store is checked
  pub checked_done : {read : Words → Answer} {r : Answer} → rule ≡ 0 → (Checked w → r ≡ read w) → Answered w read r
  checked_done h is = answer_done h (is (j.checked h))

  pub record_done : {read : Words → Record} {r : Record} → rule ≡ 0 → r ≡ read w → Recorded w read r
  record_done {read} h is = record { answers = is ∙ record_counts j h (read w) }

  pub total_done : {read : Words → Total} {r : Total} → rule ≡ 0 → r ≡ read w → Totalled w read r
  total_done {read} h is = record { answers = is ∙ total_counts j h (read w) }

  module _ (h : rule ≡ 0) {read : Words → ℕ → Reply} {entry : List ℕ} where
    -- what the read comes to is answered, and its words are written
    pub replies : {exit : List ℕ} (reply : Reply) → read w (length entry) ≡ reply → exit ≡ written reply.words entry
        → Replied w read entry (record { number = reply.number; value = reply.value }) exit
    replies reply is writes =
        let same = sym is ∙ reply_counts j h (read w (length entry)) in
        record {
          number = ap (λ (a : Reply). a.number) same;
          value = ap (λ (a : Reply). a.value) same;
          writes = writes ∙ ap (λ (a : Reply). written a.words entry) same;
        }

    -- a node out of range
    pub reply_absent : read w (length entry) ≡ record { number = 5; value = NONE; words = [] } → Replied w read entry (record { number = 5; value = NONE }) entry
    reply_absent is = replies (record { number = 5; value = NONE; words = [] }) is refl

    -- a list written, or not for want of room
    pub list_replies : {list exit : List ℕ} {r : Answer} → read w (length entry) ≡ listing (length entry) list → Listed list entry r exit
        → Replied w read entry r exit
    list_replies is l =
        let same = sym is ∙ reply_counts j h (read w (length entry)) in
        record {
          number = l.number ∙ ap (λ (a : Reply). a.number) same;
          value = l.value ∙ ap (λ (a : Reply). a.value) same;
          writes = l.writes ∙ ap (λ (a : Reply). written a.words entry) same;
        }

    module _ (list : List ℕ) (is : read w (length entry) ≡ listing (length entry) list) {n : ℕ} (size : n ≡ length list) where
      -- a slice too short for a list
      pub list_short : length entry < n → Replied w read entry (record { number = 2; value = n }) entry
      list_short short = list_replies {list = list} is (listed_short size short)

      -- a list written
      pub list_done : {exit : List ℕ} → n ≤ length entry → exit ≡ written list entry → Replied w read entry (record { number = 0; value = n }) exit
      list_done fits writes = list_replies {list = list} is (listed_done size fits writes)
