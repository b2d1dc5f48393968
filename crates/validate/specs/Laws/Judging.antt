-- The answer of a call behind the check: where a rule is broken it is that rule, else what the call itself answers counts.
use Rattle.std.specs.Prelude.{ℕ, zero, suc, ◌≡◌, refl}
use Rattle.plain.specs.Library.{ap, ◌∙◌, arith}
use Rattle.plain.specs.declared.Answer.{Answer}
use Rattle.plain.specs.declared.Record.{Record}
use Rattle.plain.specs.declared.Total.{Total}
use Rattle.plain.specs.Reads.{Reply, no_record, no_total}
use Rattle.plain.specs.Calls.{judged, judged_reply, judged_record, judged_total}
use Rattle.shape.specs.Shape.{Words}
use Rattle.shape.specs.Rules.{broken}
use Rattle.validate.specs.Judging.{Judged, refusal, reply_refusal}

-- ---- no rule is broken: the answer itself counts

counts : (rule : ℕ) (a : Answer) → rule ≡ 0 → a ≡ judged rule a
counts zero a h = refl
counts (suc rule) a h = absurd (omega arith)

counts_reply : (rule : ℕ) (a : Reply) → rule ≡ 0 → a ≡ judged_reply rule a
counts_reply zero a h = refl
counts_reply (suc rule) a h = absurd (omega arith)

counts_record : (rule : ℕ) (a : Record) → rule ≡ 0 → a ≡ judged_record rule a
counts_record zero a h = refl
counts_record (suc rule) a h = absurd (omega arith)

counts_total : (rule : ℕ) (a : Total) → rule ≡ 0 → a ≡ judged_total rule a
counts_total zero a h = refl
counts_total (suc rule) a h = absurd (omega arith)

-- ---- a rule is broken: it is answered, whatever the call would answer

refuses : (rule : ℕ) (a : Answer) → (rule ≡ 0 → ⊥) → refusal rule ≡ judged rule a
refuses zero a h = absurd (h refl)
refuses (suc rule) a h = refl

refuses_reply : (rule : ℕ) (a : Reply) → (rule ≡ 0 → ⊥) → reply_refusal rule ≡ judged_reply rule a
refuses_reply zero a h = absurd (h refl)
refuses_reply (suc rule) a h = refl

refuses_record : (rule : ℕ) (a : Record) → (rule ≡ 0 → ⊥) → no_record 1 rule ≡ judged_record rule a
refuses_record zero a h = absurd (h refl)
refuses_record (suc rule) a h = refl

refuses_total : (rule : ℕ) (a : Total) → (rule ≡ 0 → ⊥) → no_total 1 rule ≡ judged_total rule a
refuses_total zero a h = absurd (h refl)
refuses_total (suc rule) a h = refl

-- ---- the same of a store that was judged

module _ {w : Words} {rule : ℕ} (j : Judged w rule) where
  pub answer_counts : rule ≡ 0 → (a : Answer) → a ≡ judged (broken w) a
  answer_counts h a = counts rule a h ∙ ap (λ (n : ℕ). judged n a) j.first

  pub reply_counts : rule ≡ 0 → (a : Reply) → a ≡ judged_reply (broken w) a
  reply_counts h a = counts_reply rule a h ∙ ap (λ (n : ℕ). judged_reply n a) j.first

  pub record_counts : rule ≡ 0 → (a : Record) → a ≡ judged_record (broken w) a
  record_counts h a = counts_record rule a h ∙ ap (λ (n : ℕ). judged_record n a) j.first

  pub total_counts : rule ≡ 0 → (a : Total) → a ≡ judged_total (broken w) a
  total_counts h a = counts_total rule a h ∙ ap (λ (n : ℕ). judged_total n a) j.first

  pub answer_refused : (rule ≡ 0 → ⊥) → (a : Answer) → refusal rule ≡ judged (broken w) a
  answer_refused h a = refuses rule a h ∙ ap (λ (n : ℕ). judged n a) j.first

  pub reply_refused : (rule ≡ 0 → ⊥) → (a : Reply) → reply_refusal rule ≡ judged_reply (broken w) a
  reply_refused h a = refuses_reply rule a h ∙ ap (λ (n : ℕ). judged_reply n a) j.first

  pub record_refused : (rule ≡ 0 → ⊥) → (a : Record) → no_record 1 rule ≡ judged_record (broken w) a
  record_refused h a = refuses_record rule a h ∙ ap (λ (n : ℕ). judged_record n a) j.first

  pub total_refused : (rule ≡ 0 → ⊥) → (a : Total) → no_total 1 rule ≡ judged_total (broken w) a
  total_refused h a = refuses_total rule a h ∙ ap (λ (n : ℕ). judged_total n a) j.first
