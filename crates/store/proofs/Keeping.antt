-- Words that the operations leave: live words past the slots, and the words of an axis.
use Rattle.std.specs.Prelude.{ℕ, ◌+◌, ◌*◌, ◌/◌, ◌≤◌, ◌<◌, ◌≡◌, Bool, ◌⊎◌, ◌≢◌, List, get_or}
use Rattle.plain.specs.Library.{ap, ◌∙◌, inl, inr, ⊎_elim, get_or-set_other, arith}
use Rattle.plain.proofs.Laws.Booleans.{below_or_not}
use Rattle.plain.proofs.Laws.Rank.{live_below}
use Rattle.liveness.specs.Flags.{live_flags}
use Rattle.liveness.specs.Laws.Flags.{length_flags}
use Rattle.liveness.specs.Calls.{Pushed, Cleared}
use Rattle.shape.specs.Kept.{AxisKept}
use Rattle.shape.specs.Writes.{OfRing}
use Rattle.shape.proofs.Laws.Agreeing.{unmarked}
use Rattle.adjacency.specs.Clear.{Retired}
use Rattle.adjacency.specs.Rings.{Opened, Appended}

-- ---- live words

-- a slot more
pub pushed_word : {words after : List ℕ} {slots : ℕ} → Pushed words slots after → (i : ℕ) → slots + 1 ≤ 64 * i → get_or after i 0 ≡ get_or words i 0
pushed_word {words} {after} {slots} p i h =
    ap (λ (l : List ℕ). get_or l i 0) p.others ∙ get_or-set_other words (slots / 64) i (get_or after (slots / 64) 0) 0 (omega arith)

-- a slot made dead
pub cleared_word : {words after : List ℕ} {slots slot : ℕ} {answer : Bool} → Cleared words slots slot answer after → slot < slots → (i : ℕ) → slots ≤ 64 * i
    → get_or after i 0 ≡ get_or words i 0
cleared_word {words} {after} {slot = slot} p low i h =
    ap (λ (l : List ℕ). get_or l i 0) p.others ∙ get_or-set_other words (slot / 64) i (get_or after (slot / 64) 0) 0 (omega arith)

-- no other word
pub pushed_other : {words after : List ℕ} {slots : ℕ} → Pushed words slots after → (i : ℕ) → i ≢ slots / 64 → get_or after i 0 ≡ get_or words i 0
pushed_other {words} {after} {slots} p i ne =
    ap (λ (l : List ℕ). get_or l i 0) p.others ∙ get_or-set_other words (slots / 64) i (get_or after (slots / 64) 0) 0 ne

pub cleared_other : {words after : List ℕ} {slots slot : ℕ} {answer : Bool} → Cleared words slots slot answer after → (i : ℕ) → i ≢ slot / 64
    → get_or after i 0 ≡ get_or words i 0
cleared_other {words} {after} {slot = slot} p i ne =
    ap (λ (l : List ℕ). get_or l i 0) p.others ∙ get_or-set_other words (slot / 64) i (get_or after (slot / 64) 0) 0 ne

-- some made dead
pub retired_word : {es words after : List ℕ} {slots n : ℕ} → Retired slots es words after n → (i : ℕ) → slots ≤ 64 * i → get_or after i 0 ≡ get_or words i 0
retired_word {words = words} {slots = slots} p i h =
    p.others i (λ e m live. let low = live_below (live_flags words slots) e live in omega (arith, length_flags words slots))

-- ---- an axis

-- a node is opened
pub opened_kept : {ws vs : List ℕ} {ce cn node : ℕ} (eb : ℕ) → Opened ws vs ce cn node → node < cn → AxisKept ws vs ce cn node (node + 1) eb
opened_kept {ws} {vs} {ce} {cn} {node} eb o low = record {
  ends = λ i l h. o.kept i (omega arith) (omega arith);
  adjacency = λ i l h. o.kept i (omega arith) (omega arith);
  next = λ i l h. o.kept i (omega arith) (omega arith);
  links = λ i l h. o.kept i (omega arith) (omega arith);
  last = λ i l h. o.kept i (omega arith) (omega arith);
  first = λ i l h. o.kept i (omega arith) (omega arith);
  tail = λ i l h. o.kept i (omega arith) (omega arith);
  count = λ i l h. o.kept i (omega arith) (omega arith);
  mark = λ i l h. o.kept i (omega arith) (omega arith);
  marks = λ i l h. inl (o.kept i (omega arith) (omega arith));
  new_marks = λ i l h. let new : i ≡ 4 * ce + 4 * cn + node = omega arith in rw new (inl (unmarked vs ce cn node o.run));
  offsets = λ i l. o.kept i (omega arith) (omega arith);
}

-- an edge is appended at a node
pub appended_kept : {ws vs : List ℕ} {ce cn nb be node e : ℕ} → Appended ws vs ce nb be node e → node < nb → nb ≤ cn → e < ce
    → AxisKept ws vs ce cn nb nb (e + 1)
appended_kept o low within room = record {
  ends = λ i l h. o.below i (omega arith) (omega arith);
  adjacency = λ i l h. o.below i (omega arith) (omega arith);
  next = λ i l h. o.next i (omega arith) h (λ q. ⊎_elim (λ p. omega arith) (λ p. let low = o.last_below p.0 in omega (arith, p.1)) q);
  links = λ i l h. o.above i (omega arith) (omega arith);
  last = λ i l h. o.above i (omega arith) (omega arith);
  first = λ i l h. o.above i (omega arith) (omega arith);
  tail = λ i l h. o.above i (omega arith) (omega arith);
  count = λ i l h. o.above i (omega arith) (omega arith);
  mark = λ i l h. o.above i (omega arith) (omega arith);
  marks = λ i l h. inl (o.above i (omega arith) (omega arith));
  new_marks = λ i l h. absurd (omega arith);
  offsets = λ i l. o.above i (omega arith) (omega arith);
}

-- no word is written but the edge's end, two ring links and the node's last edge
pub appended_writes : {ws vs : List ℕ} {ce nb be node e : ℕ} → Appended ws vs ce nb be node e → (i : ℕ)
    → ((i ≡ e) ⊎ (OfRing ws ce node e i ⊎ (i ≡ 4 * ce + node)) → ⊥) → get_or vs i 0 ≡ get_or ws i 0
appended_writes {ce = ce} o i off =
    ⊎_elim (λ h. o.below i h (λ q. off (inl q)))
    (λ l. ⊎_elim (λ h. o.next i l h (λ q. off (inr (inl q)))) (λ h. o.above i h (λ q. off (inr (inr q)))) (below_or_not i (3 * ce)))
    (below_or_not i (2 * ce))
