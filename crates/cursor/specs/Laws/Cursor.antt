-- Laws of the cursor: a step finds the head of what remains and leaves the tail, and nothing is found exactly where nothing remains.
use Rattle.std.specs.Prelude.{ℕ, ◌+◌, ◌-◌, ◌≤◌, ◌<◌, ◌≡◌, refl, Bool, true, false, List, [], ◌∷◌, ◌++◌, length, eqb, ltb, Option, None, Some}
use Rattle.std.specs.Iterator.{YieldsFirst}
use Rattle.plain.specs.Library.{sym, ap, ◌∙◌, subst, inl, inr, ⊎_elim, arith, eqb-true, eqb-false, ne_eqb, ltb-true}
use Rattle.std.proofs.Common.{ltb-false}
use Rattle.plain.specs.Numbers.{NONE}
use Rattle.plain.specs.Lists.{member, keep}
use Rattle.plain.proofs.Laws.Booleans.{by_test, or_true}
use Rattle.plain.proofs.Laws.ListLaws.{member_first, member_later, member_append}
use Rattle.shape.specs.Chains.{until, In}
use Rattle.shape.proofs.Laws.Chains.{chain_none, chain_some, chain_length}
use Rattle.shape.proofs.Laws.Walking.{between_none, between_some, between_length, until_first, until_end, until_on}
use Rattle.cursor.specs.declared.AdjacencyCursor.{AdjacencyCursor}
use Rattle.cursor.specs.Cursor.{word, part_left, part_count, ring_left, remaining, base_at, delta_at, ring_step, step_of, PartWithin, Closed, Ready}

-- as many entries of the run or base part as the cursor's numbers tell
pub part_counted : (linked : Bool) (entries : List ℕ) (at end : ℕ) → length (part_left linked entries at end) ≡ part_count linked at end
part_counted true entries at end = chain_length (word entries) end at
part_counted false entries at end = between_length (word entries) at end

-- What a step from c leaves: an entry found stands before what the cursor left has to read, nothing is found exactly where nothing is left, and the
-- cursor left is ready too.
pub record Stepped (linked : Bool) (entries next : List ℕ) (c : AdjacencyCursor) (s : Option ℕ × AdjacencyCursor) : Type 0 where
  pub ready : Ready linked entries next s.1
  pub left : YieldsFirst (remaining linked entries next) c s.0 s.1

module _ {linked : Bool} {entries next : List ℕ} {c : AdjacencyCursor} (r : Ready linked entries next c) where
  -- an entry e found, and the cursor d behind it
  stepped : (e : ℕ) (d : AdjacencyCursor) → d.base_end ≤ NONE → PartWithin linked entries next d.base d.base_end
      → Closed next d.delta d.delta_last → remaining linked entries next c ≡ e ∷ remaining linked entries next d
      → Stepped linked entries next c (Some e, d)
  stepped e d short part closed left =
      record {
        ready = record {
          few = r.few;
          short = short;
          part = part;
          closed = closed;
          below = λ x m. r.below x (rw left (member_later x e (remaining linked entries next d) m));
        };
        left = left;
      }

  -- the ring's entry, where nothing is left before it
  ring_stepped : part_left linked entries c.base c.base_end ≡ [] → Stepped linked entries next c (ring_step next c)
  unfolding remaining
  ring_stepped none = by_test (eqb c.delta NONE) at_end (λ q. by_test (eqb c.delta c.delta_last) (at_last q (closed q)) (before_last q (closed q)))
    where
      last : ℕ
      last = c.delta_last

      ring : ℕ → List ℕ
      ring = until (word next) last (length next)

      closed : eqb c.delta NONE ≡ false → In last (ring c.delta)
      closed q = ⊎_elim (λ e. absurd (eqb-false c.delta NONE q e)) (λ m. m) r.closed

      at_end : eqb c.delta NONE ≡ true → Stepped linked entries next c (ring_step next c)
      at_end q = rw q (record { ready = r; left = (rw (none, q), rw (none, q)) })

      at_last : eqb c.delta NONE ≡ false → In last (ring c.delta) → eqb c.delta last ≡ true → Stepped linked entries next c (ring_step next c)
      at_last q m e =
          rw (q, e)
          (stepped c.delta (delta_at c NONE) r.short r.part (inl refl)
          (rw (none, q) (until_end (word next) last (length next) c.delta m (eqb-true c.delta last e))))

      before_last : eqb c.delta NONE ≡ false → In last (ring c.delta) → eqb c.delta last ≡ false → Stepped linked entries next c (ring_step next c)
      before_last q m e =
          let on = until_on (word next) last (length next) c.delta m (eqb-false c.delta last e) in
          let on-first = until_first (word next) last (length next) (word next c.delta) on.1 in
          let low = r.below (word next c.delta) (rw (none, q, on.0) (member_later (word next c.delta) c.delta (ring (word next c.delta)) on-first)) in
          let few = r.few in
          let some : eqb (word next c.delta) NONE ≡ false = ne_eqb (word next c.delta) NONE (λ z. omega arith) in
          rw (q, e) (stepped c.delta (delta_at c (word next c.delta)) r.short r.part (inr on.1) (rw (none, q, some) on.0))

-- a step of a walk that is ready
pub step_stepped : (linked : Bool) {entries next : List ℕ} {c : AdjacencyCursor} → Ready linked entries next c
    → Stepped linked entries next c (step_of linked entries next c)
unfolding step_of remaining
step_stepped true {entries} {next} {c} r =
    by_test (eqb c.base_end 0)
    (λ q. rw q (ring_stepped r (chain_none (word entries) c.base_end c.base (eqb-true c.base_end 0 q))))
    (λ q.
    let some = eqb-false c.base_end 0 q in
    let short = r.short in
    rw q
    (stepped r c.base (base_at c (word entries c.base) (c.base_end - 1)) (omega arith) r.part r.closed
    (ap (λ (l : List ℕ). l ++ ring_left next c.delta c.delta_last) (chain_some (word entries) c.base_end c.base (omega arith)))))
step_stepped false {entries} {next} {c} r =
    by_test (ltb c.base c.base_end)
    (λ q.
    let some = ltb-true c.base c.base_end q in
    rw q
    (stepped r (word entries c.base) (base_at c (c.base + 1) c.base_end) r.short (omega arith, r.part.1) r.closed
    (ap (λ (l : List ℕ). l ++ ring_left next c.delta c.delta_last) (between_some (word entries) c.base c.base_end some))))
    (λ q. rw q (ring_stepped r (between_none (word entries) c.base c.base_end (ltb-false c.base c.base_end q))))

-- ---- a step that was taken

module _ {linked : Bool} {entries next : List ℕ} {c : AdjacencyCursor} (ready : Ready linked entries next c) {found : Option ℕ} {d : AdjacencyCursor}
    (r : (found, d) ≡ step_of linked entries next c) where
  -- what the step left
  pub turn : Stepped linked entries next c (found, d)
  turn = subst (λ (t : Option ℕ × AdjacencyCursor). Stepped linked entries next c t) (sym r) (step_stepped linked ready)

  -- what was found stands before what is left
  pub found_is : {f : Option ℕ} → found ≡ f → YieldsFirst (remaining linked entries next) c f d
  found_is q = rw q at turn.left

  -- less is left
  pub turn_less : {e : ℕ} → found ≡ Some e → length (remaining linked entries next d) < length (remaining linked entries next c)
  turn_less {e} q = rw (found_is q) (omega arith)

  -- an entry stands before what is left, of the entries that pass
  pub step_edge : (test : ℕ → Bool) {e : ℕ} → found ≡ Some e → keep test (remaining linked entries next c) ≡ keep test (e ∷ remaining linked entries next d)
  step_edge test q = ap (keep test) (found_is q)

  -- nothing was left
  pub step_none : (test : ℕ → Bool) → found ≡ None → keep test (remaining linked entries next c) ≡ []
  unfolding keep
  step_none test q = ap (keep test) (found_is q).0

  -- an entry is an edge of the columns
  pub step_below : {e : ℕ} → found ≡ Some e → e < length next
  step_below {e} q = ready.below e (rw (found_is q) (member_first e (remaining linked entries next d)))

-- ---- the search for the next entry that passes

-- the same walk without the run or base part, over columns of which the first is not read
pub ring_ready : {linked : Bool} {entries next : List ℕ} {c : AdjacencyCursor} → Ready linked entries next c → Ready false next next (base_at c 0 0)
unfolding remaining
ring_ready {linked} {entries} {next} {c} r =
    let nothing = between_none (word next) 0 0 (omega arith) in
    let before = part_left linked entries c.base c.base_end in
    let ring = ring_left next c.delta c.delta_last in
    record {
      few = r.few;
      short = omega arith;
      part = (omega arith, omega arith);
      closed = r.closed;
      below = λ e m. r.below e (member_append e before ring ∙ rw (rw nothing at m) (or_true (member e before)));
    }

-- and all that it has to read
pub ring_remaining : (next : List ℕ) (c : AdjacencyCursor) → remaining false next next (base_at c 0 0) ≡ ring_left next c.delta c.delta_last
unfolding remaining
ring_remaining next c = rw (between_none (word next) 0 0 (omega arith))
