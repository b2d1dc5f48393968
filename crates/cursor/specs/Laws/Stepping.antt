-- What a step reads stands in the columns.
use Rattle.std.specs.Prelude.{ℕ, ◌≤◌, ◌<◌, ◌≡◌, Bool, true, false, List, length}
use Rattle.plain.specs.Library.{◌∙◌, subst, ⊎_elim, arith, ne_eqb}
use Rattle.plain.specs.Numbers.{NONE}
use Rattle.plain.specs.Lists.{member}
use Rattle.plain.proofs.Laws.Booleans.{or_true}
use Rattle.plain.proofs.Laws.ListLaws.{member_first, member_append}
use Rattle.shape.specs.Chains.{until, In}
use Rattle.shape.proofs.Laws.Chains.{chain_some}
use Rattle.shape.proofs.Laws.Walking.{until_first}
use Rattle.cursor.specs.declared.AdjacencyCursor.{AdjacencyCursor}
use Rattle.cursor.specs.Cursor.{word, part_left, ring_left, remaining, PartWithin, Ready}

module _ {linked : Bool} {entries next : List ℕ} {c : AdjacencyCursor} (r : Ready linked entries next c) where
  -- the ring's entry
  pub ring_within : (c.delta ≡ NONE → ⊥) → c.delta < length next
  unfolding remaining
  ring_within some =
      r.below c.delta
      (member_append c.delta (part_left linked entries c.base c.base_end) (ring_left next c.delta c.delta_last)
      ∙ rw (ne_eqb c.delta NONE some, first) (or_true (member c.delta (part_left linked entries c.base c.base_end))))
    where
      first : In c.delta (until (word next) c.delta_last (length next) c.delta)
      first = ⊎_elim (λ e. absurd (some e)) (until_first (word next) c.delta_last (length next) c.delta) r.closed

  -- the base part's places
  pub base_within : linked ≡ false → (c.base ≤ c.base_end) × (c.base_end ≤ length entries)
  base_within q = subst (λ (b : Bool). PartWithin b entries next c.base c.base_end) q r.part

  -- the run's entry
  pub run_within : linked ≡ true → (c.base_end ≡ 0 → ⊥) → c.base < length entries
  unfolding remaining
  run_within q some =
      let long : length next ≤ length entries = subst (λ (b : Bool). PartWithin b entries next c.base c.base_end) q r.part in
      let low = r.below c.base (rw (q, chain_some (word entries) c.base_end c.base (omega arith)) (member_first c.base _)) in
      omega arith
