-- Laws of the ends of a ring, for those who read and walk it: when they can be read, what they are, and that between them stands the ring.
use Rattle.std.specs.Prelude.{ℕ, ◌*◌, ◌≤◌, ◌<◌, ◌≡◌, ◌⊎◌, ◌≢◌, List, [], eqb}
use Rattle.plain.specs.Library.{inl, inr, arith, ne_eqb, eqb-true, eqb-false}
use Rattle.std.proofs.Common.{le_trans}
use Rattle.plain.specs.Numbers.{NONE, LIMIT}
use Rattle.plain.proofs.Laws.Booleans.{by_test}
use Rattle.shape.specs.Columns.{Sized, cell, next_at, last_at}
use Rattle.shape.specs.Chains.{Line}
use Rattle.shape.specs.Shape.{ring_of}
use Rattle.shape.specs.Checked.{Rings}
use Rattle.shape.proofs.Laws.Chains.{ring_last, ring_below, ring_none, ring_line}
use Rattle.adjacency.specs.Rings.{EndsReadable, ring_ends}

-- of an empty ring
pub ends_none : (ws : List ℕ) (ce x : ℕ) → last_at ws ce x ≡ NONE → ring_ends ws ce x ≡ record { first = NONE; last = NONE }
unfolding ring_ends
ends_none ws ce x h = rw h

-- of a ring with a last edge
pub ends_some : (ws : List ℕ) (ce x : ℕ) → last_at ws ce x ≢ NONE → ring_ends ws ce x ≡ record { first = next_at ws ce (last_at ws ce x); last = last_at ws ce x }
unfolding ring_ends
ends_some ws ce x h = rw (ne_eqb (last_at ws ce x) NONE h)

module _ {ws : List ℕ} {ce nb be eb : ℕ} (within : eb ≤ ce) (rings : Rings ws ce nb be eb) (x : ℕ) (low : x < nb) where
  -- the ends of a node's ring can be read
  pub ends_readable : {cn : ℕ} → Sized ws ce cn → nb ≤ cn → EndsReadable ws ce x
  ends_readable sized nodes_within =
      record {
        room = omega arith;
        edge = λ some. let r = rings.ring x low in let high = ring_below r (last_at ws ce x) (ring_last some r) in omega arith;
      }

  -- the ring is empty, or the links visit it from its first end to its last
  pub ends_ring : ce ≤ LIMIT → (let ends = ring_ends ws ce x in
      ((ends.first ≡ NONE) × (ends.last ≡ NONE) × (ring_of ws ce be eb x ≡ []))
      ⊎ Line (cell ws (2 * ce)) be eb ends.first ends.last (ring_of ws ce be eb x))
  unfolding ring_ends
  ends_ring small =
      by_test (eqb (last_at ws ce x) NONE)
      (λ t. let none = eqb-true (last_at ws ce x) NONE t in inl (rw t, none, ring_none (le_trans within small) none (rings.ring x low)))
      (λ t. inr (rw t (ring_line (eqb-false (last_at ws ce x) NONE t) (rings.ring x low))))
