-- What follows from a slot's fault, and from there being none.
use Rattle.std.specs.Prelude.{ℕ, ◌≤◌, ◌<◌, ◌≡◌, refl, Bool, true, false, List, get_or, leb}
use Rattle.plain.specs.Library.{arith, leb-true}
use Rattle.std.proofs.Common.{leb-false}
use Rattle.plain.proofs.Laws.Booleans.{by_test}
use Rattle.liveness.specs.Faults.{fault_of}

module _ (flags : List Bool) (bound slot absent removed : ℕ) where
  -- a slot with no fault is live
  pub no_fault : (absent ≡ 0 → ⊥) → (removed ≡ 0 → ⊥) → fault_of flags bound slot absent removed ≡ 0 → get_or flags slot false ≡ true
  unfolding fault_of
  no_fault a r h =
      by_test (leb bound slot) (λ q. absurd (a (rw q at h)))
      (λ q. let k = rw q at h in by_test (get_or flags slot false) (λ t. t) (λ t. absurd (r (rw t at k))))

  -- what follows from a fault, whichever it is
  pub by_fault : (P : ℕ → Type 0) → (bound ≤ slot → P absent) → (slot < bound → get_or flags slot false ≡ false → P removed)
      → (fault_of flags bound slot absent removed ≡ 0 → ⊥) → P (fault_of flags bound slot absent removed)
  unfolding fault_of
  by_fault P a r =
      by_test (leb bound slot) (λ q. rw q (λ h. a (leb-true bound slot q)))
      (λ q. rw q (by_test (get_or flags slot false) (λ t. rw t (λ h. absurd (h refl))) (λ t. rw t (λ h. r (leb-false bound slot q) t))))

-- the first for the numbers of a node
pub no_node_fault : (flags : List Bool) (bound slot : ℕ) → fault_of flags bound slot 5 6 ≡ 0 → get_or flags slot false ≡ true
no_node_fault flags bound slot = no_fault flags bound slot 5 6 (λ q. omega arith) (λ q. omega arith)
