-- A slot that is refused: its number is that of its fault, and where it is refused, by which refusal.
use Rattle.std.specs.Prelude.{ℕ, ◌≤◌, ◌<◌, ◌≡◌, refl, ◌⊎◌, Bool, true, false, cond, List, Result, Ok, Err, get_or, leb}
use Rattle.std.proofs.Common.{sym, subst, inl, inr, leb-true, leb-false}
use Rattle.plain.proofs.Laws.Booleans.{by_test}
use Rattle.plain.specs.declared.refusals.Refusal.{Refusal}
use Rattle.plain.specs.Refusals.{number_of, fault_number}
use Rattle.liveness.specs.Faults.{fault_of}
use Rattle.shape.specs.Stores.{slot_refused}

-- its number is that of the slot's fault
pub slot_fault : (absent removed : Refusal) (flags : List Bool) (bound slot : ℕ)
    → fault_number (slot_refused absent removed flags bound slot) ≡ fault_of flags bound slot (number_of absent) (number_of removed)
unfolding slot_refused fault_of
slot_fault absent removed flags bound slot =
    elim (leb bound slot) as (λ past. fault_number (cond past (Err absent) (cond (get_or flags slot false) (Ok tt) (Err removed)))
    ≡ cond past (number_of absent) (cond (get_or flags slot false) 0 (number_of removed))) [
      | true ↦ refl
      | false ↦
          elim (get_or flags slot false) as (λ live. fault_number (cond live (Ok tt) (Err removed)) ≡ cond live 0 (number_of removed))
          [ true ↦ refl | false ↦ refl ]
    ]

-- a refused slot is refused as absent or as removed
pub slot_refusal : {absent removed refusal : Refusal} (flags : List Bool) (bound slot : ℕ) → slot_refused absent removed flags bound slot ≡ Err refusal
    → (refusal ≡ absent) ⊎ (refusal ≡ removed)
unfolding slot_refused
slot_refusal {absent} {removed} {refusal} flags bound slot =
    elim (leb bound slot) as (λ past. cond past (Err absent) (cond (get_or flags slot false) (Ok tt) (Err removed)) ≡ Err refusal → (refusal ≡ absent) ⊎ (refusal ≡ removed)) [
      | true ↦ λ q. inl (sym (err_same q))
      | false ↦
          elim (get_or flags slot false) as (λ live. cond live (Ok tt) (Err removed) ≡ Err refusal → (refusal ≡ absent) ⊎ (refusal ≡ removed))
          [ true ↦ λ q. cc | false ↦ λ q. inr (sym (err_same q)) ]
    ]
  where
    err_same : {a b : Refusal} → ◌≡◌ {A = Result Unit Refusal} (Err a) (Err b) → a ≡ b
    err_same q = cc

-- what follows from a refused slot, whichever way it is
pub by_refused : {absent removed refusal : Refusal} (flags : List Bool) (bound slot : ℕ) (P : Refusal → Type 0) → (bound ≤ slot → P absent)
    → (slot < bound → get_or flags slot false ≡ false → P removed) → Err refusal ≡ slot_refused absent removed flags bound slot → P refusal
unfolding slot_refused
by_refused {absent} {removed} {refusal} flags bound slot P past dead refused =
    by_test (leb bound slot) (λ q. subst P (sym (same (rw q at refused))) (past (leb-true bound slot q)))
    (λ q.
    by_test (get_or flags slot false) (λ l. let none = rw (q, l) at refused in cc)
    (λ l. subst P (sym (same (rw (q, l) at refused))) (dead (leb-false bound slot q) l)))
  where
    same : {a b : Refusal} → ◌≡◌ {A = Result Unit Refusal} (Err a) (Err b) → a ≡ b
    same q = cc

-- a slot that is not refused is live
pub not_refused : (absent removed : Refusal) {done : Unit} (flags : List Bool) (bound slot : ℕ) → Ok done ≡ slot_refused absent removed flags bound slot
    → get_or flags slot false ≡ true
unfolding slot_refused
not_refused absent removed flags bound slot passed =
    by_test (leb bound slot) (λ q. let none = rw q at passed in cc)
    (λ q. by_test (get_or flags slot false) (λ l. l) (λ l. let none = rw (q, l) at passed in cc))
