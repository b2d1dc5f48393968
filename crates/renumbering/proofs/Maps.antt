-- One turn of each loop over a map, and what `compose` answers where the result slice is too short and where it is not.
use Rattle.std.specs.Prelude.{ℕ, zero, suc, ◌+◌, ◌≤◌, ◌<◌, ◌≡◌, refl, ◌↔◌, Bool, true, IsTrue, EachIndex, slice_index, List, [], ◌∷◌, ◌++◌, length, get_or, set, take, drop, eqb}
use Rattle.plain.specs.Library.{sym, length-map, get_or-eq_default, zero-add, add-one, arith, eq-eqb, eqb-true, le-leb, lt-leb}
use lib.Seq.{paste-suc, take-length}
use Rattle.plain.proofs.Laws.Booleans.{same_truth, and_left, and_right, both_true}
use Rattle.plain.specs.Numbers.{NONE}
use Rattle.plain.specs.Lists.{same, from}
use Rattle.plain.specs.Renumbering.{lookup, composed, compose, is_identity_map}
use Rattle.renumbering.specs.Calls.{through, Compose}

-- ---- reading

-- within a map the default does not matter
pub lookup_in : (m : List ℕ) (slot : ℕ) → slot < length m → get_or m slot 0 ≡ lookup m slot
unfolding lookup
lookup_in [] slot h = absurd (omega arith)
lookup_in (x ∷ m) zero h = refl
lookup_in (x ∷ m) (suc slot) h = lookup_in m slot (omega arith)

-- past it there is NONE
pub lookup_out : (m : List ℕ) (slot : ℕ) → length m ≤ slot → NONE ≡ lookup m slot
unfolding lookup
lookup_out m slot h = sym (get_or-eq_default m NONE h)

-- ---- composing

-- the composed map is as long as the first
pub length_composed : (first second : List ℕ) → length (composed first second) ≡ length first
unfolding composed
length_composed first second = length-map first (through second)

-- and at a place holds what becomes of the slot there
pub composed_at : (first second : List ℕ) (i : ℕ) → i < length first → get_or (composed first second) i 0 ≡ through second (get_or first i 0)
unfolding composed
composed_at [] second i h = absurd (omega arith)
composed_at (x ∷ first) second zero h = refl
composed_at (x ∷ first) second (suc i) h = composed_at first second i (omega arith)

-- one slot more is written
pub compose_turn : (first second entry result : List ℕ) (i v : ℕ) → i < length first → length first ≤ length entry
    → result ≡ take i (composed first second) ++ drop i entry → v ≡ through second (get_or first i 0)
    → set result i v ≡ take (i + 1) (composed first second) ++ drop (i + 1) entry
compose_turn first second entry result i v h k written new =
    let l : i < length (composed first second) = omega (arith, length_composed first second) in
    let m : 0 + suc i ≡ suc i = zero-add (suc i) in
    rw (add-one, written, new, ← composed_at first second i h) (rw (zero-add i, m) at (paste-suc entry 0 (composed first second) i 0 (omega arith) l))

-- the result slice is too short
pub compose_short : (first second result : List ℕ) → length result < length first
    → Compose first second result (record { number = 2; value = length first }) result
unfolding compose
compose_short first second result h =
    let e = lt-leb (length (composed first second)) (length result) (omega (arith, length_composed first second)) in
    record { number = rw e; value = rw (e, length_composed); writes = rw e }

-- it has the room, and the composed map is written
pub compose_done : (first second result : List ℕ) → length first ≤ length result
    → Compose first second result (record { number = 0; value = 0 }) (take (length first) (composed first second) ++ drop (length first) result)
unfolding compose
compose_done first second result h =
    let l = length_composed first second in
    let e = le-leb (length (composed first second)) (length result) (omega arith) in
    record { number = rw e; value = rw e; writes = rw (e, ← l, take-length) }

-- ---- the identity

-- slots that each hold the number of their place, from a on
counted_each : (m : List ℕ) (a : ℕ) → same m (from a (length m)) ≡ true → (k : ℕ) → k < length m → get_or m k 0 ≡ a + k
unfolding same from
counted_each [] a e k h = absurd (omega arith)
counted_each (x ∷ m) a e zero h = let first = eqb-true x a (and_left (eqb x a) (same m (from (suc a) (length m))) e) in omega arith
counted_each (x ∷ m) a e (suc k) h =
    let rest = counted_each m (suc a) (and_right (eqb x a) (same m (from (suc a) (length m))) e) k (omega arith) in omega arith

counted_all : (m : List ℕ) (a : ℕ) → ((k : ℕ) → k < length m → get_or m k 0 ≡ a + k) → same m (from a (length m)) ≡ true
unfolding same from
counted_all [] a h = refl
counted_all (x ∷ m) a h =
    let first = h 0 (omega arith) in
    both_true (eq-eqb x a (omega arith)) (counted_all m (suc a) (λ k l. let rest = h (suc k) (omega arith) in omega arith))

-- a test that passes where each slot holds its own number is the whole test
pub identity_each : (m : List ℕ) (b : Bool) → (IsTrue b ↔ EachIndex m (λ k. slice_index m k ≡ k)) → b ≡ is_identity_map m
unfolding is_identity_map
identity_each m b is =
    same_truth b (same m (from 0 (length m))) (λ t. counted_all m 0 (λ k h. let own = is.0 t k h in omega arith))
    (λ t. is.1 (λ k h. let own = counted_each m 0 t k h in omega arith))
