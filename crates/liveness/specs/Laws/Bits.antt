-- Laws of a word's bits: setting a bit that is 0 by adding its power of two, clearing one that is 1 by taking it away.
use Rattle.std.specs.Prelude.{ℕ, zero, suc, ◌+◌, ◌-◌, ◌*◌, ◌/◌, ◌%◌, ◌^◌, ◌≤◌, ◌<◌, ◌≡◌, refl}
use Rattle.plain.specs.Library.{sym, ap, ◌∙◌, pow_pos, arith}
use Rattle.std.proofs.Common.{div-one, pow-suc, sub-add_cancel, one-mul, shl_exact}
use Rattle.std.proofs.Math.Nat.{div-div-eq-div-mul, pow-succ', div-eq_of_lt}
use Rattle.std.proofs.Math.Arith.{lt-one}
use Rattle.liveness.specs.Flags.{bit}

-- the lowest bit
pub bit_zero : (w : ℕ) → bit w 0 ≡ w % 2
unfolding bit
bit_zero w = ap (λ (x : ℕ). x % 2) (div-one w)

-- the bits above it are those of the half
pub bit_suc : (w k : ℕ) → bit w (suc k) ≡ bit (w / 2) k
unfolding bit
bit_suc w k = ap (λ (x : ℕ). w / x % 2) (pow-succ' 2 k) ∙ ap (λ (x : ℕ). x % 2) (sym (div-div-eq-div-mul w 2 (2 ^ k)))

-- a word has no bit past its length
pub bit_past : (w k : ℕ) → w < 2 ^ k → bit w k ≡ 0
unfolding bit
bit_past w k h = ap (λ (x : ℕ). x % 2) (div-eq_of_lt h)

-- half of a sum with a power of two
half_add : (w k : ℕ) → (w + 2 ^ suc k) / 2 ≡ w / 2 + 2 ^ k
half_add w k = omega (arith, pow-suc 2 k)

-- what `1 << (i % 64)` is
pub power : (i : ℕ) → 1 * 2 ^ (i % 64) % 2 ^ 64 ≡ 2 ^ (i % 64)
power i = shl_exact 1 (i % 64) 64 (omega arith) (omega arith) ∙ one-mul (2 ^ (i % 64))

-- a bit that is 0, set: it is 1 then
pub mark_here : (k w : ℕ) → bit w k ≡ 0 → bit (w + 2 ^ k) k ≡ 1
mark_here zero w h = rw (bit_zero (w + 1)) (omega (arith, bit_zero w))
mark_here (suc k) w h =
    rw (bit_suc (w + 2 ^ suc k) k, half_add w k) (mark_here k (w / 2) (sym (bit_suc w k) ∙ h))

-- and every other bit is as it was
pub mark_other : (k w j : ℕ) → (j ≡ k → ⊥) → bit w k ≡ 0 → bit (w + 2 ^ k) j ≡ bit w j
mark_other zero w zero n h = absurd (n refl)
mark_other zero w (suc j) n h =
    let e : (w + 1) / 2 ≡ w / 2 = omega (arith, bit_zero w) in
    bit_suc (w + 1) j ∙ ap (λ (x : ℕ). bit x j) e ∙ sym (bit_suc w j)
mark_other (suc k) w zero n h = bit_zero (w + 2 ^ suc k) ∙ omega (arith, pow-suc 2 k) ∙ sym (bit_zero w)
mark_other (suc k) w (suc j) n h =
    bit_suc (w + 2 ^ suc k) j ∙ ap (λ (x : ℕ). bit x j) (half_add w k)
    ∙ mark_other k (w / 2) j (λ e. n (ap suc e)) (sym (bit_suc w k) ∙ h) ∙ sym (bit_suc w j)

-- a word of n bits keeps that length
pub mark_below : (n k w : ℕ) → k < n → w < 2 ^ n → bit w k ≡ 0 → w + 2 ^ k < 2 ^ n
mark_below zero k w l f h = absurd (omega arith)
mark_below (suc n) zero w l f h = omega (arith, bit_zero w, pow-suc 2 n)
mark_below (suc n) (suc k) w l f h =
    let i : w / 2 + 2 ^ k < 2 ^ n = mark_below n k (w / 2) (omega arith) (omega (arith, pow-suc 2 n)) (sym (bit_suc w k) ∙ h) in
    omega (arith, pow-suc 2 n, pow-suc 2 k)

-- a bit that is 1 can be taken away
pub unmark_room : (k w : ℕ) → bit w k ≡ 1 → 2 ^ k ≤ w
unmark_room zero w h = omega (arith, bit_zero w)
unmark_room (suc k) w h =
    let i : 2 ^ k ≤ w / 2 = unmark_room k (w / 2) (sym (bit_suc w k) ∙ h) in
    omega (arith, pow-suc 2 k)

-- it is 0 then
pub unmark_here : (k w : ℕ) → bit w k ≡ 1 → bit (w - 2 ^ k) k ≡ 0
unmark_here zero w h = rw (bit_zero (w - 1)) (omega (arith, bit_zero w))
unmark_here (suc k) w h =
    let e : (w - 2 ^ suc k) / 2 ≡ w / 2 - 2 ^ k = omega (arith, pow-suc 2 k) in
    rw (bit_suc (w - 2 ^ suc k) k, e) (unmark_here k (w / 2) (sym (bit_suc w k) ∙ h))

-- and every other bit is as it was
pub unmark_other : (k w j : ℕ) → (j ≡ k → ⊥) → bit w k ≡ 1 → bit (w - 2 ^ k) j ≡ bit w j
unmark_other k w j n h =
    sym (mark_other k (w - 2 ^ k) j n (unmark_here k w h)) ∙ ap (λ (x : ℕ). bit x j) (sub-add_cancel (unmark_room k w h))

-- a word of r set bits
pub full_bit : (r k : ℕ) → k < r → bit (2 ^ r - 1) k ≡ 1
full_bit zero k h = absurd (omega arith)
full_bit (suc r) zero h = rw (bit_zero (2 ^ suc r - 1)) (omega (arith, pow-suc 2 r, pow_pos r))
full_bit (suc r) (suc k) h =
    let e : (2 ^ suc r - 1) / 2 ≡ 2 ^ r - 1 = omega (arith, pow-suc 2 r, pow_pos r) in
    rw (bit_suc (2 ^ suc r - 1) k, e) (full_bit r k (omega arith))

-- a bit is 0 or 1
pub bit_small : (w k : ℕ) → bit w k < 2
unfolding bit
bit_small w k = omega arith

-- a word of k bits is known by them
pub same_bits : (k a b : ℕ) → a < 2 ^ k → b < 2 ^ k → ((j : ℕ) → j < k → bit a j ≡ bit b j) → a ≡ b
same_bits zero a b h l same = lt-one h ∙ sym (lt-one l)
same_bits (suc k) a b h l same =
    let low : a % 2 ≡ b % 2 = sym (bit_zero a) ∙ same 0 (omega arith) ∙ bit_zero b in
    let high : a / 2 ≡ b / 2
    = same_bits k (a / 2) (b / 2) (omega (arith, pow-suc 2 k)) (omega (arith, pow-suc 2 k)) (λ j m. sym (bit_suc a j) ∙ same (suc j) (omega arith) ∙ bit_suc b j) in
    omega arith
