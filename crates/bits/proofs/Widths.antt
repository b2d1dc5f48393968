-- The lines of the weighing inspector's sheet. Document 02, No. 3: "up to 1 is 0, 2 is 1, 3 to 4 is 2, and so on to 16,385 to 32,768 is 15". Each gives document 01's
-- least width, so that no image changes a byte.
use Rattle.std.specs.Prelude.{ℕ, suc, ◌^◌, ◌≤◌, ◌<◌, ◌≡◌}
use Rattle.plain.specs.Library.{arith}
use lib.Pow.{pow_mono}
use Rattle.plain.specs.Numbers.{LIMIT}
use Rattle.plain.specs.Bits.{least_width}
use Rattle.plain.proofs.Laws.Width.{width_is}

-- the first line
pub first_line : (n : ℕ) → n ≤ 1 → 0 ≡ least_width n
first_line n h = width_is n 0 (omega arith) (omega arith) (λ k l. absurd (omega arith))

-- any other: counts above 2 ^ w up to 2 ^ (w + 1) have width w + 1
pub line_is : (n w : ℕ) → n ≤ LIMIT → 2 ^ w < n → n ≤ 2 ^ suc w → suc w ≡ least_width n
line_is n w few above most = width_is n (suc w) (omega arith) most (λ k l. lower k (omega arith))
  where
    lower : (k : ℕ) → k ≤ w → 2 ^ k < n
    lower k l = omega (arith, pow_mono {i = k} {j = w} l)
