-- The check of an image's bytes: the ends and weights of the edges where their records stand, rule 6 by one pass over the joined entries, and what each function of
-- src/check.rt may assume.
use Rattle.std.specs.Prelude.{ℕ, ◌+◌, ◌*◌, ◌^◌, ◌≤◌, ◌<◌, ◌≡◌, Bool, ◌&&◌, List, map, length, leb, ltb}
use Rattle.plain.specs.Numbers.{LIMIT}
use Rattle.plain.specs.Lists.{all, distinct, from}
use Rattle.plain.specs.Bits.{field_at, bytes_for}
use Rattle.plain.specs.Image.{nodes_in, edges_in, weight_width, record_width}
use Rattle.plain.specs.Laws.Refusals.{Sized}
use Rattle.plain.specs.Laws.Ascending.{ascending}

-- a field of the record of edge e, of `width` bits, where that of the first edge stands at bit `at`; w is the width of a node's number
abbrev pub field_in : List ℕ → ℕ → ℕ → ℕ → ℕ → ℕ
field_in bytes at w width e = field_at bytes (at + record_width w * e) width

-- the end of edge e, of the direction whose first end stands at bit `at`
abbrev pub end_in : List ℕ → ℕ → ℕ → ℕ → ℕ
end_in bytes at w = field_in bytes at w w

-- rule 5 of one direction: no "end not below n"
unfoldable pub ends_within : List ℕ → ℕ → ℕ → ℕ → ℕ → Bool
ends_within bytes at w n m = all (λ e. ltb (end_in bytes at w e) n) (from 0 m)

-- rule 5 of the weights, of which the first low stands at bit `at`: no "low above its high"
unfoldable pub weights_ordered : List ℕ → ℕ → ℕ → ℕ → Bool
weights_ordered bytes at w m = all (λ e. leb (field_in bytes at w weight_width e) (field_in bytes (at + weight_width) w weight_width e)) (from 0 m)

-- rule 6 of one direction in one pass: no "list entry not below m, repeated", and none at the wrong node, as the ends do not descend
unfoldable pub ordered : (ℕ → ℕ) → ℕ → List ℕ → Bool
ordered end m entries = all (λ e. ltb e m) entries && (distinct entries && ascending 0 (map end entries))

-- Two counts within the limit: rule 2.
pub record Few (n m : ℕ) : Type 0 where
  pub nodes : n ≤ LIMIT
  pub edges : m ≤ LIMIT

-- Bytes are as many as a number of bits takes, and both numbers are small.
pub record Filled (bytes : List ℕ) (size : ℕ) : Type 0 where
  pub long : length bytes ≡ bytes_for size
  pub small : size < 2 ^ 32

-- A field of each of m records, of `width` bits, stands in the bytes; `at` is that of the first record.
pub record Column (bytes : List ℕ) (at w width m : ℕ) : Type 0 where
  pub narrow : width ≤ 32
  pub within : at + record_width w * m + width ≤ 8 * length bytes + record_width w
  pub small : 8 * length bytes < 2 ^ 32 + 8

-- So do the ends of a direction, and both weights.
abbrev pub Ends : List ℕ → ℕ → ℕ → ℕ → Type 0
Ends bytes at w m = Column bytes at w w m

pub record Weights (bytes : List ℕ) (at w m : ℕ) : Type 0 where
  pub lows : Column bytes at w weight_width m
  pub highs : Column bytes (at + weight_width) w weight_width m

-- The ends of a direction stand in the bytes, and the m entries of its joined lists, from bit `list` on.
pub record Entries (bytes : List ℕ) (at w list v m : ℕ) : Type 0 where
  pub ends : Ends bytes at w m
  pub few : m ≤ LIMIT
  pub narrow : v ≤ 32
  pub within : list + v * m ≤ 8 * length bytes

-- Bytes of which rules 1 to 3 hold, and their two counts.
pub record Whole (bytes : List ℕ) (n m : ℕ) : Type 0 where
  pub nodes : n ≡ nodes_in bytes
  pub edges : m ≡ edges_in bytes
  pub sized : Sized bytes
