-- Fields at equal distances in bytes, and what reading them into words asks.
use Rattle.std.specs.Prelude.{ℕ, ◌+◌, ◌*◌, ◌^◌, ◌≤◌, ◌<◌, List, length}
use Rattle.plain.specs.Bits.{field_at}

-- field number i
abbrev pub spread : List ℕ → ℕ → ℕ → ℕ → ℕ → ℕ
spread bytes position stride width i = field_at bytes (position + stride * i) width

-- The fields are within the bytes, the words have room for them, and the places are numbers of 64 bits.
pub record SpreadFits (bytes : List ℕ) (position stride width : ℕ) (words : List ℕ) (at count : ℕ) : Type 0 where
  pub narrow : width ≤ 32
  pub there : (i : ℕ) → i < count → position + stride * i + width ≤ 8 * length bytes
  pub counted : position + stride * count + width < 2 ^ 64
  pub room : at + count ≤ length words
