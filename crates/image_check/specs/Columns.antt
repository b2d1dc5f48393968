-- The values of a record's field, and the tests of rule 5 over them.
use Rattle.std.specs.Prelude.{ℕ, ◌≤◌, ◌*◌, ◌+◌, Bool, leb, ltb, length}
use Rattle.plain.specs.Numbers.{LIMIT}
use Rattle.plain.specs.Lists.{all, from}
use Rattle.image_check.specs.Checks.{field_in}
use Rattle.image_check.specs.declared.columns.RecordField.{RecordField}

-- of edge e
abbrev pub value : RecordField → ℕ → ℕ
value f e = field_in f.bytes.now f.at f.w f.width e

-- "end not below n"
abbrev pub values_below : RecordField → ℕ → Bool
values_below f n = all (λ e. ltb (value f e) n) (from 0 f.edges)

-- "low above its high"
abbrev pub values_ordered : RecordField → RecordField → Bool
values_ordered lows highs = all (λ e. leb (value lows e) (value highs e)) (from 0 lows.edges)

-- The entries of a direction's joined lists, one of each edge, stand in the bytes from bit `list` on.
pub record Listed (f : RecordField) (list v : ℕ) : Type 0 where
  pub few : f.edges ≤ LIMIT
  pub narrow : v ≤ 32
  pub within : list + v * f.edges ≤ 8 * length f.bytes.now
