-- Bytes that are an image begin with its two counts.
use Rattle.std.specs.Prelude.{ℕ, ◌≤◌, ◌≡◌, List}
use Rattle.plain.specs.Library.{arith}
use Rattle.plain.specs.Image.{count_width, broken_image}
use Rattle.plain.proofs.Laws.Refusals.{readable}
use Rattle.bits.specs.Fields.{Room}

-- the counts are there to be read
pub count_room : (bytes : List ℕ) → broken_image bytes ≡ 0 → (position : ℕ) → position ≤ count_width → Room bytes position count_width
count_room bytes image position h =
    let four = (readable bytes image).ended.padded.sized.counted.four in
    record { narrow = omega arith; within = omega arith; counted = omega arith }
