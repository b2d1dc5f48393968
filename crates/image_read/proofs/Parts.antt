-- Fields that are read into a part of a slice: what that asks of the part.
use Rattle.std.specs.Prelude.{ℕ, List, length, take, drop}
use Rattle.plain.specs.Library.{arith}
use Rattle.adjacency.specs.Laws.Parts.{part_long}
use Rattle.image_check.specs.Spread.{SpreadFits}

pub part_fits : {bytes : List ℕ} {position stride width : ℕ} (ws : List ℕ) (at n : ℕ) → SpreadFits bytes position stride width ws at n
    → SpreadFits bytes position stride width (take n (drop at ws)) 0 (length (take n (drop at ws)))
part_fits ws at n s =
    let room = s.room in rw (part_long ws at n room) (record { narrow = s.narrow; there = s.there; counted = s.counted; room = omega (arith, part_long ws at n room) })
