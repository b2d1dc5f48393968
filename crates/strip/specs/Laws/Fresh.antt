-- What follows from a store that was made.
use Rattle.std.specs.Prelude.{ℕ}
use Rattle.plain.specs.Library.{sym, ap}
use Rattle.plain.specs.declared.Answer.{Answer}
use Rattle.plain.specs.Devices.{Device, Takes, Proper}
use Rattle.memory.specs.Laws.{fresh_roomy}
use Rattle.shape.specs.Shape.{Words, capacities, lengths_of}
use Rattle.strip.specs.Fresh.{FreshOf}

-- a store that was made is no larger than the device takes
pub fresh_takes : {device : Device} → Proper device → {w : Words} {value : ℕ} → FreshOf device w 0 value → Takes device (capacities w)
fresh_takes p {w} of = (fresh_roomy p (lengths_of w) (ap (λ (a : Answer). a.number) (sym of.answered))).takes
