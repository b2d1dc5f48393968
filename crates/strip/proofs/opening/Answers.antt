-- `strip::opening` meets its contract: each way out by the tests that led to it.
use Rattle.std.specs.Prelude.{refl}
use Rattle.strip.specs.Strip.{uneven}
use Rattle.strip.proofs.Ending.{opening_told}
use Rattle.strip.proofs.opening.Goals as goal

pub returns-then-length-ne0 : goal.returns-then-length-ne0
returns-then-length-ne0 c = uneven refl c.if-length-ne0.true

pub returns : goal.returns
returns c = opening_told _ c.if-length-ne0.false c.need.ensures
