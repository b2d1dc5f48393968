-- `bits::cut` meets its contract: the mask is a power of two less one.
use Rattle.std.specs.Prelude.{◌/◌, ◌^◌}
use Rattle.plain.specs.Library.{arith}
use lib.Bits.{and_mask}
use Rattle.bits.proofs.Fields.{one_shl}
use Rattle.bits.proofs.cut.Goals as goal

pub returns : goal.returns
returns c = rw (one_shl c.args.width 64 (omega arith)) (and_mask (c.args.x / 2 ^ c.args.below) c.args.width)
