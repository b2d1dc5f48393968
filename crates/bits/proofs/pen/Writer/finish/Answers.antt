-- `bits::pen::Writer::finish` meets its contract: what waits is written with zero bits up to a byte.
use Rattle.std.specs.Prelude.{◌+◌, ◌-◌, ◌*◌, ◌≤◌, length}
use Rattle.plain.specs.Library.{arith}
use Rattle.bits.proofs.Wrote.{wrote_part}
use Rattle.bits.proofs.Putting.{waiting_small, finishing}
use Rattle.bits.proofs.pen.Writer.finish.Goals as goal

pub overflow_cast-all : goal.overflow_cast-all
overflow_cast-all c = let s = c in rw c.raise-all.ensures (record { fits = waiting_small _ s.requires.0 (omega arith) })

pub returns : goal.returns
returns c =
    let pen = c.args.self.pen in
    let parts = c.div_ceil-parts.result in
    let room : pen.at + parts ≤ length c.args.self.bytes.now = omega (arith, c.requires.1) in
    let wrote = wrote_part _ pen.at parts _ _ room c.write_low.auto.bytes (rw c.raise-all.ensures at c.write_low.ensures) in
    rw (finishing pen {n = 8 * parts} {zeros = 8 * parts - pen.count} (omega arith) (omega arith)) at wrote
