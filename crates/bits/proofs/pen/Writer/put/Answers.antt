-- `bits::pen::Writer::put` meets its contract: the value waits with what waited, or four bytes are written.
use Rattle.std.specs.Prelude.{◌+◌, ◌≤◌, refl, length}
use Rattle.std.proofs.Common.{rules}
use Rattle.plain.specs.Library.{arith}
use native.Mathlib.Nat.{div-one}
use Rattle.bits.proofs.Wrote.{wrote_part}
use Rattle.bits.proofs.Putting.{all_fits, front_fits, put_waits, put_writes}
use Rattle.bits.proofs.pen.Writer.put.Goals as goal

pub raise-requires : goal.raise-requires
raise-requires c = omega (arith, all_fits c.requires)

pub overflow_cast-pending : goal.overflow_cast-pending
overflow_cast-pending c = rw c.raise.ensures (record { fits = front_fits c.requires (omega arith) })

pub returns-then-count-lt32 : goal.returns-then-count-lt32
returns-then-count-lt32 c = record { same = refl; penned = rw c.raise.ensures (put_waits c.requires c.if-count-lt32.true) }

pub returns : goal.returns
returns c =
    let room : c.args.self.now.pen.at + 4 ≤ length c.args.self.now.bytes.now = omega (arith, c.requires.within) in
    let wrote = wrote_part _ c.args.self.now.pen.at 4 _ _ room c.write_low.auto.bytes (rw c.raise.ensures at c.write_low.ensures) in
    record {
      same = search rules;
      penned = put_writes c.requires (omega arith) (rw (c.cut.ensures, c.raise.ensures, div-one)) wrote;
    }
