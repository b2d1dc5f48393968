-- `marks::mark` meets its contract: the two ways are `mark_again` and `mark_new` of proofs/Marking.antt.
use Rattle.std.specs.Prelude.{◌%◌}
use Rattle.plain.specs.Library.{arith}
use Rattle.liveness.specs.Flags.{bit}
use Rattle.liveness.specs.Laws.Bits.{power, mark_below}
use Rattle.marks.proofs.Marking.{mark_again, mark_new}
use Rattle.marks.proofs.mark.Goals as goal

pub returns-then-word-bit-eq1 : goal.returns-then-word-bit-eq1
unfolding bit
returns-then-word-bit-eq1 c = mark_again _ _ c.if-word-bit-eq1.true

pub overflow_add-seen : goal.overflow_add-seen
unfolding bit
overflow_add-seen c =
    let edge = c.args.edge in
    rw power (record { fits = mark_below 64 (edge % 64) _ (omega arith) (omega arith) (omega arith) })

pub returns : goal.returns
unfolding bit
returns c = rw power (mark_new _ _ (omega arith) (omega arith))
