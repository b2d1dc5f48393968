-- `liveness::push_live` meets its contract: the three ways are `push_first`, `push_bit` and `push_set` of proofs/Words.antt.
use Rattle.std.specs.Prelude.{◌%◌}
use Rattle.plain.specs.Library.{arith}
use Rattle.liveness.specs.Flags.{bit}
use Rattle.liveness.specs.Laws.Bits.{power, mark_below}
use Rattle.liveness.proofs.Words.{push_first, push_bit, push_set}
use Rattle.liveness.proofs.push_live.Goals as goal

pub returns-then-bit-eq0 : goal.returns-then-bit-eq0
returns-then-bit-eq0 c = push_first _ _ c.requires c.if-bit-eq0.true

pub overflow_add-words : goal.overflow_add-words
unfolding bit
overflow_add-words c =
    let slots = c.args.slots in
    rw power (record { fits = mark_below 64 (slots % 64) _ (omega arith) (omega arith) c.if-word-bit-eq0.true })

pub returns-then-word-bit-eq0 : goal.returns-then-word-bit-eq0
unfolding bit
returns-then-word-bit-eq0 c = rw power (push_bit _ _ c.requires c.if-bit-eq0.false c.if-word-bit-eq0.true)

pub returns-else-word-bit-eq0 : goal.returns-else-word-bit-eq0
unfolding bit
returns-else-word-bit-eq0 c = push_set _ _ c.requires c.if-bit-eq0.false (omega arith)
