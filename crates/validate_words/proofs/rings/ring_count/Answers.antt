-- `validate_words::rings::ring_count` meets its contract.
use Rattle.std.specs.Prelude.{not, get_or, eqb}
use Rattle.plain.specs.Library.{◌∙◌, arith}
use Rattle.plain.specs.Numbers.{NONE}
use Rattle.validate_words.specs.Laws.Passing.{count_start, count_on, count_done}
use Rattle.validate_words.proofs.Climbing.{byte_is, byte_few}
use Rattle.validate_words.proofs.rings.ring_count.Goals as goal

pub loop-last-init : goal.loop-last-init
loop-last-init c = count_start _ _

pub overflow_add-rings : goal.overflow_add-rings
overflow_add-rings c = omega (arith, c.from-rings.ensures, byte_few (not (eqb (get_or c.args.lasts.now c.loop-last.last-index 0) NONE)), c.loop-last.invariant.few)

pub loop-last-preserved : goal.loop-last-preserved
loop-last-preserved c = count_on _ c.loop-last.invariant c.loop-last-test.true (c.from-rings.ensures ∙ byte_is _)

pub returns : goal.returns
returns c = count_done _ c.loop-last.invariant c.loop-last-test.false
