-- `strip::run` meets its contract. The loop's invariant: the first `i` operations are done and answered, in the same slices.
use Rattle.shape.specs.Stores.{words_mut, SameSlices}
use Rattle.strip.proofs.Running.{Running}
use Rattle.strip.proofs.run.Given as goal

abbrev pub invariant-loop-i : goal.invariant-loop-i
invariant-loop-i l = record {
  same : SameSlices l.initial.store l.store;
  running : Running (words_mut l.initial.store) l.words l.initial.answers l.i-end (words_mut l.store) l.answers l.i;
}
