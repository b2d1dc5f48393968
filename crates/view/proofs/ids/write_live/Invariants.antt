-- `view::ids::write_live` meets its contract: after each turn one live slot more is written.
use Rattle.liveness.specs.Flags.{live_flags}
use Rattle.liveness.specs.LiveSlots.{left}
use Rattle.view.proofs.Listing.{Listing}
use Rattle.view.proofs.ids.write_live.Given as goal

abbrev pub invariant-loop-n : goal.invariant-loop-n
invariant-loop-n l = record {
  can : (goal.iterator-loop-n).can_next l.n-iterator;
  ends : (goal.iterator-loop-n).is_finite l.n-iterator;
  listing : Listing (live_flags l.words l.bound) l.initial.slots l.slots l.n-iterator.count (left l.n-iterator.iter);
}
