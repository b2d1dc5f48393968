-- `adjacency::walk::start` meets its contract: a law of the start for each way out.
use Rattle.adjacency.specs.Laws.Rings.{ends_none}
use Rattle.adjacency.proofs.Starting.{ends_readable, none_starts, run_starts, base_starts}
use Rattle.adjacency.proofs.walk.start.Goals.{in-Some, in-None}
use Rattle.adjacency.proofs.walk.start.Goals as goal

pub returns-then-not-live : goal.returns-then-not-live
returns-then-not-live c = rw (c.if-not-live.true, c.exhausted.ensures) (none_starts c.requires)

pub ring_ends-requires : goal.ring_ends-requires
ring_ends-requires c = ends_readable c.requires

pub returns-then-mark-ne0 : goal.returns-then-mark-ne0
returns-then-mark-ne0 c =
    let starts = run_starts c.requires c.if-mark-ne0.true in
    elim c.match-ring_ends.branch [
      | in-Some w ↦ rw (c.if-not-live.false, w.delta-is, w.in-Some.ensures.1) starts
      | in-None w ↦ rw (c.if-not-live.false, w.delta-is) (rw (ends_none _ _ _ w.in-None.ensures) at starts)
    ]

pub returns : goal.returns
returns c =
    let starts = base_starts c.requires c.if-mark-ne0.false in
    elim c.match-ring_ends.branch [
      | in-Some w ↦ rw (c.if-not-live.false, w.delta-is, w.in-Some.ensures.1, c.base_bounds-bounds.ensures) starts
      | in-None w ↦ rw (c.if-not-live.false, w.delta-is, c.base_bounds-bounds.ensures) (rw (ends_none _ _ _ w.in-None.ensures) at starts)
    ]
