-- `validate::flat::lists_once` meets its contract: the three passes, one after the other, each on the map that the one before has left.
use Rattle.validate.proofs.Listing.{all_once}
use Rattle.validate_lists.proofs.Once.{listing_none}
use Rattle.validate.proofs.flat.lists_once.Goals.{else-not-runless-via-then-not-runless+else-not-runs_once, else-not-runless-via-else-not-runless}
use Rattle.validate.proofs.flat.lists_once.Goals as goal

pub returns-then-base_flat : goal.returns-then-base_flat
returns-then-base_flat c =
    let p = c.requires in
    λ h. all_once
    (elim c.else-not-runless.branch [
      | else-not-runless-via-then-not-runless+else-not-runs_once w ↦ rw w.seen-is (w.runs_once.ensures w.if-not-runs_once.false)
      | else-not-runless-via-else-not-runless w ↦ rw w.seen-is (listing_none (p.1.no_run w.if-not-runless.false) p.2)
    ])
    (c.base_flat.ensures c.if-base_flat.true) (c.delta_flat.ensures h)
