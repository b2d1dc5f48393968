-- `adjacency::rings::ring_ends` meets its contract, by `ends_some`.
use Rattle.plain.specs.Library.{sym}
use Rattle.adjacency.specs.Laws.Rings.{ends_some}
use Rattle.adjacency.proofs.rings.ring_ends.Goals as goal

pub returns : goal.returns
returns c = (c.if-last.false, sym (ends_some _ _ _ c.if-last.false))
