-- `nearest::backwards::search` meets its contract: the words cleared, the goal put into the queue, the queue drained.
use Rattle.std.specs.Prelude.{length}
use Rattle.plain.specs.Library.{arith}
use Rattle.nearest.proofs.Stores.{lot_within}
use Rattle.nearest.proofs.Seeding.{filled, filled_seeds, seed_drains, sought}
use Rattle.nearest.proofs.backwards.search.Goals as goal

pub seed-requires : goal.seed-requires
seed-requires c =
    let l = c.requires.long in
    filled_seeds c.requires (filled (length c.args.store.now.nodes.now) c.args.work.now (omega arith) (c.fill.ensures.after (λ y e. e)))

pub drain-requires : goal.drain-requires
drain-requires c =
    let l = c.requires.long in
    seed_drains c.requires (rw (filled (length c.args.store.now.nodes.now) c.args.work.now (omega arith) (c.fill.ensures.after (λ y e. e))) at c.seed.ensures)

pub bounds-work-at : goal.bounds-work-at
bounds-work-at c =
    let pre = c.requires in
    omega (arith, lot_within pre.checked _ pre.first_live, c.drain.ensures.kept.long)

pub returns-in-0 : goal.returns-in-0
returns-in-0 c =
    let l = c.requires.long in
    sought c.requires (rw (filled (length c.args.store.now.nodes.now) c.args.work.now (omega arith) (c.fill.ensures.after (λ y e. e))) at c.seed.ensures)
    c.drain.ensures c.in-0.is

pub returns-in_default : goal.returns-in_default
returns-in_default c =
    let l = c.requires.long in
    sought c.requires (rw (filled (length c.args.store.now.nodes.now) c.args.work.now (omega arith) (c.fill.ensures.after (λ y e. e))) at c.seed.ensures)
    c.drain.ensures (omega arith)
