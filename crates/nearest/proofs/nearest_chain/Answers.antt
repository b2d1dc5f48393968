-- `nearest::nearest_chain` meets its contract: what is found, and then the borrowed words cleared.
use Rattle.plain.specs.Library.{arith}
use Rattle.nearest.proofs.Stores.{few}
use Rattle.nearest.proofs.Seeding.{filled}
use Rattle.nearest.proofs.Answering.{clear_fits, answered}
use Rattle.nearest.proofs.nearest_chain.Goals as goal

pub overflow_mul-store : goal.overflow_mul-store
overflow_mul-store c = omega (arith, few c.requires.checked)

pub slice_bounds-fill-end : goal.slice_bounds-fill-end
slice_bounds-fill-end c = clear_fits c.requires c.find_chain-found.ensures

pub returns : goal.returns
returns c =
    answered c.requires c.find_chain-found.ensures
    (filled _ _ (clear_fits c.requires c.find_chain-found.ensures) (c.fill.ensures.after (λ y e. e)))
