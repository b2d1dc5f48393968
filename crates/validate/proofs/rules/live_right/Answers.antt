-- `validate::rules::live_right` meets its contract.
use Rattle.shape.specs.Stores.{words}
use Rattle.shape.proofs.Laws.Judging.{sizes_sound}
use Rattle.validate.proofs.Deciding.{live_there}
use Rattle.validate.proofs.rules.live_right.Goals as goal

pub live_right-requires : goal.live_right-requires
live_right-requires c = live_there (sizes_sound (words c.args.store.now) c.requires).nodes

pub live_right-requires-then-live_right : goal.live_right-requires-then-live_right
live_right-requires-then-live_right c = live_there (sizes_sound (words c.args.store.now) c.requires).edges
