-- `store::set_payload` meets its contract: what it writes is what `payload_acted` asks.
use Rattle.store.proofs.Editing.{payload_acted}
use Rattle.store.proofs.set_payload.Goals as goal

pub returns-clause-acted : goal.returns-clause-acted
returns-clause-acted c = rw (c.set_weights.ensures.lows, c.set_weights.ensures.highs) (payload_acted c.requires c.set_weights.ensures.fits)
