-- `strip::fresh` meets its contract, by what `check_fresh` ensures of the lengths.
use Rattle.plain.proofs.Laws.Exits.{refused_exit}
use Rattle.memory.specs.Laws.{device_proper}
use Rattle.strip.proofs.Making.{none_counted, made}
use Rattle.strip.proofs.fresh.Goals as goal

pub returns-in_err-check_fresh : goal.returns-in_err-check_fresh
returns-in_err-check_fresh c =
    rw (refused_exit _ c.from_residual.ensures.1) (record { counts = tt; makes = made (device_proper c.args.device) (rw c.limits.ensures at c.in_err-check_fresh.ensures) })

pub returns : goal.returns
returns c = record { counts = none_counted c.default.ensures; makes = made (device_proper c.args.device) (rw c.limits.ensures at c.in_ok-check_fresh.ensures) }
