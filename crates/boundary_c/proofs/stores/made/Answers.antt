use Rattle.std.proofs.Common.{rules, sym}
use Rattle.shape.specs.Stores.{words}
use Rattle.boundary_c.proofs.stores.made.Goals as goal

pub returns-in-Ok : goal.returns-in-Ok
returns-in-Ok c =
    rw c.changed.ensures
    (c.in-Ok.ensures.makes (record (words c.args.memory.now) { counts = c.in-Ok.counts }) (sym c.lengths.ensures) c.in-Ok.ensures.counts)

pub returns-in-Err : goal.returns-in-Err
returns-in-Err c =
    rw c.changed-in-Err.ensures
    (c.in-Err.ensures.makes (record (words c.args.memory.now) { counts = c.default.result }) (sym c.lengths.ensures) (search rules))
