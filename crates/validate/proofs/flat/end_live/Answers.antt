-- `validate::flat::end_live` meets its contract: of two bits that do not descend the second is set where the first is.
use Rattle.std.specs.Prelude.{◌/◌, ◌%◌, ◌^◌, get_or}
use Rattle.plain.specs.Library.{arith}
use Rattle.liveness.specs.Flags.{bit, live_bit}
use Rattle.shape.specs.Columns.{end_at}
use Rattle.validate.proofs.Flattening.{bit_above}
use Rattle.validate.proofs.flat.end_live.Goals as goal

pub overflow_cast-node : goal.overflow_cast-node
overflow_cast-node c = omega (arith, c.type_inv.axis c.args.edge)

pub returns : goal.returns
unfolding live_bit bit
returns c =
    let a = c.args in
    let e = a.edge in
    let x = end_at a.axis.now e in
    λ h k. bit_above (get_or a.live_edges.now (e / 64) 0 / 2 ^ (e % 64) % 2) (get_or a.live_nodes.now (x / 64) 0 / 2 ^ (x % 64)) h k
