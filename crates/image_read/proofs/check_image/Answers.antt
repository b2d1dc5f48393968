-- `image_read::check_image` meets its contract: the first broken rule, then the counts.
use Rattle.std.specs.Prelude.{refl}
use Rattle.plain.specs.Library.{ap, ◌∙◌}
use Rattle.plain.specs.Image.{nodes_in, edges_in}
use Rattle.image_read.proofs.Answering.{read_told}
use Rattle.image_read.proofs.check_image.Goals as goal

pub returns-in-Ok : goal.returns-in-Ok
returns-in-Ok c =
    read_told _ _ _ c.in-Ok.ensures (c.new-image.result.many_nodes ∙ ap nodes_in c.new-image.ensures) (c.new-image.result.many_edges ∙ ap edges_in c.new-image.ensures)
    (rw c.limits-limits.ensures at c.check_reading.ensures)

-- whatever the counts are
pub returns-in-Err : goal.returns-in-Err
returns-in-Err c =
    let a = c.args in
    read_told _ _ _ c.in-Err.ensures refl refl ((rw c.limits-limits.ensures at c.check_reading-in-Err.ensures) (nodes_in a.bytes.now) (edges_in a.bytes.now))
