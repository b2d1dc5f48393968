-- `image_read::read_weights` meets its contract: the places, and each weight.
use Rattle.adjacency.specs.Laws.Parts.{part_rewritten}
use Rattle.image_read.proofs.Parts.{part_fits}
use Rattle.image_read.proofs.read_weights.Goals as goal

pub read_fields-requires : goal.read_fields-requires
read_fields-requires c =
    rw (c.edges_start.ensures, c.record_width-stride.ensures, c.least_width-end.ensures)
    (part_fits c.args.lows.now 0 c.args.image.now.edges c.requires.lows_there)

pub read_fields-requires-2 : goal.read_fields-requires-2
read_fields-requires-2 c =
    rw (c.edges_start.ensures, c.record_width-stride.ensures, c.least_width-end.ensures)
    (part_fits c.args.highs.now 0 c.args.image.now.edges c.requires.highs_there)

pub returns : goal.returns
returns c =
    let m = c.args.image.now.edges in
    record {
      lows_read = part_rewritten c.args.lows.now 0 m c.requires.lows_there.room
          (rw (c.edges_start.ensures, c.record_width-stride.ensures, c.least_width-end.ensures) at c.read_fields.ensures);
      highs_read = part_rewritten c.args.highs.now 0 m c.requires.highs_there.room
          (rw (c.edges_start.ensures, c.record_width-stride.ensures, c.least_width-end.ensures) at c.read_fields-2.ensures);
    }
