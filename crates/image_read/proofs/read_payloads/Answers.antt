-- `image_read::read_payloads` meets its contract.
use Rattle.adjacency.specs.Laws.Parts.{part_rewritten}
use Rattle.image_read.proofs.read_payloads.Goals as goal

pub returns : goal.returns
returns c =
    record {
      nodes_read = part_rewritten c.args.nodes.now 0 c.args.image.now.nodes c.requires.nodes_there.room c.read_fields.ensures;
      weights_read = c.read_weights.ensures;
    }
