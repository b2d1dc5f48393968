-- `image_read::read_axes` meets its contract: the places, and each direction.
use Rattle.std.specs.Prelude.{ℕ, ◌+◌, ◌≡◌}
use Rattle.plain.specs.Library.{ap₂}
use Rattle.plain.specs.Bits.{least_width}
use Rattle.plain.specs.Image.{edges_start}
use Rattle.image_read.proofs.Directions.{readable_at, read_at}
use Rattle.image_read.proofs.read_axes.Goals.{After-ins_start-ins}
use Rattle.image_read.proofs.read_axes.Goals as goal

targets : (c : After-ins_start-ins)
    → c.edges_start-sources.result + c.least_width.result ≡ edges_start c.args.image.now.nodes + least_width c.args.image.now.nodes
targets c = ap₂ (λ (a b : ℕ). a + b) c.edges_start-sources.ensures c.least_width.ensures

pub read_axis-requires : goal.read_axis-requires
read_axis-requires c =
    readable_at c.edges_start-sources.ensures c.outs_start-outs.ensures c.requires.sources

pub read_axis-requires-2 : goal.read_axis-requires-2
read_axis-requires-2 c =
    readable_at (targets (goal.at.read_axis-requires-2 c).After-ins_start-ins) c.ins_start-ins.ensures c.requires.targets

pub returns : goal.returns
returns c =
    record {
      sources = read_at c.edges_start-sources.ensures c.outs_start-outs.ensures c.read_axis.ensures;
      targets = read_at (targets (goal.at.returns c).After-ins_start-ins) c.ins_start-ins.ensures c.read_axis-2.ensures;
    }
