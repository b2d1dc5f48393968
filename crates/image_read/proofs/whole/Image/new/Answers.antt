-- `image_read::whole::Image::new` meets its contract: both counts are there to be read.
use Rattle.plain.specs.Library.{arith}
use Rattle.plain.specs.Image.{count_width}
use Rattle.image_read.proofs.Counting.{count_room}
use Rattle.image_read.proofs.whole.Image.new.Goals as goal

pub read_field-requires : goal.read_field-requires
read_field-requires c = count_room _ c.requires 0 (omega arith)

pub read_field-requires-2 : goal.read_field-requires-2
read_field-requires-2 c = count_room _ c.requires count_width (omega arith)
