-- `lotstrip_text::book::print_image` meets its contract: work and image have room, and the image is written.
use Rattle.plain.specs.Library.{rules}
use Rattle.lotstrip_text.proofs.Booking.{image_ok, prints}
use Rattle.lotstrip_text.proofs.book.print_image.Goals as goal

pub unwrap-requires : goal.unwrap-requires
unwrap-requires c = image_ok c.requires _ (search rules) c.write_image.ensures

pub returns : goal.returns
returns c = prints c.requires _ (search rules) c.write_image.ensures c.unwrap.ensures
