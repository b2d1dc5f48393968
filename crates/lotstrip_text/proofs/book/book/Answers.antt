-- `lotstrip_text::book::book` meets its contract: the strip and the image one after the other.
use Rattle.lotstrip_text.proofs.Booking.{closing_of}
use Rattle.lotstrip_text.proofs.book.book.Goals as goal

pub returns : goal.returns
returns c = closing_of c.run_strip.ensures.booked (rw c.as_store.ensures at c.print_image.ensures)
