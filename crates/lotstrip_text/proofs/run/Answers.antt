-- `lotstrip_text::run` meets its contract: the words are read, the strip is booked, and what it comes to is printed.
use Rattle.plain.specs.Library.{sym}
use Rattle.lotstrip_text.proofs.Printing.{strip_length, strip_whole, answers_part, image_part, print_room, run_printed}
use Rattle.plain.specs.Library.{rules}
use Rattle.lotstrip_text.proofs.run.Goals as goal

pub slice_bounds-book-end : goal.slice_bounds-book-end
slice_bounds-book-end c = sym (strip_length c.read_words.ensures c.requires.whole)

pub book-size-requires : goal.book-size-requires
book-size-requires c =
    let long = strip_length c.read_words.ensures c.requires.whole in
    let short = c.requires.short in
    (strip_whole c.read_words.ensures c.requires.whole, (search rules, search rules))

pub slice_bounds-print-end : goal.slice_bounds-print-end
slice_bounds-print-end c =
    sym (answers_part c.read_words.ensures c.requires.whole c.book-size.ensures)

pub slice_bounds-print-end-2 : goal.slice_bounds-print-end-2
slice_bounds-print-end-2 c =
    sym (image_part c.read_words.ensures c.requires.whole c.book-size.ensures)

pub print-requires : goal.print-requires
print-requires c =
    let pre = c.requires in print_room c.read_words.ensures pre.whole c.book-size.ensures pre.short pre.roomy

pub returns : goal.returns
returns c =
    run_printed c.read_words.ensures c.requires.whole c.book-size.ensures c.print.ensures
