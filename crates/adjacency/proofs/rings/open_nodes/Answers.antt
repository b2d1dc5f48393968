-- `adjacency::rings::open_nodes` meets its contract: the rings, then the marks.
use Rattle.adjacency.proofs.rings.open_nodes.Goals as goal

pub returns : goal.returns
returns c = record { emptied = c.fill_words.new.words; rings = c.fill_words.ensures; marks = c.fill_words-2.ensures }
