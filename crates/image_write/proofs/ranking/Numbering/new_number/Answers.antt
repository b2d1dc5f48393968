-- `image_write::ranking::Numbering::new_number` meets its contract: the slot is its own rank where none is removed.
use Rattle.image_write.proofs.Numbering.{whole_number}
use Rattle.image_write.proofs.ranking.Numbering.new_number.Goals as goal

pub returns-then-self : goal.returns-then-self
returns-then-self c = whole_number c.args.slot c.args.self.now.numbered c.if-self.true c.requires
