-- `validate::judging::check_store` meets its contract: the payload words that are lent are words of 32 bits.
use Rattle.validate.proofs.Deciding.{judges}
use Rattle.validate.proofs.judging.check_store.Goals as goal

pub returns : goal.returns
returns c = judges c.first_broken.ensures c.words_fit.ensures c.words_fit-2.ensures
