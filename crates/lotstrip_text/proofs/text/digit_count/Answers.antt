-- `lotstrip_text::text::digit_count` meets its contract: one more than the power of ten.
use Rattle.plain.specs.Library.{sym}
use Rattle.lotstrip_text.proofs.Digits.{digits_of_power, digits_of_zero}
use Rattle.lotstrip_text.proofs.text.digit_count.Goals as goal

pub returns-in-Some : goal.returns-in-Some
returns-in-Some c = let f = c.in-Some.ensures in sym (digits_of_power _ _ f.bound f.power_le f.next_power_gt)

pub returns-in-None : goal.returns-in-None
returns-in-None c = rw c.in-None.ensures.none (sym digits_of_zero)
