-- Worked examples of the definitions.
use Rattle.std.specs.Prelude.{◌≡◌, refl, true, false, [], ◌∷◌, Some, None}
use Rattle.plain.specs.Lists.{from, count}
use Rattle.plain.specs.Reads.{live_from}
use Rattle.liveness.specs.Flags.{bit, live_bit, live_flags, packed, counted, next_live}
use Rattle.liveness.specs.Calls.{all_live}

-- bits 0 and 2 of a word are set
three_slots : live_flags (5 ∷ []) 3 ≡ true ∷ false ∷ true ∷ []
unfolding live_flags live_bit bit from
three_slots = refl

-- slot 64 is the lowest bit of the second word
next_word : live_bit (0 ∷ 1 ∷ []) 64 ≡ true
unfolding live_bit bit
next_word = refl

-- of three slots two are live
two_live : counted (5 ∷ []) 3 ≡ Some 2
unfolding counted packed live_flags live_bit bit from count
two_live = refl

-- of two slots the third bit is none
unused_set : counted (5 ∷ []) 2 ≡ None
unfolding counted packed
unused_set = refl

-- from slot 1 on the next is slot 2, and from slot 3 on there is none
next_is_two : next_live (true ∷ false ∷ true ∷ []) 1 ≡ 2
unfolding next_live live_from
next_is_two = refl

none_left : next_live (true ∷ false ∷ true ∷ []) 3 ≡ 3
unfolding next_live live_from
none_left = refl

-- 66 live slots fill one word and two bits of the next
filled : all_live 66 ≡ 0xffff_ffff_ffff_ffff ∷ 3 ∷ []
unfolding all_live
filled = refl
