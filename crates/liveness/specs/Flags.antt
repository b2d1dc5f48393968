-- What liveness words mean: a list of live flags, a bit a slot, 64 slots a word, the lowest bit first.
use Rattle.std.specs.Prelude.{ℕ, ◌/◌, ◌%◌, ◌^◌, Bool, true, cond, List, map, length, get_or, drop, eqb, Option, Some, None}
use Rattle.plain.specs.Lists.{from}
use Rattle.plain.specs.Reads.{live_count, live_from}

-- bit k of a word
unfoldable pub bit : ℕ → ℕ → ℕ
bit word k = word / 2 ^ k % 2

-- whether the bit of slot i is set
unfoldable pub live_bit : List ℕ → ℕ → Bool
live_bit words i = eqb (bit (get_or words (i / 64) 0) (i % 64)) 1

-- the live flags of the first slots
unfoldable pub live_flags : List ℕ → ℕ → List Bool
live_flags words slots = map (live_bit words) (from 0 slots)

-- Packed: the last word's unused bits are 0. Where the slots fill their words there is no unused bit.
unfoldable pub packed : List ℕ → ℕ → Bool
packed words slots = cond (eqb (slots % 64) 0) true (eqb (get_or words (slots / 64) 0 / 2 ^ (slots % 64)) 0)

-- What counting answers: the number of live flags where the words are packed, and else none.
unfoldable pub counted : List ℕ → ℕ → Option ℕ
counted words slots = cond (packed words slots) (Some (live_count (live_flags words slots))) None

-- The first live slot at or after a slot, and the number of slots where there is none.
unfoldable pub next_live : List Bool → ℕ → ℕ
next_live flags x = get_or (live_from x (drop x flags)) 0 (length flags)
