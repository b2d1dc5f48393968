-- The numbers that calls and operations answer: the table of document 01, "The strip", and document 02. Numbers 1, 2, 3, 12, 13 and 15 are a call's alone and
-- leave "everything" as it was; 14 is a call's too, whose borrowed words are then clear; 4 to 10 and 16 are an operation's and leave the "store". Of these the
-- reads answer 5 to 8 too, "walk: 1, 5, 2", "live record 1, 7, 8", and write nothing then; joining answers 10 too, and writes nothing then.
use Rattle.std.specs.Prelude.{ℕ}

-- "`Option<Id>` becomes a `u32`, with NONE = 4,294,967,295" for none
abbrev pub NONE : ℕ
NONE = 4_294_967_295

-- "The capacities are the lengths of the two payload slices, at most 32,768 each."
abbrev pub LIMIT : ℕ
LIMIT = 32_768

-- done
abbrev pub done : ℕ
done = 0

-- words are no store
abbrev pub no_store : ℕ
no_store = 1

-- a lent slice too short
abbrev pub too_short : ℕ
too_short = 2

-- strip not a multiple of five: "Number 3 now concerns multiples of five."
abbrev pub ragged : ℕ
ragged = 3

-- unknown code or unused word not 0
abbrev pub unknown_code : ℕ
unknown_code = 4

-- node at or above bound
abbrev pub out_of_range_node : ℕ
out_of_range_node = 5

-- node removed
abbrev pub removed_node : ℕ
removed_node = 6

-- edge at or above bound
abbrev pub out_of_range_edge : ℕ
out_of_range_edge = 7

-- edge removed
abbrev pub removed_edge : ℕ
removed_edge = 8

-- move onto itself
abbrev pub onto_itself : ℕ
onto_itself = 9

-- bound equals capacity
abbrev pub full : ℕ
full = 10

-- 11, "image of a store not compact", is no number of any call or operation any more: document 02, No. 2, and `never_eleven` of crate histories

-- image unreadable
abbrev pub unreadable : ℕ
unreadable = 12

-- capacity above 32,768
abbrev pub above_limit : ℕ
above_limit = 13

-- document 02, No. 4: "It refuses with 14, value NONE, where no chain exists"
abbrev pub unreachable : ℕ
unreachable = 14

-- document 02, No. 7: "It refuses with 15 and the value asked for, lots before transfers, in place of 13"
abbrev pub above_skid : ℕ
above_skid = 15

-- document 02, No. 8: "It refuses with 16, value NONE and the store untouched, for a low above its high in codes 2 and 9, directly after 4."
abbrev pub inverted : ℕ
inverted = 16
