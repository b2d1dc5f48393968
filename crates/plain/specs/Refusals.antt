-- The number and the value of a refusal: the table of document 01, "The strip", and document 02.
use Rattle.std.specs.Prelude.{ℕ, Result, Ok, Err}
use Rattle.plain.specs.declared.refusals.Rule.{Rule}
use Rattle.plain.specs.declared.refusals.Rule.TheVariants.{Sizes, Live, Ends, Index, Rings, Runs, Walks}
use Rattle.plain.specs.declared.refusals.ImageRule.{ImageRule}
use Rattle.plain.specs.declared.refusals.ImageRule.TheVariants.{Counts, Limits, Length, Padding, Records, Lists}
use Rattle.plain.specs.declared.refusals.Refusal.{Refusal}
use Rattle.plain.specs.declared.refusals.Refusal.TheVariants.{NoStore, TooShort, Ragged, UnknownCode, OutOfRangeNode, RemovedNode, OutOfRangeEdge, RemovedEdge, OntoItself, Full, Unreadable, AboveLimit, Unreachable, AboveSkid, Inverted}
use Rattle.plain.specs.Numbers as numbers

-- "rule 1 to 7"
abbrev pub rule_number : Rule → ℕ
rule_number Sizes = 1
rule_number Live = 2
rule_number Ends = 3
rule_number Index = 4
rule_number Rings = 5
rule_number Runs = 6
rule_number Walks = 7

abbrev pub image_rule_number : ImageRule → ℕ
image_rule_number Counts = 1
image_rule_number Limits = 2
image_rule_number Length = 3
image_rule_number Padding = 4
image_rule_number Records = 5
image_rule_number Lists = 6

abbrev pub number_of : Refusal → ℕ
number_of (NoStore rule) = numbers.no_store
number_of (TooShort needed) = numbers.too_short
number_of (Ragged length) = numbers.ragged
number_of UnknownCode = numbers.unknown_code
number_of OutOfRangeNode = numbers.out_of_range_node
number_of RemovedNode = numbers.removed_node
number_of OutOfRangeEdge = numbers.out_of_range_edge
number_of RemovedEdge = numbers.removed_edge
number_of OntoItself = numbers.onto_itself
number_of Full = numbers.full
number_of (Unreadable rule) = numbers.unreadable
number_of (AboveLimit capacity) = numbers.above_limit
number_of Unreachable = numbers.unreachable
number_of (AboveSkid asked) = numbers.above_skid
number_of Inverted = numbers.inverted

-- "value NONE" where nothing is told
abbrev pub value_of : Refusal → ℕ
value_of (NoStore rule) = rule_number rule
value_of (TooShort needed) = needed
value_of (Ragged length) = length
value_of UnknownCode = numbers.NONE
value_of OutOfRangeNode = numbers.NONE
value_of RemovedNode = numbers.NONE
value_of OutOfRangeEdge = numbers.NONE
value_of RemovedEdge = numbers.NONE
value_of OntoItself = numbers.NONE
value_of Full = numbers.NONE
value_of (Unreadable rule) = image_rule_number rule
value_of (AboveLimit capacity) = capacity
value_of Unreachable = numbers.NONE
value_of (AboveSkid asked) = asked
value_of Inverted = numbers.NONE

-- the first broken rule, 0 where none is
abbrev pub rule_of : Result Unit Rule → ℕ
rule_of (Ok done) = 0
rule_of (Err rule) = rule_number rule

-- the first broken rule of an image, 0 where none is
abbrev pub image_rule_of : Result Unit ImageRule → ℕ
image_rule_of (Ok done) = 0
image_rule_of (Err rule) = image_rule_number rule

-- the number that a step of a call is refused with, 0 where it goes on
abbrev pub fault_number : Result Unit Refusal → ℕ
fault_number (Ok done) = 0
fault_number (Err refusal) = number_of refusal
