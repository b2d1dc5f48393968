-- Both sums of a node's list, as the plain lists have them.
use Rattle.std.specs.Prelude.{ℕ, map}
use Rattle.plain.specs.declared.TraversalDirection.{TraversalDirection}
use Rattle.plain.specs.Lists.{sum}
use Rattle.plain.specs.Plain.{low_of, high_of, Plain}
use Rattle.plain.specs.Reads.{payloads_of}
use Rattle.plain.specs.declared.Sums.{Sums}

-- both sums of a node's list
abbrev pub sums_in : TraversalDirection → Plain → ℕ → Sums
sums_in d p x = record { low = sum (map low_of (payloads_of d p x)); high = sum (map high_of (payloads_of d p x)) }
