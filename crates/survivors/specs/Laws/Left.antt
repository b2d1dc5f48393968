-- The definitions that the laws of proofs/Laws/Left.antt speak of.
use Rattle.std.specs.Prelude.{ℕ}
use Rattle.plain.specs.declared.TraversalDirection.{TraversalDirection}
use Rattle.plain.specs.declared.TraversalDirection.TheVariants.{Incoming, Outgoing}
use Rattle.plain.specs.Compaction.{EdgeRecord, source_of, target_of}

-- the end of a record in a direction
abbrev pub end_in : TraversalDirection → EdgeRecord → ℕ
end_in Outgoing = source_of
end_in Incoming = target_of
