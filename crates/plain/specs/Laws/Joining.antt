-- The definitions that the laws of proofs/Laws/Joining.antt speak of.
use Rattle.std.specs.Prelude.{[]}
use Rattle.plain.specs.Compaction.{Survivors}

-- no survivor
abbrev pub no_survivors : Survivors
no_survivors = record { nodes = []; edges = []; outs = []; ins = [] }
