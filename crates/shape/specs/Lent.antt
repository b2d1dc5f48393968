-- The store that a function is lent, named once in a contract: its counts and the words behind its seven slices, as they are asked of (`lent`), at entry and at exit.
use Rattle.std.specs.Prelude.{ℕ, List}
use Rattle.plain.specs.declared.Counts.{Counts}
use Rattle.shape.specs.Shape.{Words, store}

-- in a `requires`: of slices as the call begins
abbrev pub lent : Counts → List ℕ → List ℕ → List ℕ → List ℕ → List ℕ → List ℕ → List ℕ → Words
lent counts nodes lows highs live_nodes live_edges outgoing incoming = store counts nodes lows highs live_nodes live_edges outgoing incoming

-- in an `ensures`: of slices as the call began, `old` where they are lent by `&mut`
abbrev pub at_entry : Counts → List ℕ → List ℕ → List ℕ → List ℕ → List ℕ → List ℕ → List ℕ → Words
at_entry counts nodes lows highs live_nodes live_edges outgoing incoming = lent counts nodes lows highs live_nodes live_edges outgoing incoming

-- of slices at the return, `new` where they are lent by `&mut`; those lent by `&` are as at entry
abbrev pub at_exit : Counts → List ℕ → List ℕ → List ℕ → List ℕ → List ℕ → List ℕ → List ℕ → Words
at_exit counts nodes lows highs live_nodes live_edges outgoing incoming = lent counts nodes lows highs live_nodes live_edges outgoing incoming
