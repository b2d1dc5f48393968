-- Rule 1 as a test of the counts and the lengths of the seven slices, and what it says of one direction.
use Rattle.std.specs.Prelude.{ℕ, ◌+◌, ◌*◌, Bool, ◌&&◌, List, leb}
use Rattle.plain.specs.declared.Counts.{Counts}
use Rattle.shape.specs.Columns.{Sized}
use Rattle.shape.specs.Checked.{Bounded}
use Rattle.shape.specs.Rules.{slots_right}

-- "every other slice long enough" of an axis
abbrev pub axis_long : ℕ → ℕ → ℕ → Bool
axis_long nodes edges long = leb (4 * edges + 6 * nodes + 1) long

-- rule 1, of the lengths in parameter order
unfoldable pub sizes_test : Counts → ℕ → ℕ → ℕ → ℕ → ℕ → ℕ → ℕ → Bool
sizes_test counts nodes edges highs live_nodes live_edges outgoing incoming =
    slots_right nodes live_nodes counts.nodes
    && (slots_right edges live_edges counts.edges && (leb edges highs && (axis_long nodes edges outgoing && axis_long nodes edges incoming)))

-- What rule 1 says of one direction, of capacities ce and cn.
pub record AxisSized (ws : List ℕ) (ce cn : ℕ) (counts : Counts) : Type 0 where
  pub sized : Sized ws ce cn
  pub nodes : Bounded cn counts.nodes
  pub edges : Bounded ce counts.edges
