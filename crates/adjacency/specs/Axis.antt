-- The axis: one direction's columns handed out together, "the `Axis` that holds offsets, adjacency words and ring links".
use Rattle.std.specs.Prelude.{ℕ, ◌≡◌, Bool, List}
use Rattle.adjacency.specs.declared.axis.Axis.{Axis}
use Rattle.adjacency.specs.Index.{offsets_column}
use Rattle.adjacency.specs.Walk.{entries_column, next_column}

-- An axis whose slices are the columns of the words.
pub record Columns (ws : List ℕ) (ce cn : ℕ) (linked : Bool) (r : Axis) : Type 0 where
  pub offsets_are : r.offsets.now ≡ offsets_column ws ce cn
  pub entries_are : r.entries.now ≡ entries_column ws ce linked
  pub next_are : r.next.now ≡ next_column ws ce
