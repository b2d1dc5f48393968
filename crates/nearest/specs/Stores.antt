-- A store as the search reads it: the network of its lots and transfers, and what the call has found out before it searches.
use Rattle.std.specs.Prelude.{ℕ, ◌*◌, ◌≤◌, ◌≡◌, true, false, List, length, get_or}
use Rattle.plain.specs.declared.TraversalDirection.TheVariants.{Outgoing, Incoming}
use Rattle.plain.specs.Plain.{node_flags, list_of}
use Rattle.shape.specs.Columns.{end_at}
use Rattle.shape.specs.Shape.{Words, node_capacity, lists}
use Rattle.shape.specs.Checked.{Checked}
use Rattle.nearest.specs.Search.{Network}

-- the ends as the words have them, and the plain lists
abbrev pub network : Words → Network
network w = record {
  source = end_at w.outgoing;
  target = end_at w.incoming;
  out = list_of Outgoing (lists w);
  ins = list_of Incoming (lists w);
}

-- "live lot"
abbrev pub LiveLot : Words → ℕ → Type 0
LiveLot w x = get_or (node_flags (lists w)) x false ≡ true

-- What the call has found out: the store is checked, both lots are live, and the work slice is long enough, whatever it holds.
pub record Asked (w : Words) (first goal : ℕ) (work : List ℕ) : Type 0 where
  pub checked : Checked w
  pub first_live : LiveLot w first
  pub goal_live : LiveLot w goal
  pub long : 2 * node_capacity w ≤ length work
