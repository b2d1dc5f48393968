-- What every operation on a store rests on: the walks are well formed again because the shape's own step keeps them so, and live counts follow the flags.
use Rattle.std.specs.Prelude.{ℕ, ◌≤◌, ◌<◌, ◌≡◌, Bool, true, false, List, length, get_or}
use Rattle.plain.specs.Library.{arith}
use Rattle.plain.specs.declared.Operation.{Operation}
use Rattle.plain.specs.declared.Slots.{Slots}
use Rattle.plain.specs.declared.Counts.{Counts}
use Rattle.plain.specs.Step.{Outcome, step}
use Rattle.plain.specs.WellFormed.{WellFormed}
use Rattle.plain.proofs.Laws.Rank.{live_count_removed, live_count_pushed}
use Rattle.plain.specs.Laws.Stepping.{Fitting}
use Rattle.liveness.specs.Flags.{live_flags}
use Rattle.liveness.specs.Laws.Flags.{count_le}
use Rattle.liveness.specs.Calls.{Pushed, Cleared}
use Rattle.shape.specs.Shape.{Words, capacities, shape_of, lists}
use Rattle.shape.specs.Checked.{SlotsChecked, Checked}
use Rattle.shape.specs.Kept.{SameLengths, same_nodes, same_edges}
use Rattle.shape.specs.Steps.{acted, acts, shape_step}
use Rattle.shape.proofs.Laws.CheckedShape.{checked_proper}
use Rattle.shape.proofs.Laws.Keeping.{step_proper}
use Rattle.store.specs.Operations.{one_more, fewer}

-- the counts with those of one kind of slot replaced
abbrev pub with_nodes : Slots → Counts → Counts
with_nodes s counts = record { nodes = s; edges = counts.edges }

abbrev pub with_edges : Slots → Counts → Counts
with_edges s counts = record { nodes = counts.nodes; edges = s }

-- an operation that changes a checked store, by its outcome in document 01
module _
    {w : Words}
    (checked : Checked w)
    (operation : Operation)
    {o : Outcome}
    (comes : step (capacities w) (lists w) operation ≡ o)
    (acting : acts operation o ≡ true)
  where
    -- it is what the shape's step does
    step_is : shape_step (capacities w) (shape_of w) operation ≡ acted operation (shape_of w)
    unfolding shape_step
    step_is = rw (comes, acting)

    -- after it the walks are well formed, where the shape is what it makes of the shape
    pub acted_walks : (v : Words) → Fitting operation → SameLengths w v → shape_of v ≡ acted operation (shape_of w) → WellFormed (capacities v) (lists v)
    acted_walks v fits same shape =
        rw (same_nodes same, same_edges same, shape, ← step_is) (step_proper (checked_proper w checked) operation fits).walks

-- one kind of slot
module _ {c : ℕ} {words : List ℕ} {s : Slots} (k : SlotsChecked c words s) where
  -- no more slots are live than there are
  pub live_within : s.live ≤ s.bound
  live_within = omega (arith, k.live.live_right, count_le words s.bound)

  -- a live slot more
  pub pushed_checked : {after : List ℕ} → Pushed words s.bound after → length after ≡ length words → s.bound < c → SlotsChecked c after (one_more s)
  pushed_checked p long room = record {
    bounded = record { bound_within = omega arith; base_within = omega (arith, k.bounded.base_within) };
    live_long = rw long k.live_long;
    live = record {
      unused_clear = p.packs k.live.unused_clear;
      live_right = rw p.flags (omega (arith, k.live.live_right, live_count_pushed (live_flags words s.bound)));
    };
  }

  module _ (slot : ℕ) (live : get_or (live_flags words s.bound) slot false ≡ true) where
    -- where a slot is live, some are counted
    pub some_live : 0 < s.live
    some_live = omega (arith, k.live.live_right, live_count_removed (live_flags words s.bound) slot live)

    -- a live slot removed
    pub cleared_checked : {after : List ℕ} {answer : Bool} → Cleared words s.bound slot answer after → length after ≡ length words → SlotsChecked c after (fewer 1 s)
    cleared_checked p long = record {
      bounded = record { bound_within = k.bounded.bound_within; base_within = k.bounded.base_within };
      live_long = rw long k.live_long;
      live = record {
        unused_clear = p.packs k.live.unused_clear;
        live_right = rw p.flags (omega (arith, k.live.live_right, live_count_removed (live_flags words s.bound) slot live));
      };
    }
