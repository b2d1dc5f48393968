-- The definitions that the laws of proofs/Laws/Frames.antt speak of.
use Rattle.std.specs.Prelude.{ℕ, ◌≡◌, List}
use Rattle.shape.specs.Columns.{end_at, next_at, link_at, last_at, first_at, count_at, mark_at}
use Rattle.shape.specs.Chains.{In}
use Rattle.shape.specs.Shape.{run_list, ring_of}

-- What a run is read from is in vs as it is in ws: the node's cells and the links of the run's own entries.
pub record SameRun (ws vs : List ℕ) (ce cn x : ℕ) : Type 0 where
  pub mark : mark_at vs ce cn x ≡ mark_at ws ce cn x
  pub count : count_at vs ce cn x ≡ count_at ws ce cn x
  pub first : first_at vs ce cn x ≡ first_at ws ce cn x
  pub links : (e : ℕ) → In e (run_list ws ce cn x) → link_at vs ce e ≡ link_at ws ce e

-- What a ring is read from, and the ends of its entries, are in vs as they are in ws.
pub record SameRing (ws vs : List ℕ) (ce be eb x : ℕ) : Type 0 where
  pub last : last_at vs ce x ≡ last_at ws ce x
  pub next : (e : ℕ) → In e (ring_of ws ce be eb x) → next_at vs ce e ≡ next_at ws ce e
  pub ends : (e : ℕ) → In e (ring_of ws ce be eb x) → end_at vs e ≡ end_at ws e
