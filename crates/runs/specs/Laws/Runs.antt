-- Laws of a run by its words: the entries of a node with a mark, and of one with none; and that a live edge is below the bound.
use Rattle.std.specs.Prelude.{ℕ, ◌<◌, ◌≡◌, true, ◌≢◌, List, [], eqb}
use Rattle.plain.specs.Library.{Option, none, some, ne_eqb, eqb-true, eqb-false}
use Rattle.plain.specs.declared.Counts.{Counts}
use Rattle.plain.proofs.Laws.Booleans.{by_test}
use Rattle.shape.specs.Columns.{mark_at}
use Rattle.shape.specs.Shape.{run_list, run_of, live_in}
use Rattle.shape.proofs.Laws.Frames.{run_list_unmarked, run_of_unmarked}
use Rattle.plain.proofs.Laws.Rank.{live_below}
use Rattle.liveness.specs.Laws.Flags.{length_flags}
use Rattle.runs.specs.Overlay.{flags_of}

-- the entries of a run, or of none
abbrev pub entries_of : Option (List ℕ) → List ℕ
entries_of none = []
entries_of (some run) = run

module _ (ws : List ℕ) (ce cn x : ℕ) where
  -- a node with a mark has the run of its entries
  pub run_of_marked : mark_at ws ce cn x ≢ 0 → run_of ws ce cn x ≡ some (run_list ws ce cn x)
  unfolding run_of
  run_of_marked some-mark = rw (ne_eqb (mark_at ws ce cn x) 0 some-mark)

  -- the entries are those of the run
  pub entries_are : entries_of (run_of ws ce cn x) ≡ run_list ws ce cn x
  entries_are =
      by_test (eqb (mark_at ws ce cn x) 0)
      (λ t. let none-mark = eqb-true (mark_at ws ce cn x) 0 t in rw (run_of_unmarked ws ce cn x none-mark, run_list_unmarked ws ce cn x none-mark))
      (λ t. rw (run_of_marked (eqb-false (mark_at ws ce cn x) 0 t)))

-- a live edge is below the bound
pub alive_below : (live : List ℕ) (counts : Counts) (e : ℕ) → live_in (flags_of live counts) e ≡ true → e < counts.edges.bound
alive_below live counts e alive = rw length_flags at (live_below (flags_of live counts) e alive)
