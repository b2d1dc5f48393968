-- Columns as parts of the packed words: what is there to be read, and that reading them is reading the words.
use Rattle.std.specs.Prelude.{ℕ, suc, ◌+◌, ◌*◌, ◌≤◌, ◌<◌, ◌≡◌, List, ltb}
use Rattle.plain.specs.Library.{arith, ltb-true}
use Rattle.plain.proofs.Laws.Booleans.{by_test}
use Rattle.adjacency.specs.Index.{offsets_column, base_bounds, bounds_at}
use Rattle.adjacency.specs.Laws.Walk.{column_word}

module _ (ws : List ℕ) (ce cn bn : ℕ) where
  -- the bounds that the column gives are those that the packed words give
  pub bounds_in_column : bn ≤ cn → (x : ℕ) → bounds_at (offsets_column ws ce cn) bn x ≡ base_bounds ws ce cn bn x
  unfolding bounds_at base_bounds
  bounds_in_column within x =
      by_test (ltb x bn)
      (λ h.
      let below : x < bn = ltb-true x bn h in
      rw (h, column_word ws (4 * ce + 5 * cn) (cn + 1) x (omega arith), column_word ws (4 * ce + 5 * cn) (cn + 1) (suc x) (omega arith)))
      (λ h. rw h)
