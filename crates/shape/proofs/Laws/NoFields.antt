-- Of the words that are no field: every word of an axis has a place in a column; and what `Kept` and `Renewed` say by columns and bounds is, place by place, what
-- the calls leave of them.
use Rattle.std.specs.Prelude.{ℕ, ◌+◌, ◌-◌, ◌*◌, ◌≤◌, ◌<◌, ◌≡◌, refl, ◌⊎◌, List, length, get_or}
use Rattle.plain.specs.Library.{ap, ◌∙◌, inl, inr, ⊎_elim, arith}
use Rattle.plain.specs.declared.TraversalDirection.{TraversalDirection}
use Rattle.plain.proofs.Laws.Booleans.{below_or_not}
use Rattle.shape.specs.Columns.{cell, offset_at}
use Rattle.shape.specs.Shape.{Words, node_capacity, edge_capacity, axis_words}
use Rattle.shape.specs.Kept.{SameLengths, Kept, Renewed, same_nodes, same_edges}
use Rattle.shape.specs.Fields.{Column, ends, adjacency, next, links, last, first, tail, count, marks, offsets, begins, InColumn, node_payload, edge_low, edge_high, node_bits, edge_bits, axis_word, word_at, NoField, StripLeaves, OffsetOfNone, RenewalLeaves}

-- ---- every word of an axis has a place

-- word i in a column that begins at b, or else behind its c words
in_or_behind : (ws : List ℕ) {ce cn i : ℕ} (column : Column) (b c : ℕ) → b ≤ i → begins ce cn column ≡ b
    → ((x : ℕ) → x < c → b + x ≡ i → InColumn ws ce cn column x)
    → (b + c ≤ i → (column : Column) × (x : ℕ) × InColumn ws ce cn column x × (i ≡ begins ce cn column + x))
    → (column : Column) × (x : ℕ) × InColumn ws ce cn column x × (i ≡ begins ce cn column + x)
in_or_behind ws {i = i} column b c low is within behind =
    ⊎_elim (λ h. (column, i - b, within (i - b) (omega arith) (omega arith), rw is (omega arith))) behind (below_or_not i (b + c))

pub axis_place : (ws : List ℕ) (ce cn i : ℕ) → i < length ws
    → (column : Column) × (x : ℕ) × InColumn ws ce cn column x × (i ≡ begins ce cn column + x)
axis_place ws ce cn i there =
    in_or_behind ws ends 0 ce (omega arith) refl (λ x h q. h)
    (λ l₁. in_or_behind ws adjacency ce ce (omega arith) refl (λ x h q. h)
    (λ l₂. in_or_behind ws next (2 * ce) ce (omega arith) refl (λ x h q. h)
    (λ l₃. in_or_behind ws links (3 * ce) ce (omega arith) refl (λ x h q. h)
    (λ l₄. in_or_behind ws last (4 * ce) cn (omega arith) refl (λ x h q. h)
    (λ l₅. in_or_behind ws first (4 * ce + cn) cn (omega arith) refl (λ x h q. h)
    (λ l₆. in_or_behind ws tail (4 * ce + 2 * cn) cn (omega arith) refl (λ x h q. h)
    (λ l₇. in_or_behind ws count (4 * ce + 3 * cn) cn (omega arith) refl (λ x h q. h)
    (λ l₈. in_or_behind ws marks (4 * ce + 4 * cn) cn (omega arith) refl (λ x h q. h)
    (λ l₉. (offsets, i - (4 * ce + 5 * cn), omega arith, omega arith))))))))))

-- ---- what calls leave

module _ (w v : Words) (same : SameLengths w v) where
  -- the index of a word of a column
  abbrev at : Column → ℕ → ℕ
  at column x = begins (edge_capacity w) (node_capacity w) column + x

  -- a word of a column, since both stores have the same capacities
  cell_left : (d : TraversalDirection) (column : Column) (x : ℕ)
      → cell (axis_words d v) (begins (edge_capacity w) (node_capacity w) column) x ≡ cell (axis_words d w) (begins (edge_capacity w) (node_capacity w) column) x
      → word_at v (axis_word d column x) ≡ word_at w (axis_word d column x)
  cell_left d column x is = ap (λ (n : ℕ). cell (axis_words d v) (begins (edge_capacity v) n column) x) (same_nodes same)
      ∙ ap (λ (m : ℕ). cell (axis_words d v) (begins m (node_capacity w) column) x) (same_edges same) ∙ is

  pub kept_leaves : Kept w v → StripLeaves w v
  kept_leaves k (node_payload x) out held = k.nodes.payloads x (omega (arith, out.1))
  kept_leaves k (edge_low e) out held = k.edges.payloads e (omega (arith, out.1))
  kept_leaves k (edge_high e) out held = k.highs e (omega (arith, out.1))
  kept_leaves k (node_bits i) out held = k.nodes.live i (omega (arith, out.1))
  kept_leaves k (edge_bits i) out held = k.edges.live i (omega (arith, out.1))
  kept_leaves k (axis_word d ends e) out held = cell_left d ends e ((k.axis d).ends (at ends e) (omega (arith, out.1)) (omega (arith, out.0, same_nodes same, same_edges same)))
  kept_leaves k (axis_word d adjacency i) out held = cell_left d adjacency i ((k.axis d).adjacency (at adjacency i) (omega arith) (omega (arith, out.0, same_nodes same, same_edges same)))
  kept_leaves k (axis_word d next e) out held = cell_left d next e ((k.axis d).next (at next e) (omega (arith, held)) (omega (arith, out.0, same_nodes same, same_edges same)))
  kept_leaves k (axis_word d links e) out held = cell_left d links e ((k.axis d).links (at links e) (omega (arith, held)) (omega (arith, out.0, same_nodes same, same_edges same)))
  kept_leaves k (axis_word d last x) out held = cell_left d last x ((k.axis d).last (at last x) (omega (arith, out.1)) (omega (arith, out.0, same_nodes same, same_edges same)))
  kept_leaves k (axis_word d first x) out held = cell_left d first x ((k.axis d).first (at first x) (omega (arith, held)) (omega (arith, out.0, same_nodes same, same_edges same)))
  kept_leaves k (axis_word d tail x) out held = cell_left d tail x ((k.axis d).tail (at tail x) (omega (arith, held)) (omega (arith, out.0, same_nodes same, same_edges same)))
  kept_leaves k (axis_word d count x) out held = cell_left d count x ((k.axis d).count (at count x) (omega (arith, held)) (omega (arith, out.0, same_nodes same, same_edges same)))
  kept_leaves k (axis_word d marks x) out held = cell_left d marks x ((k.axis d).mark (at marks x) (omega (arith, out.1)) (omega (arith, out.0, same_nodes same, same_edges same)))
  kept_leaves k (axis_word d offsets x) out held = cell_left d offsets x ((k.axis d).offsets (at offsets x) (omega arith))

  -- where all is in the base, and the first offset is 0
  module _ (all : (v.counts.nodes.base ≡ v.counts.nodes.bound) × (v.counts.edges.base ≡ v.counts.edges.bound))
      (starts : (d : TraversalDirection) → offset_at (axis_words d v) (edge_capacity v) (node_capacity v) 0 ≡ 0) (k : Renewed w v) where
    in_column : (d : TraversalDirection) (column : Column) (x : ℕ) → get_or (axis_words d v) (at column x) 0 ≡ get_or (axis_words d w) (at column x) 0
        → (word_at v (axis_word d column x) ≡ word_at w (axis_word d column x)) ⊎ OffsetOfNone v (axis_word d column x)
    in_column d column x is = inl (cell_left d column x is)

    -- an offset below the bound is a field, unless there is no node
    offset_of_none : (d : TraversalDirection) (x : ℕ) → x ≤ v.counts.nodes.bound → NoField v (axis_word d offsets x) → OffsetOfNone v (axis_word d offsets x)
    offset_of_none d x within out =
        let empty : v.counts.nodes.bound ≡ 0 =
        ⊎_elim (λ some. absurd (out.1 (omega (arith, all.0), λ q. omega (arith, all.0, q.0)))) (λ none. omega arith) (below_or_not 0 v.counts.nodes.bound) in
        let first : x ≡ 0 = omega arith in
        (empty, (d, ap (axis_word d offsets) first, ap (λ (z : ℕ). word_at v (axis_word d offsets z)) first ∙ starts d))

    pub renewed_leaves : RenewalLeaves w v
    renewed_leaves (node_payload x) out = inl (k.nodes.payloads x (omega (arith, out.1)))
    renewed_leaves (edge_low e) out = inl (k.edges.payloads e (omega (arith, out.1)))
    renewed_leaves (edge_high e) out = inl (k.highs e (omega (arith, out.1)))
    renewed_leaves (node_bits i) out = inl (k.nodes.live i (omega (arith, out.1)))
    renewed_leaves (edge_bits i) out = inl (k.edges.live i (omega (arith, out.1)))
    renewed_leaves (axis_word d ends e) out = in_column d ends e ((k.axis d).ends (at ends e) (omega (arith, out.1)) (omega (arith, out.0, same_nodes same, same_edges same)))
    renewed_leaves (axis_word d adjacency i) out = in_column d adjacency i ((k.axis d).adjacency (at adjacency i) (omega (arith, out.1, all.1)) (omega (arith, out.0, same_nodes same, same_edges same)))
    renewed_leaves (axis_word d next e) out = in_column d next e ((k.axis d).links (at next e) (omega arith) (omega (arith, out.0, same_nodes same, same_edges same)))
    renewed_leaves (axis_word d links e) out = in_column d links e ((k.axis d).links (at links e) (omega arith) (omega (arith, out.0, same_nodes same, same_edges same)))
    renewed_leaves (axis_word d last x) out = in_column d last x ((k.axis d).last (at last x) (omega (arith, out.1)) (omega (arith, out.0, same_nodes same, same_edges same)))
    renewed_leaves (axis_word d first x) out = in_column d first x ((k.axis d).runs (at first x) (omega arith) (omega (arith, out.0, same_nodes same, same_edges same)))
    renewed_leaves (axis_word d tail x) out = in_column d tail x ((k.axis d).runs (at tail x) (omega arith) (omega (arith, out.0, same_nodes same, same_edges same)))
    renewed_leaves (axis_word d count x) out = in_column d count x ((k.axis d).runs (at count x) (omega arith) (omega (arith, out.0, same_nodes same, same_edges same)))
    renewed_leaves (axis_word d marks x) out = in_column d marks x ((k.axis d).mark (at marks x) (omega (arith, out.1)) (omega (arith, out.0, same_nodes same, same_edges same)))
    renewed_leaves (axis_word d offsets x) out =
        ⊎_elim (λ within. inr (offset_of_none d x (omega arith) out)) (λ past. in_column d offsets x ((k.axis d).offsets (at offsets x) (omega arith)))
        (below_or_not x (v.counts.nodes.bound + 1))
