-- The fields of a store, and what is no field. "A field is a count of the record or a word of the store's own memory (no map, work or answer word) whose content
-- can change an answer of the check or of a read of the store." `Field` names the words of a checked store that the shape and the rules read; every other word is
-- `NoField`, and of those `StripLeaves` and `RenewalLeaves` say which a call leaves as they were and which it leaves to the program. That no other word is read is
-- `fields_shape` of Laws.Fields. That no field is left to the program, so that two outcomes of one call have `SameFields`, is Agreeing of crates strip, compact, join
-- and image_read, from Laws.Agreeing.
use Rattle.std.specs.Prelude.{ℕ, ◌+◌, ◌*◌, ◌≤◌, ◌<◌, ◌≡◌, ◌⊎◌, ◌≢◌, List, length, get_or}
use Rattle.plain.specs.declared.TraversalDirection.{TraversalDirection}
use Rattle.plain.specs.declared.Counts.{Counts}
use Rattle.shape.specs.Columns.{cell, tail_at, count_at, mark_at}
use Rattle.shape.specs.Chains.{In}
use Rattle.shape.specs.Shape.{Words, node_capacity, edge_capacity, axis_words, run_list, ring_of}
use Rattle.shape.specs.Kept.{SameLengths}

-- the columns of an axis
pub data Column : Type 0 where
  ends : Column
  adjacency : Column
  next : Column
  links : Column
  last : Column
  first : Column
  tail : Column
  count : Column
  marks : Column
  offsets : Column

-- where a column begins
abbrev pub begins : ℕ → ℕ → Column → ℕ
begins ce cn ends = 0
begins ce cn adjacency = ce
begins ce cn next = 2 * ce
begins ce cn links = 3 * ce
begins ce cn last = 4 * ce
begins ce cn first = 4 * ce + cn
begins ce cn tail = 4 * ce + 2 * cn
begins ce cn count = 4 * ce + 3 * cn
begins ce cn marks = 4 * ce + 4 * cn
begins ce cn offsets = 4 * ce + 5 * cn

-- word x of a column is a field
abbrev pub AxisField : List ℕ → ℕ → ℕ → Counts → Column → ℕ → Type 0
AxisField ws ce cn counts ends e = e < counts.edges.bound
AxisField ws ce cn counts adjacency i = i < counts.edges.base
-- an entry of a ring
AxisField ws ce cn counts next e = (x : ℕ) × (x < counts.nodes.bound) × In e (ring_of ws ce counts.edges.base counts.edges.bound x)
-- an entry of a run, but its last
AxisField ws ce cn counts links e = (x : ℕ) × (x < counts.nodes.bound) × In e (run_list ws ce cn x) × (e ≢ tail_at ws ce cn x)
AxisField ws ce cn counts last x = x < counts.nodes.bound
-- of a run that is not empty
AxisField ws ce cn counts first x = (x < counts.nodes.bound) × (mark_at ws ce cn x ≢ 0) × (count_at ws ce cn x ≢ 0)
AxisField ws ce cn counts tail x = (x < counts.nodes.bound) × (mark_at ws ce cn x ≢ 0) × (count_at ws ce cn x ≢ 0)
-- of a run
AxisField ws ce cn counts count x = (x < counts.nodes.bound) × (mark_at ws ce cn x ≢ 0)
AxisField ws ce cn counts marks x = x < counts.nodes.bound
-- none where both base counts are 0
AxisField ws ce cn counts offsets x = (x ≤ counts.nodes.base) × ((counts.nodes.base ≡ 0) × (counts.edges.base ≡ 0) → ⊥)

-- a word of a store's memory
pub data Place : Type 0 where
  node_payload : ℕ → Place
  edge_low : ℕ → Place
  edge_high : ℕ → Place
  node_bits : ℕ → Place
  edge_bits : ℕ → Place
  axis_word : TraversalDirection → Column → ℕ → Place

abbrev pub word_at : Words → Place → ℕ
word_at w (node_payload x) = get_or w.nodes x 0
word_at w (edge_low e) = get_or w.lows e 0
word_at w (edge_high e) = get_or w.highs e 0
word_at w (node_bits i) = get_or w.live_nodes i 0
word_at w (edge_bits i) = get_or w.live_edges i 0
word_at w (axis_word d c x) = cell (axis_words d w) (begins (edge_capacity w) (node_capacity w) c) x

abbrev pub Field : Words → Place → Type 0
Field w (node_payload x) = x < w.counts.nodes.bound
Field w (edge_low e) = e < w.counts.edges.bound
Field w (edge_high e) = e < w.counts.edges.bound
Field w (node_bits i) = 64 * i < w.counts.nodes.bound
Field w (edge_bits i) = 64 * i < w.counts.edges.bound
Field w (axis_word d c x) = AxisField (axis_words d w) (edge_capacity w) (node_capacity w) w.counts c x

-- the words of a column: behind them stand those of the next, and behind the last offset the spare words of the axis
abbrev pub InColumn : List ℕ → ℕ → ℕ → Column → ℕ → Type 0
InColumn ws ce cn ends e = e < ce
InColumn ws ce cn adjacency i = i < ce
InColumn ws ce cn next e = e < ce
InColumn ws ce cn links e = e < ce
InColumn ws ce cn last x = x < cn
InColumn ws ce cn first x = x < cn
InColumn ws ce cn tail x = x < cn
InColumn ws ce cn count x = x < cn
InColumn ws ce cn marks x = x < cn
InColumn ws ce cn offsets x = begins ce cn offsets + x < length ws

-- a place is there, and is named by its own column: every word of a store's memory has one (`axis_place` of Laws.NoFields)
abbrev pub Stands : Words → Place → Type 0
Stands w (node_payload x) = x < node_capacity w
Stands w (edge_low e) = e < edge_capacity w
Stands w (edge_high e) = e < length w.highs
Stands w (node_bits i) = i < length w.live_nodes
Stands w (edge_bits i) = i < length w.live_edges
Stands w (axis_word d c x) = InColumn (axis_words d w) (edge_capacity w) (node_capacity w) c x

-- What is no field: payloads and ends past the bounds; live words past the last; first, tail and count where the mark is 0; first and tail of an empty run; links of
-- no entry and of a run's last; ring links of base edges; adjacency words past the base edge count; offsets past the base nodes; every offset of an empty base; and
-- spare words.
abbrev pub NoField : Words → Place → Type 0
NoField w p = Stands w p × (Field w p → ⊥)

-- ---- what holds of it after a call, of the store w at entry and v at exit

-- Of what is no field a strip leaves to the program the links of slots below the edge bound, and first, tail and count of slots below the node bound.
abbrev pub OpenToStrip : Counts → Place → Type 0
OpenToStrip counts (axis_word d next e) = e < counts.edges.bound
OpenToStrip counts (axis_word d links e) = e < counts.edges.bound
OpenToStrip counts (axis_word d first x) = x < counts.nodes.bound
OpenToStrip counts (axis_word d tail x) = x < counts.nodes.bound
OpenToStrip counts (axis_word d count x) = x < counts.nodes.bound
OpenToStrip counts (axis_word d ends e) = ⊥
OpenToStrip counts (axis_word d adjacency i) = ⊥
OpenToStrip counts (axis_word d last x) = ⊥
OpenToStrip counts (axis_word d marks x) = ⊥
OpenToStrip counts (axis_word d offsets x) = ⊥
OpenToStrip counts (node_payload x) = ⊥
OpenToStrip counts (edge_low e) = ⊥
OpenToStrip counts (edge_high e) = ⊥
OpenToStrip counts (node_bits i) = ⊥
OpenToStrip counts (edge_bits i) = ⊥

-- all else that is no field is as it was
abbrev pub StripLeaves : Words → Words → Type 0
StripLeaves w v = (p : Place) → NoField v p → (OpenToStrip v.counts p → ⊥) → word_at v p ≡ word_at w p

-- Compaction and image reading write one word that is no field: in each direction the offset of a store without a node, which is 0 afterwards.
abbrev pub OffsetOfNone : Words → Place → Type 0
OffsetOfNone v p = (v.counts.nodes.bound ≡ 0) × ((d : TraversalDirection) × (p ≡ axis_word d offsets 0) × (word_at v p ≡ 0))

-- all else that is no field is as it was, and nothing is left to the program
abbrev pub RenewalLeaves : Words → Words → Type 0
RenewalLeaves w v = (p : Place) → NoField v p → (word_at v p ≡ word_at w p) ⊎ OffsetOfNone v p

-- Every field of w is in v as it is in w.
pub record SameFields (w v : Words) : Type 0 where
  pub counts : v.counts ≡ w.counts
  pub lengths : SameLengths w v
  pub words : (p : Place) → Field w p → word_at v p ≡ word_at w p
