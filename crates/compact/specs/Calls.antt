-- What a compaction comes to on any words: number and value, maps and work as whole lists, and the store.
use Rattle.std.specs.Prelude.{ℕ, ◌+◌, ◌<◌, ◌≡◌, List, map, length}
use Rattle.plain.specs.declared.Slots.{Slots}
use Rattle.plain.specs.declared.TraversalDirection.{TraversalDirection}
use Rattle.plain.specs.Calls.{Compacted, compaction, judged_compaction}
use Rattle.plain.specs.Compaction.{survivors}
use Rattle.plain.specs.Lists.{written, joined, from}
use Rattle.plain.specs.Numbers.{NONE}
use Rattle.plain.specs.Plain.{list_of}
use Rattle.liveness.specs.Calls.{Reset}
use Rattle.shape.specs.Checked.{Checked}
use Rattle.shape.specs.Columns.{cell, offset_at, last_at, mark_at}
use Rattle.shape.specs.Fields.{RenewalLeaves}
use Rattle.shape.specs.Index.{before, ends_of}
use Rattle.shape.specs.Kept.{Renewed, Spared, SameLengths}
use Rattle.shape.specs.Rules.{broken}
use Rattle.shape.specs.Shape.{Words, axis_words, shape_of, lists, node_capacity, edge_capacity}
use Rattle.shape.specs.Steps.{state_of}
use Rattle.compact.specs.Survivors.{shape_of_survivors}

-- what document 01 says of a compaction of a store, number 1 included, by the lengths of the three lent slices
abbrev pub compacting_of : Words → ℕ → ℕ → ℕ → Compacted
compacting_of w node_map edge_map work = judged_compaction (broken w) (state_of (shape_of w)) (compaction (state_of (shape_of w)) node_map edge_map work)

-- One direction whose words are what compaction writes: all that it holds is in the base.
pub record AxisCanonical (ws : List ℕ) (ce cn n m : ℕ) (entries : List ℕ) : Type 0 where
  pub offsets : (x : ℕ) → x < n + 1 → offset_at ws ce cn x ≡ before (ends_of ws m) x
  pub lists : map (cell ws ce) (from 0 m) ≡ entries
  pub rings : (x : ℕ) → x < n → last_at ws ce x ≡ NONE
  pub marks : (x : ℕ) → x < n → mark_at ws ce cn x ≡ 0

-- One kind of slot, with its live words: every slot is in the base and live.
pub record SlotsCanonical (words : List ℕ) (s : Slots) : Type 0 where
  pub based : s.base ≡ s.bound
  pub live : s.live ≡ s.bound
  pub words_set : Reset words s.bound words

-- A store whose words are what compaction and image reading write.
pub record Canonical (w : Words) : Type 0 where
  pub nodes : SlotsCanonical w.live_nodes w.counts.nodes
  pub edges : SlotsCanonical w.live_edges w.counts.edges
  pub axis : (d : TraversalDirection)
      → AxisCanonical (axis_words d w) (edge_capacity w) (node_capacity w) w.counts.nodes.bound w.counts.edges.bound
      (joined (map (list_of d (lists w)) (from 0 w.counts.nodes.bound)))

pub record CompactOf (w : Words) (node_map edge_map work : List ℕ) (number value : ℕ) (v : Words) (node-map' edge-map' work' : List ℕ) : Type 0 where
  pub numbered : number ≡ (compacting_of w (length node_map) (length edge_map) (length work)).number
  pub valued : value ≡ (compacting_of w (length node_map) (length edge_map) (length work)).value
  -- a refusal writes nothing, and words past the answers keep their content
  pub node_mapped : node-map' ≡ written (compacting_of w (length node_map) (length edge_map) (length work)).node_map node_map
  pub edge_mapped : edge-map' ≡ written (compacting_of w (length node_map) (length edge_map) (length work)).edge_map edge_map
  pub worked : work' ≡ written (compacting_of w (length node_map) (length edge_map) (length work)).work work
  pub state : state_of (shape_of v) ≡ (compacting_of w (length node_map) (length edge_map) (length work)).after
  -- nothing is left in runs or rings
  pub shape : number ≡ 0 → shape_of v ≡ shape_of_survivors (survivors (lists w))
  pub checked : number ≡ 0 → Checked v
  pub canonical : number ≡ 0 → Canonical v
  -- compacting again changes no word and no count, field or not
  pub again : number ≡ 0 → Canonical w → v ≡ w
  pub lengths : SameLengths w v
  pub refused_keeps : (number ≡ 0 → ⊥) → v ≡ w
  -- column by column: no word past the bounds, no link, no first, tail or count, and no spare one is written; every field is fixed (Agreeing)
  pub renewed : Renewed w v
  pub spared : Spared w v
  -- of what is no field (`NoField`): all is as it was but the offset of a store without a node, and nothing is left to the program
  pub leaves : RenewalLeaves w v
