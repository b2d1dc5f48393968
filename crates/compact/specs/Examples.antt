-- Document 02, No. 9, by example: "compaction, joining and the image keep every walk of every store that passes the check, ring order included." Two stores from
-- elsewhere with a ring that descends, proved by computation from the definitions.
use Rattle.std.specs.Prelude.{ℕ, ◌≡◌, refl, List, [], ◌∷◌, length}
use Rattle.plain.specs.declared.Slots.{Slots}
use Rattle.plain.specs.declared.TraversalDirection.{TraversalDirection}
use Rattle.plain.specs.declared.TraversalDirection.TheVariants.{Outgoing, Incoming}
use Rattle.plain.specs.Bits.{bits_of, value_of, row, bytes_of, pack, least_from, least_width}
use Rattle.plain.specs.Calls.{compaction}
use Rattle.plain.specs.Compaction.{rank, survivors, adjacency, of_survivors, compacted}
use Rattle.plain.specs.Image.{edge_bits, image_bits, image}
use Rattle.plain.specs.Lists.{member, distinct, from, keep, all, count, joined}
use Rattle.plain.specs.Memory.{first_short}
use Rattle.plain.specs.Plain.{list_of}
use Rattle.plain.specs.Reads.{live_from}
use Rattle.liveness.specs.Flags.{bit, live_bit, live_flags, packed}
use Rattle.shape.specs.Chains.{chain, until, ring}
use Rattle.shape.specs.Rules.{rule_1, rule_2, rule_3, rule_4, rule_5, rule_6, rule_7, index_right, ring_right, last_of, runs_right, walks_right, weights_right, broken}
use Rattle.shape.specs.Shape.{Words, store, axis_words, base_of, run_list, run_of, ring_of, axis_of, shape_of, plain_of, lists}
use Rattle.compact.specs.Calls.{compacting_of}
use Rattle.survivors.specs.Lists.{live_walks}

abbrev slots : ℕ → ℕ → ℕ → Slots
slots bound base live = record { bound = bound; base = base; live = live }

-- The smallest: one node, two edges to itself, no base, no run, and the ring 1, 0 in both directions. The columns of its axis, at 0 ends, 2 adjacency, 4 next,
-- 6 link, 8 last, 9 first, 10 tail, 11 count, 12 mark, 13 offsets; the words that say nothing are 9.
abbrev ring_axis : List ℕ
ring_axis = 0 ∷ 0 ∷ 9 ∷ 9 ∷ 1 ∷ 0 ∷ 9 ∷ 9 ∷ 0 ∷ 9 ∷ 9 ∷ 9 ∷ 0 ∷ 9 ∷ 9 ∷ []

abbrev smallest : Words
smallest = store (record { nodes = slots 1 0 1; edges = slots 2 0 2 }) (7 ∷ []) (5 ∷ 6 ∷ []) (5 ∷ 8 ∷ []) (1 ∷ []) (3 ∷ []) ring_axis ring_axis

-- One node and four edges to itself: outgoing the base part 1, 0, incoming the run 1, 0 before a hidden base, and the ring 3, 2 in both. The columns, at 0 ends,
-- 4 adjacency, 8 next, 12 link, 16 last, 17 first, 18 tail, 19 count, 20 mark, 21 offsets.
abbrev base_axis : List ℕ
base_axis = 0 ∷ 0 ∷ 0 ∷ 0 ∷ 1 ∷ 0 ∷ 9 ∷ 9 ∷ 9 ∷ 9 ∷ 3 ∷ 2 ∷ 9 ∷ 9 ∷ 9 ∷ 9 ∷ 2 ∷ 9 ∷ 9 ∷ 9 ∷ 0 ∷ 0 ∷ 2 ∷ []

abbrev run_axis : List ℕ
run_axis = 0 ∷ 0 ∷ 0 ∷ 0 ∷ 0 ∷ 1 ∷ 9 ∷ 9 ∷ 9 ∷ 9 ∷ 3 ∷ 2 ∷ 9 ∷ 0 ∷ 9 ∷ 9 ∷ 2 ∷ 1 ∷ 0 ∷ 2 ∷ 1 ∷ 0 ∷ 2 ∷ []

abbrev behind_a_part : Words
behind_a_part =
    store (record { nodes = slots 1 1 1; edges = slots 4 2 4 }) (7 ∷ []) (5 ∷ 6 ∷ 7 ∷ 8 ∷ []) (5 ∷ 6 ∷ 7 ∷ 8 ∷ []) (1 ∷ []) (15 ∷ []) base_axis run_axis

-- the walks that the program writes for compaction
abbrev walks : TraversalDirection → Words → List ℕ
walks d w = live_walks (axis_words d w) (length w.lows) (length w.nodes) w.counts w.live_nodes w.live_edges

pub record Examples : Type 0 where
  -- the ring 1, 0 is compacted as 1, 0
  pub smallest_passes : broken smallest ≡ 0
  pub smallest_walks : walks Outgoing smallest ≡ 1 ∷ 0 ∷ []
  pub smallest_compacted : (compacting_of smallest 1 2 4).work ≡ 1 ∷ 0 ∷ 1 ∷ 0 ∷ []
  pub smallest_after : list_of Incoming (compacting_of smallest 1 2 4).after.lists 0 ≡ 1 ∷ 0 ∷ []
  pub smallest_image : image (survivors (lists smallest)) ≡ 0 ∷ 1 ∷ 0 ∷ 2 ∷ 0 ∷ 0 ∷ 0 ∷ 7 ∷ 0 ∷ 0 ∷ 0 ∷ 5 ∷ 0 ∷ 0 ∷ 0 ∷ 5 ∷ 0 ∷ 0 ∷ 0 ∷ 6 ∷ 0 ∷ 0 ∷ 0 ∷ 8 ∷ 160 ∷ []
  -- and so is a ring behind a base part or a run that do not ascend either
  pub behind_passes : broken behind_a_part ≡ 0
  pub behind_a_base : walks Outgoing behind_a_part ≡ 1 ∷ 0 ∷ 3 ∷ 2 ∷ []
  pub behind_a_run : walks Incoming behind_a_part ≡ 1 ∷ 0 ∷ 3 ∷ 2 ∷ []
  pub behind_compacted : (compacting_of behind_a_part 1 4 8).work ≡ 1 ∷ 0 ∷ 3 ∷ 2 ∷ 1 ∷ 0 ∷ 3 ∷ 2 ∷ []

examples : Examples
unfolding broken rule_1 rule_2 rule_3 weights_right rule_4 rule_5 rule_6 rule_7 index_right ring_right last_of runs_right walks_right base_of run_list run_of ring_of axis_of shape_of plain_of chain until ring member distinct from keep all count joined bit live_bit live_flags packed live_from rank survivors adjacency of_survivors compacted bits_of value_of row bytes_of pack least_from least_width edge_bits image_bits image first_short compaction live_walks
examples = record {
  smallest_passes = refl;
  smallest_walks = refl;
  smallest_compacted = refl;
  smallest_after = refl;
  smallest_image = refl;
  behind_passes = refl;
  behind_a_base = refl;
  behind_a_run = refl;
  behind_compacted = refl;
}
