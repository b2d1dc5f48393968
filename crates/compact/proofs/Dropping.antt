-- Dropping the dead slots, call by call: what each call asks holds in a checked store.
use Rattle.std.specs.Prelude.{ℕ, ◌*◌, ◌-◌, ◌<◌, ◌≤◌, ◌≡◌, false, true, List, drop, get_or, length, take}
use Rattle.plain.specs.Library.{length-drop, arith}
use lib.Seq.{take_all}
use Rattle.plain.specs.declared.Slots.{Slots}
use Rattle.plain.specs.declared.TraversalDirection.{TraversalDirection}
use Rattle.liveness.specs.Laws.Flags.{length_flags}
use Rattle.plain.proofs.Laws.Rank.{live_below, rank_live}
use Rattle.shape.specs.Checked.{Checked, SlotsChecked}
use Rattle.shape.specs.Columns.{end_at}
use Rattle.shape.specs.Shape.{Words, axis_words, edge_capacity, edge_live, node_capacity, node_live}
use Rattle.shape.proofs.Laws.Ends.{checked_end}
use Rattle.compact.specs.Bases.{Compactable}
use Rattle.compact.specs.Dropping.{Droppable}
use Rattle.survivors.specs.Slots.{Keepable, WeightsKeepable}
use Rattle.survivors.proofs.Laws.Slots.{live_few, slots_there}

-- ---- a part of a slice up to its end

rest_whole : (m : ℕ) (l : List ℕ) → take (length l - m) (drop m l) ≡ drop m l
rest_whole m l = take_all (length l - m) (drop m l) (rw (length-drop m l) (omega arith))

-- ---- what the calls ask

module _ {w : Words} {node_map work : List ℕ} (pre : Droppable w node_map work) where
  pub axis_compactable : (d : TraversalDirection) (entries : List ℕ) → w.counts.edges.live ≤ length entries
      → Compactable (axis_words d w) (edge_capacity w) (node_capacity w) w.live_edges w.counts.edges.bound node_map w.counts.nodes.live
      w.counts.edges.live entries
  axis_compactable d entries there =
      let k = pre.checked in
      record {
        sized = (k.axis d).sized;
        slots_there = slots_there k.edges;
        slots_fit = k.edges.bounded.bound_within;
        nodes_fit = omega (arith, live_few k.nodes, k.nodes.bounded.bound_within);
        counted = k.edges.live.live_right;
        ends_there = λ e l. let low = end_low d e l in omega (arith, pre.nodes_there);
        ends_below = λ e l. let alive = checked_end k d e l in
            let number = pre.mapped (end_at (axis_words d w) e) alive in
            let low = rank_live (node_live w) (end_at (axis_words d w) e) alive in
            omega (arith, k.nodes.live.live_right);
        there = there;
      }
    where
      end_low : (d : TraversalDirection) (e : ℕ) → get_or (edge_live w) e false ≡ true → end_at (axis_words d w) e < w.counts.nodes.bound
      end_low d e l =
          (pre.checked.axis d).ends_below e
          (let low = live_below (edge_live w) e l in omega (arith, length_flags w.live_edges w.counts.edges.bound))

  -- and so of a work slice that is as long
  pub droppable_as : {work' : List ℕ} → length work' ≡ length work → Droppable w node_map work'
  droppable_as same = record { checked = pre.checked; mapped = pre.mapped; nodes_there = pre.nodes_there; there = rw same pre.there }

  -- the two halves of the work slice
  pub first_half : w.counts.edges.live ≤ length work
  first_half = let room = pre.there in omega arith

  pub drop_room : w.counts.edges.live ≤ length (drop w.counts.edges.live work)
  drop_room = rw (length-drop w.counts.edges.live work) (let room = pre.there in omega arith)

  pub second_half : w.counts.edges.live ≤ length (take (length work - w.counts.edges.live) (drop w.counts.edges.live work))
  second_half = rw (rest_whole w.counts.edges.live work) drop_room

-- ---- the slots of a kind

module _ {c : ℕ} {words : List ℕ} {s : Slots} (k : SlotsChecked c words s) where
  -- a column that is long enough can be moved down
  pub keepable : (column : List ℕ) → c ≤ length column → Keepable column words s.bound s.live
  keepable column long = record { there = slots_there k; room = omega (arith, k.bounded.bound_within); counted = k.live.live_right }

  -- there are liveness words for those that are left
  pub resettable : s.live ≤ 64 * length words
  resettable = omega (arith, live_few k, slots_there k)

-- and so can those of the weights
pub weights_keepable : {w : Words} → Checked w → WeightsKeepable w.lows w.highs w.live_edges w.counts.edges.bound w.counts.edges.live
weights_keepable {w} k = record { lows_keepable = keepable k.edges w.lows (omega arith); highs_keepable = keepable k.edges w.highs k.highs_long }
