-- Compacting again changes nothing: what compaction leaves is canonical, and compacting a canonical store leaves every word as it was, which is shown here. Not only
-- fields: every word. The argument:
-- 1. All slots of a canonical store are live, so each map is the identity, and what compaction moves down stays where it is (`kept_all_live`).
-- 2. Compacting one direction writes five times: the ends move down (1), and are renumbered, each by the identity; then the offsets, the entries, the rings and the
--    marks are written. After each of them the slice is shown to be what it was, by `rewritten_same`: a range rewritten with what stood there.
-- 3. Of offsets, rings and marks `AxisCanonical` says that they stand there already: `before` of the ends, NONE and 0.
-- 4. Of the entries it says that they are the lists of all nodes joined. What is written is the first or second half of the work slice, the lists of the survivors.
--    Since all is live and the store is well formed, the survivors' lists are the lists that were there (`same_lists`, `outs_again`, `ins_again`).
-- 5. Live words are those of as many slots, all live, and stand there already; the counts are all bound already. So all seven parts are equal (`dropped_again`).
use Rattle.std.specs.Prelude.{ℕ, ◌+◌, ◌*◌, ◌≤◌, ◌<◌, ◌≡◌, true, List, map, length, get_or, take, drop, replicate}
use Rattle.plain.specs.Library.{sym, ap, ap₂, subst, subst₂, ◌∙◌, zero-add}
use lib.Seq.{get_or-take}
use Rattle.plain.specs.declared.Counts.{Counts}
use Rattle.plain.specs.declared.Slots.{Slots}
use Rattle.plain.specs.declared.TraversalDirection.{TraversalDirection}
use Rattle.plain.specs.declared.TraversalDirection.TheVariants.{Outgoing, Incoming}
use Rattle.plain.specs.Based.{based}
use Rattle.plain.specs.Compaction.{survivors, of_survivors, compacted}
use Rattle.plain.specs.Lists.{joined, from, written}
use Rattle.plain.specs.Plain.{Plain, list_of}
use Rattle.plain.specs.Laws.AllLive.{AllLive}
use Rattle.plain.proofs.Laws.AllLive.{live_slot, own_rank, compacted_same}
use Rattle.plain.proofs.Laws.ListLaws.{get_d_map, length_from, get_or_from}
use Rattle.liveness.specs.Calls.{all_live}
use Rattle.liveness.specs.Flags.{live_flags}
use Rattle.shape.specs.Checked.{Checked}
use Rattle.shape.specs.Columns.{cell, end_at}
use Rattle.shape.specs.Index.{Rewritten, before, ends_of}
use Rattle.shape.specs.Shape.{Words, capacities, node_live, edge_live, axis_words, lists, node_capacity, edge_capacity}
use Rattle.shape.proofs.Laws.Reading.{plain_node_bound, plain_edge_bound, plain_node_flags, plain_edge_flags}
use Rattle.compact.specs.Bases.{Compactable, AxisCompacted}
use Rattle.compact.specs.Calls.{AxisCanonical, Canonical}
use Rattle.compact.specs.Dropping.{Droppable, Dropped}
use Rattle.survivors.specs.Slots.{kept_word}
use Rattle.compact.specs.Laws.Holding.{all_lists}
use Rattle.compact.proofs.Dropping.{axis_compactable, first_half, drop_room}
use Rattle.survivors.proofs.Laws.Turns.{rewritten_same, kept_all_live}

-- ---- a canonical store compacted

-- one direction
module _ {ws : List ℕ} {ce cn : ℕ} {live : List ℕ} {bound : ℕ} {node_map : List ℕ} {n : ℕ} {entries ws' : List ℕ} (joins : List ℕ)
    (pre : Compactable ws ce cn live bound node_map n bound entries) (r : AxisCompacted ws ce cn live bound node_map n bound entries ws')
    (all : live_flags live bound ≡ replicate bound true) (own : (e : ℕ) → e < bound → get_or node_map (end_at ws e) 0 ≡ end_at ws e)
    (s : AxisCanonical ws ce cn n bound joins) (lined : take bound entries ≡ joins) where
  moved_same : r.moved ≡ ws
  moved_same =
      kept_all_live (live_flags live bound) bound all
      (subst (λ (k : ℕ). Rewritten ws r.moved 0 k (kept_word ws (live_flags live bound))) pre.counted r.moves)

  renumbered_same : r.renumbered ≡ ws
  renumbered_same =
      rewritten_same r.renumbers
      (λ i h. let same : get_or r.moved i 0 ≡ end_at ws i = ap (λ (l : List ℕ). get_or l i 0) moved_same in
      ap (λ (z : ℕ). get_or node_map z 0) same ∙ own i h ∙ sym same ∙ ap (λ (z : ℕ). get_or r.moved z 0) (sym (zero-add i)))
      ∙ moved_same

  counted_same : r.rebuilds.counted ≡ ws
  counted_same =
      rewritten_same r.rebuilds.offsets
      (λ x h. ap (λ (l : List ℕ). before (ends_of l bound) x) renumbered_same ∙ sym (s.offsets x h) ∙ ap (λ (l : List ℕ). cell l (4 * ce + 5 * cn) x) (sym renumbered_same))
      ∙ renumbered_same

  entry_same : (i : ℕ) → i < bound → get_or entries i 0 ≡ cell ws ce i
  entry_same i h =
      sym (get_or-take bound entries i 0 h) ∙ ap (λ (l : List ℕ). get_or l i 0) (lined ∙ sym s.lists)
      ∙ get_d_map (cell ws ce) (from 0 bound) i 0 0 (rw (length_from 0 bound) h) ∙ ap (cell ws ce) (get_or_from 0 bound i 0 h ∙ zero-add i)

  copied_same : r.rebuilds.copied ≡ ws
  copied_same =
      rewritten_same r.rebuilds.lists (λ i h. entry_same i h ∙ ap (λ (l : List ℕ). cell l ce i) (sym counted_same)) ∙ counted_same

  emptied_same : r.rebuilds.emptied ≡ ws
  emptied_same =
      rewritten_same r.rebuilds.rings (λ x h. sym (s.rings x h) ∙ ap (λ (l : List ℕ). cell l (4 * ce) x) (sym copied_same)) ∙ copied_same

  axis_again : ws' ≡ ws
  axis_again =
      rewritten_same r.rebuilds.marks (λ x h. sym (s.marks x h) ∙ ap (λ (l : List ℕ). cell l (4 * ce + 4 * cn) x) (sym emptied_same)) ∙ emptied_same

module _ {w : Words} (k : Checked w) (s : Canonical w) where
  node_flags_on : node_live w ≡ replicate w.counts.nodes.bound true
  node_flags_on = s.nodes.words_set.flags

  edge_flags_on : edge_live w ≡ replicate w.counts.edges.bound true
  edge_flags_on = s.edges.words_set.flags

  every_live : AllLive (lists w)
  every_live = record {
    nodes = plain_node_flags w ∙ node_flags_on ∙ ap (λ (n : ℕ). replicate n true) (sym (plain_node_bound w));
    edges = plain_edge_flags w ∙ edge_flags_on ∙ ap (λ (n : ℕ). replicate n true) (sym (plain_edge_bound w));
  }

  same_lists : compacted (lists w) ≡ lists w
  same_lists =
      compacted_same (capacities w) (lists w) k.walks every_live (k.axis Outgoing).sized.nodes_within (k.axis Outgoing).sized.edges_within

  -- so the lists that are left are those that were there
  outs_again : (survivors (lists w)).outs ≡ map (list_of Outgoing (lists w)) (from 0 w.counts.nodes.bound)
  unfolding compacted of_survivors
  outs_again =
      ap (λ (p : Plain). p.outgoing.lists) same_lists
      ∙ sym (all_lists w.counts.nodes.bound (lists w).outgoing.lists (k.walks.outgoing.lists_length ∙ plain_node_bound w))

  ins_again : (survivors (lists w)).ins ≡ map (list_of Incoming (lists w)) (from 0 w.counts.nodes.bound)
  unfolding compacted of_survivors
  ins_again =
      ap (λ (p : Plain). p.incoming.lists) same_lists
      ∙ sym (all_lists w.counts.nodes.bound (lists w).incoming.lists (k.walks.incoming.lists_length ∙ plain_node_bound w))

module _ {w : Words} {node_map work : List ℕ} {v : Words} (pre : Droppable w node_map work) (r : Dropped w node_map work v)
    (outs : take w.counts.edges.live work ≡ joined (survivors (lists w)).outs)
    (ins : take w.counts.edges.live (drop w.counts.edges.live work) ≡ joined (survivors (lists w)).ins) (s : Canonical w) where
  abbrev k : Checked w
  k = pre.checked

  -- every node keeps its number
  own_number : (d : TraversalDirection) (e : ℕ) → e < w.counts.edges.bound → get_or node_map (end_at (axis_words d w) e) 0 ≡ end_at (axis_words d w) e
  own_number d e h =
      let x = end_at (axis_words d w) e in
      let low : x < w.counts.nodes.bound = (k.axis d).ends_below e h in
      pre.mapped x (live_slot (node_live w) w.counts.nodes.bound x (node_flags_on k s) low)
      ∙ own_rank (node_live w) w.counts.nodes.bound x (node_flags_on k s) low

  direction_again : (d : TraversalDirection) (entries ws' : List ℕ)
      → AxisCompacted (axis_words d w) (edge_capacity w) (node_capacity w) w.live_edges w.counts.edges.bound node_map w.counts.nodes.live
      w.counts.edges.live entries ws'
      → w.counts.edges.live ≤ length entries
      → take w.counts.edges.live entries ≡ joined (map (list_of d (lists w)) (from 0 w.counts.nodes.bound)) → ws' ≡ axis_words d w
  direction_again d entries ws' a there lined =
      axis_again (joined (map (list_of d (lists w)) (from 0 w.counts.nodes.bound)))
      (subst₂ (λ (n m : ℕ). Compactable (axis_words d w) (edge_capacity w) (node_capacity w) w.live_edges w.counts.edges.bound node_map n m entries)
      s.nodes.live s.edges.live (axis_compactable pre d entries there))
      (subst₂ (λ (n m : ℕ). AxisCompacted (axis_words d w) (edge_capacity w) (node_capacity w) w.live_edges w.counts.edges.bound node_map n m entries ws')
      s.nodes.live s.edges.live a)
      (edge_flags_on k s) (own_number d) (s.axis d) (ap (λ (m : ℕ). take m entries) (sym s.edges.live) ∙ lined)

  -- compacting a canonical store leaves every word, and the counts
  pub dropped_again : v ≡ w
  dropped_again =
      let counts : v.counts ≡ w.counts = r.counts ∙ counts_again in
      let nodes : v.nodes ≡ w.nodes = kept_all_live (node_live w) w.counts.nodes.bound (node_flags_on k s) r.nodes in
      let lows : v.lows ≡ w.lows = kept_all_live (edge_live w) w.counts.edges.bound (edge_flags_on k s) r.weights.lows_kept in
      let highs : v.highs ≡ w.highs = kept_all_live (edge_live w) w.counts.edges.bound (edge_flags_on k s) r.weights.highs_kept in
      let live_nodes : v.live_nodes ≡ w.live_nodes =
      r.live_nodes.words ∙ ap (λ (n : ℕ). written (all_live n) w.live_nodes) s.nodes.live ∙ sym s.nodes.words_set.words in
      let live_edges : v.live_edges ≡ w.live_edges =
      r.live_edges.words ∙ ap (λ (n : ℕ). written (all_live n) w.live_edges) s.edges.live ∙ sym s.edges.words_set.words in
      let outgoing : v.outgoing ≡ w.outgoing =
      direction_again Outgoing work v.outgoing r.outgoing (first_half pre) (outs ∙ ap joined (outs_again k s)) in
      let incoming : v.incoming ≡ w.incoming =
      direction_again Incoming (drop w.counts.edges.live work) v.incoming r.incoming (drop_room pre) (ins ∙ ap joined (ins_again k s)) in
      λ i. record {
        counts = counts i;
        nodes = nodes i;
        lows = lows i;
        highs = highs i;
        live_nodes = live_nodes i;
        live_edges = live_edges i;
        outgoing = outgoing i;
        incoming = incoming i;
      }
    where
      slots_again : (slots : Slots) → slots.base ≡ slots.bound → slots.live ≡ slots.bound → based slots.live ≡ slots
      slots_again slots base live = λ i. record { bound = live i; base = (live ∙ sym base) i; live = slots.live }

      counts_again : ◌≡◌ {A = Counts} (record { nodes = based w.counts.nodes.live; edges = based w.counts.edges.live }) w.counts
      counts_again =
          ap₂ {C = Counts} (λ (n e : Slots). record { nodes = n; edges = e }) (slots_again w.counts.nodes s.nodes.based s.nodes.live)
          (slots_again w.counts.edges s.edges.based s.edges.live)
