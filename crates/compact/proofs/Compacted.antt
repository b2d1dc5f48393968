-- What is left once the dead slots are dropped: the store holds the survivors.
use Rattle.std.specs.Prelude.{ℕ, ◌<◌, ◌≡◌, Bool, List, map, length, get_or, take, drop}
use Rattle.plain.specs.Library.{sym, ap, ap₂, subst, subst₂, ◌∙◌, map-map, zero-add, arith, ltb-true}
use Rattle.plain.specs.declared.Counts.{Counts}
use Rattle.plain.specs.declared.TraversalDirection.{TraversalDirection}
use Rattle.plain.specs.declared.TraversalDirection.TheVariants.{Outgoing, Incoming}
use Rattle.plain.specs.Based.{based}
use Rattle.plain.specs.Compaction.{Survivors, rank, survivors, source_of, target_of}
use Rattle.plain.specs.Lists.{joined, from}
use Rattle.plain.specs.Reads.{live_count, live_slots}
use Rattle.plain.specs.WellFormed.{Fitted}
use Rattle.plain.proofs.Laws.Joining.{raised_none}
use Rattle.plain.proofs.Laws.ListLaws.{map_same, map_get_or, member_below}
use Rattle.plain.proofs.Laws.Rank.{length_live_slots}
use Rattle.liveness.specs.Calls.{Reset}
use Rattle.liveness.specs.Flags.{live_flags}
use Rattle.shape.specs.Columns.{Sized, end_at}
use Rattle.shape.specs.Index.{Rewritten, ends_of}
use Rattle.shape.specs.Kept.{AxisRenewed, Renewed, same_nodes, same_edges, same_highs, same_live_nodes, same_live_edges, same_axis}
use Rattle.shape.specs.Shape.{Words, node_live, edge_live, axis_words, lists, node_capacity, edge_capacity}
use Rattle.shape.specs.Laws.NewBase.{NewBase}
use Rattle.compact.specs.Bases.{Compactable, AxisCompacted}
use Rattle.compact.specs.Dropping.{Droppable, Dropped}
use Rattle.survivors.specs.Slots.{kept_word, live_words_of}
use Rattle.compact.specs.Laws.Bases.{rebuilt_base, rebuilt_renewed}
use Rattle.compact.specs.Laws.Holding.{front, Holding, reset_same, reset_word, sized_as}
use Rattle.survivors.specs.Laws.Left.{end_in}
use Rattle.survivors.proofs.Laws.Left.{left_sound, left_nodes, left_edges, nodes_left, lows_left, highs_left, ends_left}
use Rattle.survivors.proofs.Laws.Slots.{live_few}
use Rattle.compact.proofs.Bases.{rebuildable}
use Rattle.compact.proofs.Dropping.{axis_compactable, first_half, drop_room}
use Rattle.survivors.proofs.Laws.Turns.{rewritten_through}

-- a function of the live slots, slot by slot
slots_mapped : {A : Type 0} (f g : ℕ → A) (flags : List Bool) → ((i : ℕ) → i < live_count flags → f i ≡ g (get_or (live_slots flags) i 0))
    → map f (from 0 (live_count flags)) ≡ map g (live_slots flags)
slots_mapped f g flags each =
    map_same f (λ i. g (get_or (live_slots flags) i 0)) (from 0 (live_count flags))
    (λ i m. each i (ltb-true i (live_count flags) (sym (member_below i (live_count flags)) ∙ m)))
    ∙ sym (map-map g (λ i. get_or (live_slots flags) i 0) (from 0 (live_count flags)))
    ∙ ap (map g) (ap (λ (n : ℕ). map (λ i. get_or (live_slots flags) i 0) (from 0 n)) (sym (length_live_slots flags)) ∙ map_get_or (live_slots flags) 0)

-- payloads that moved down
kept_front : {words words' : List ℕ} (flags : List Bool) (n : ℕ) → Rewritten words words' 0 (live_count flags) (kept_word words flags) → n ≡ live_count flags
    → front words' n ≡ live_words_of words flags
kept_front {words} {words'} flags n r is =
    ap (front words') is
    ∙ slots_mapped (λ x. get_or words' x 0) (λ x. get_or words x 0) flags (λ i h. ap (λ (z : ℕ). get_or words' z 0) (sym (zero-add i)) ∙ r.within i h)

-- ---- one direction

module _ {ws : List ℕ} {ce cn : ℕ} {live : List ℕ} {bound : ℕ} {node_map : List ℕ} {n m : ℕ} {entries ws' : List ℕ}
    (pre : Compactable ws ce cn live bound node_map n m entries) (r : AxisCompacted ws ce cn live bound node_map n m entries ws') where
  -- the new ends
  new_ends : ends_of r.renumbered m ≡ map (λ e. get_or node_map (end_at ws e) 0) (live_slots (live_flags live bound))
  new_ends =
      let flags = live_flags live bound in
      let t = rewritten_through node_map r.moves r.renumbers in
      ap (ends_of r.renumbered) pre.counted
      ∙ slots_mapped (end_at r.renumbered) (λ e. get_or node_map (end_at ws e) 0) flags
      (λ i h. ap (λ (z : ℕ). get_or r.renumbered z 0) (sym (zero-add i)) ∙ t.within i (omega (arith, pre.counted)))

  -- a new base of these ends
  new_base_of : (counts : Counts) (lists : List (List ℕ)) → counts.nodes.bound ≡ n → counts.nodes.base ≡ n → counts.edges.bound ≡ m
      → counts.edges.base ≡ m → take m entries ≡ joined lists → (ends : List ℕ)
      → map (λ e. get_or node_map (end_at ws e) 0) (live_slots (live_flags live bound)) ≡ ends → Fitted n ends lists → NewBase ws' ce cn counts ends lists
  new_base_of counts lists a b c d lined ends are fitted =
      let same = new_ends ∙ are in
      let t = subst (λ (k : ℕ). Rewritten ws r.moved 0 k (kept_word ws (live_flags live bound))) pre.counted r.moves in
      subst (λ (l : List ℕ). NewBase ws' ce cn counts l lists) same
      (rebuilt_base (rebuildable pre t r.renumbers) r.rebuilds counts lists a b c d lined (subst (λ (l : List ℕ). Fitted n l lists) (sym same) fitted))

  -- the words that are left
  axis_renewed : AxisRenewed ws ws' ce cn n m
  axis_renewed =
      let t = subst (λ (k : ℕ). Rewritten ws r.moved 0 k (kept_word ws (live_flags live bound))) pre.counted r.moves in
      rebuilt_renewed (rebuildable pre t r.renumbers) r.rebuilds ws (λ i h. r.renumbers.above i (omega arith) ∙ r.moves.above i (omega arith))

-- ---- the store

module _ {w : Words} {node_map work : List ℕ} {v : Words} (pre : Droppable w node_map work) (r : Dropped w node_map work v) where
  abbrev left : Survivors
  left = survivors (lists w)

  -- the new ends of the live edges
  ends_renumbered : (d : TraversalDirection) → map (λ e. get_or node_map (end_at (axis_words d w) e) 0) (live_slots (edge_live w)) ≡ map (end_in d) left.edges
  ends_renumbered d =
      ends_left pre.checked 0 node_map (λ x l. pre.mapped x l ∙ sym (zero-add (rank (node_live w) x))) d ∙ raised_none (map (end_in d) left.edges)

  -- the counts
  pub nodes_bound : v.counts.nodes.bound ≡ w.counts.nodes.live
  nodes_bound = ap (λ (c : Counts). c.nodes.bound) r.counts

  nodes_base : v.counts.nodes.base ≡ w.counts.nodes.live
  nodes_base = ap (λ (c : Counts). c.nodes.base) r.counts

  pub edges_bound : v.counts.edges.bound ≡ w.counts.edges.live
  edges_bound = ap (λ (c : Counts). c.edges.bound) r.counts

  edges_base : v.counts.edges.base ≡ w.counts.edges.live
  edges_base = ap (λ (c : Counts). c.edges.base) r.counts

  -- both directions, where the work slice holds the joined lists
  module _ (outs : take w.counts.edges.live work ≡ joined left.outs)
      (ins : take w.counts.edges.live (drop w.counts.edges.live work) ≡ joined left.ins) where
    out_base : NewBase v.outgoing (edge_capacity w) (node_capacity w) v.counts (map source_of left.edges) left.outs
    out_base =
        new_base_of (axis_compactable pre Outgoing work (first_half pre)) r.outgoing v.counts left.outs nodes_bound nodes_base edges_bound edges_base outs
        (map source_of left.edges) (ends_renumbered Outgoing) (subst (λ (k : ℕ). Fitted k (map source_of left.edges) left.outs) (left_nodes pre.checked) (left_sound pre.checked).outs)

    in_base_of : NewBase v.incoming (edge_capacity w) (node_capacity w) v.counts (map target_of left.edges) left.ins
    in_base_of =
        new_base_of (axis_compactable pre Incoming (drop w.counts.edges.live work) (drop_room pre)) r.incoming v.counts left.ins nodes_bound nodes_base
        edges_bound edges_base ins (map target_of left.edges) (ends_renumbered Incoming)
        (subst (λ (k : ℕ). Fitted k (map target_of left.edges) left.ins) (left_nodes pre.checked) (left_sound pre.checked).ins)

    -- the store holds the survivors
    pub dropped_holding : Holding v left
    dropped_holding =
        let same = r.lengths in
        let k = pre.checked in
        record {
          sound = left_sound k;
          counts = r.counts ∙ ap₂ {C = Counts} (λ (n m : ℕ). record { nodes = based n; edges = based m }) (sym (left_nodes k)) (sym (left_edges k));
          nodes_fit = let low = live_few k.nodes in omega (arith, left_nodes k, same_nodes same, k.nodes.bounded.bound_within);
          edges_fit = let low = live_few k.edges in omega (arith, left_edges k, same_edges same, k.edges.bounded.bound_within);
          live_nodes_long = rw (same_nodes same, same_live_nodes same) k.nodes.live_long;
          live_edges_long = rw (same_edges same, same_live_edges same) k.edges.live_long;
          sized = sized_left;
          nodes = kept_front (node_live w) (length left.nodes) r.nodes (left_nodes k ∙ k.nodes.live.live_right) ∙ nodes_left k;
          highs_long = rw (same_edges same, same_highs same) k.highs_long;
          lows = kept_front (edge_live w) (length left.edges) r.weights.lows_kept (left_edges k ∙ k.edges.live.live_right) ∙ lows_left k;
          highs = kept_front (edge_live w) (length left.edges) r.weights.highs_kept (left_edges k ∙ k.edges.live.live_right) ∙ highs_left k;
          live_nodes = subst (λ (n : ℕ). Reset v.live_nodes n v.live_nodes) (sym (left_nodes k)) (reset_same r.live_nodes);
          live_edges = subst (λ (n : ℕ). Reset v.live_edges n v.live_edges) (sym (left_edges k)) (reset_same r.live_edges);
          outgoing = subst₂ (λ (ce cn : ℕ). NewBase v.outgoing ce cn v.counts (map source_of left.edges) left.outs) (sym (same_edges same)) (sym (same_nodes same)) out_base;
          incoming = subst₂ (λ (ce cn : ℕ). NewBase v.incoming ce cn v.counts (map target_of left.edges) left.ins) (sym (same_edges same)) (sym (same_nodes same)) in_base_of;
        }
      where
        sized_left : (d : TraversalDirection) → Sized (axis_words d v) (edge_capacity v) (node_capacity v)
        sized_left d =
            subst₂ (Sized (axis_words d v)) (sym (same_edges r.lengths)) (sym (same_nodes r.lengths)) (sized_as (same_axis w v r.lengths d) (pre.checked.axis d).sized)

  -- ---- the words that are left

  axis_left : (d : TraversalDirection)
      → AxisRenewed (axis_words d w) (axis_words d v) (edge_capacity w) (node_capacity w) w.counts.nodes.live w.counts.edges.live
  axis_left Outgoing = axis_renewed (axis_compactable pre Outgoing work (first_half pre)) r.outgoing
  axis_left Incoming = axis_renewed (axis_compactable pre Incoming (drop w.counts.edges.live work) (drop_room pre)) r.incoming

  pub dropped_renewed : Renewed w v
  dropped_renewed = record {
    nodes = record {
      payloads = λ i h. r.nodes.above i (omega (arith, nodes_bound, pre.checked.nodes.live.live_right));
      live = λ i h. reset_word r.live_nodes i (omega (arith, nodes_bound));
    };
    edges = record {
      payloads = λ i h. r.weights.lows_kept.above i (omega (arith, edges_bound, pre.checked.edges.live.live_right));
      live = λ i h. reset_word r.live_edges i (omega (arith, edges_bound));
    };
    highs = λ i h. r.weights.highs_kept.above i (omega (arith, edges_bound, pre.checked.edges.live.live_right));
    axis = λ d. subst₂ (λ (n m : ℕ). AxisRenewed (axis_words d w) (axis_words d v) (edge_capacity w) (node_capacity w) n m) (sym nodes_bound) (sym edges_bound)
        (axis_left d);
  }
