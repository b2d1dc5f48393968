-- What joining two checked books asks and promises, with its maps, and that the third memory then holds the survivors of both. The argument:
-- 1. The maps give each live slot its rank, counted on from 0 in the first book and from the first's counts in the second (`first_mapped`, `second_mapped`).
-- 2. So the ends and lists of each book by its maps are those of its survivors, raised by these numbers (`Books`); one behind the other they are by definition those of the
--    joined survivors (`all_ends`, `all_entries`).
-- 3. Joined survivors are sound where there are not too many (`joined_sound` of crate plain), so each end is below the number of nodes: the offsets can be counted, and the
--    base that is built is one of the joined survivors (`base_of`).
-- 4. With the payloads of both, every slot live and in the base, that is `Holding` of crate compact: shape, check, plain lists and canonical words follow from it as for
--    compaction and image reading.
use Rattle.std.specs.Prelude.{ℕ, ◌*◌, ◌+◌, ◌-◌, ◌<◌, ◌≤◌, ◌≡◌, refl, List, ◌++◌, map, drop, get_or, length}
use Rattle.plain.specs.Library.{◌∙◌, ap, ap₂, subst, subst₂, sym, get_or-append, length-append, length-map, arith}
use Rattle.std.proofs.Common.{get_or-append-add, get_or-drop, take_all}
use Rattle.plain.specs.declared.Counts.{Counts}
use Rattle.plain.specs.declared.TraversalDirection.{TraversalDirection}
use Rattle.plain.specs.declared.TraversalDirection.TheVariants.{Incoming, Outgoing}
use Rattle.plain.specs.Based.{based}
use Rattle.plain.specs.Compaction.{EdgeRecord, Survivors, source_of, survivors, target_of}
use Rattle.plain.specs.Joining.{joined_survivors, raised, raised_edge}
use Rattle.plain.specs.Lists.{from, joined, written}
use Rattle.plain.specs.Numbers.{LIMIT}
use Rattle.plain.specs.WellFormed.{Fitted, Sound}
use Rattle.plain.specs.Laws.ImageBits.{record_high, record_low}
use Rattle.plain.proofs.Laws.Joining.{columns_of_both, ends_of_both, joined_raised, joined_sound, raised_none}
use Rattle.plain.proofs.Laws.ListLaws.{map_get_or}
use Rattle.liveness.specs.Calls.{Reset}
use Rattle.liveness.specs.Laws.Flags.{length_flags}
use Rattle.shape.specs.Columns.{Sized}
use Rattle.shape.specs.Index.{ends_of}
use Rattle.shape.specs.Kept.{AxisRenewed, Renewed, same_axis, same_edges, same_highs, same_live_edges, same_live_nodes, same_nodes}
use Rattle.shape.specs.Shape.{Words, axis_words, edge_capacity, edge_live, lists, node_capacity, node_live}
use Rattle.shape.proofs.Laws.Indexing.{joined_append, map_from_same}
use Rattle.shape.specs.Laws.NewBase.{NewBase}
use Rattle.compact.specs.Bases.{Rebuildable}
use Rattle.survivors.specs.Slots.{live_words_of}
use Rattle.compact.specs.Laws.Bases.{rebuilt_base, rebuilt_renewed}
use Rattle.compact.specs.Laws.Holding.{Holding, front, reset_same, reset_word, sized_as}
use Rattle.survivors.specs.Laws.Left.{end_in}
use Rattle.survivors.proofs.Laws.Left.{highs_left, left_edges, left_nodes, left_sound, lows_left, nodes_left}
use Rattle.survivors.proofs.Laws.Slots.{mapped_long, written_from, live_few, slots_there}
use Rattle.join_memory.specs.Settling.{LentMaps, Settleable, Settled}
use Rattle.join_columns.specs.Sides.{AxisJoinable, AxisJoined, Side, side_ends, side_entries, side_of}
use Rattle.survivors.specs.Maps.{MapsFit, MapsWritten}
use Rattle.join_columns.specs.Slots.{BothCopyable}
use Rattle.join_memory.specs.Laws.Books.{Mapped, book_ends, book_entries, edges_few, ends_readable, entries_readable, lists_in, nodes_few, slots_readable}
use Rattle.join_columns.specs.Laws.Sides.{all_entries_long, compressible}

-- ---- the maps

-- a book's maps, once written
book_mapped : {w : Words} {a b : ℕ} {node_map edge_map node-map' edge-map' : List ℕ} → w.counts.nodes.bound ≤ length node_map → w.counts.edges.bound ≤ length edge_map
    → MapsWritten w.counts w.live_nodes w.live_edges a b node_map edge_map node-map' edge-map' → Mapped w a b node-map' edge-map'
book_mapped {w} {a} {b} {node_map} {edge_map} nodes_room edges_room m =
    let node-flags-long = length_flags w.live_nodes w.counts.nodes.bound in
    let edge-flags-long = length_flags w.live_edges w.counts.edges.bound in
    record {
      nodes = λ x l. ap (λ (l : List ℕ). get_or l x 0) m.nodes ∙ written_from a (node_live w) node_map x l;
      edges = λ e l. ap (λ (l : List ℕ). get_or l e 0) m.edges ∙ written_from b (edge_live w) edge_map e l;
      nodes_long = omega (arith, ap length m.nodes ∙ mapped_long a (node_live w) node_map (omega arith));
      edges_long = omega (arith, ap length m.edges ∙ mapped_long b (edge_live w) edge_map (omega arith));
    }

-- the front of a slice that a list was written to
front_written : (xs entry : List ℕ) (n : ℕ) → length xs ≡ n → map (λ x. get_or (written xs entry) x 0) (from 0 n) ≡ xs
front_written xs entry n long =
    map_from_same (λ x. get_or (written xs entry) x 0) (λ x. get_or xs x 0) 0 n (λ x l h. get_or-append xs (drop (length xs) entry) 0 x (omega arith))
    ∙ ap (λ (k : ℕ). map (λ x. get_or xs x 0) (from 0 k)) (sym long) ∙ map_get_or xs 0

-- and the words behind it
behind_written : (xs entry : List ℕ) (i : ℕ) → length xs ≤ i → get_or (written xs entry) i 0 ≡ get_or entry i 0
behind_written xs entry i h =
    let place : length xs + (i - length xs) ≡ i = omega arith in
    ap (λ (k : ℕ). get_or (written xs entry) k 0) (sym place) ∙ get_or-append-add xs (drop (length xs) entry) (i - length xs) 0
    ∙ get_or-drop (length xs) entry (i - length xs) 0 ∙ ap (λ (k : ℕ). get_or entry k 0) place

module _ {first second w : Words} {maps : LentMaps} (pre : Settleable first second w maps) where
  abbrev n : ℕ
  n = first.counts.nodes.live + second.counts.nodes.live

  abbrev m : ℕ
  m = first.counts.edges.live + second.counts.edges.live

  -- the survivors of both
  abbrev both : Survivors
  both = joined_survivors (survivors (lists first)) (survivors (lists second))

  pub few_nodes : n ≤ LIMIT
  few_nodes = omega (arith, pre.nodes_fit, pre.takes.nodes)

  pub few_edges : m ≤ LIMIT
  few_edges = omega (arith, pre.edges_fit, pre.takes.edges)

  pub both_sound : Sound both
  both_sound =
      joined_sound (survivors (lists first)) (survivors (lists second)) (left_sound pre.first_checked) (left_sound pre.second_checked)
      (omega (arith, few_nodes, left_nodes pre.first_checked, left_nodes pre.second_checked))
      (omega (arith, few_edges, left_edges pre.first_checked, left_edges pre.second_checked))

  pub both_nodes_long : length both.nodes ≡ n
  unfolding joined_survivors
  both_nodes_long = length-append (survivors (lists first)).nodes (survivors (lists second)).nodes ∙ ap₂ (λ (a b : ℕ). a + b) (left_nodes pre.first_checked) (left_nodes pre.second_checked)

  pub both_edges_long : length both.edges ≡ m
  unfolding joined_survivors
  both_edges_long =
      length-append (survivors (lists first)).edges (map (raised_edge (length (survivors (lists first)).nodes)) (survivors (lists second)).edges)
      ∙ ap₂ (λ (a b : ℕ). a + b) (left_edges pre.first_checked) (length-map (survivors (lists second)).edges (raised_edge (length (survivors (lists first)).nodes)) ∙ left_edges pre.second_checked)

  -- ---- what the calls ask

  pub first_maps_fit : MapsFit first.counts first.live_nodes first.live_edges 0 0 maps.first_nodes maps.first_edges
  first_maps_fit =
      let k = pre.first_checked in
      record {
        nodes = record { there = slots_there k.nodes; few = omega (arith, nodes_few k); room = pre.first_nodes };
        edges = record { there = slots_there k.edges; few = omega (arith, edges_few k); room = pre.first_edges };
      }

  pub second_maps_fit : MapsFit second.counts second.live_nodes second.live_edges first.counts.nodes.live first.counts.edges.live maps.second_nodes maps.second_edges
  second_maps_fit =
      let k = pre.second_checked in
      let h = pre.first_checked in
      record {
        nodes = record { there = slots_there k.nodes; few = omega (arith, nodes_few k, nodes_few h, live_few h.nodes); room = pre.second_nodes };
        edges = record { there = slots_there k.edges; few = omega (arith, edges_few k, edges_few h, live_few h.edges); room = pre.second_edges };
      }

  pub nodes_copyable : BothCopyable w.nodes first.counts.nodes first.nodes first.live_nodes second.counts.nodes second.nodes second.live_nodes
  nodes_copyable = record {
    first_readable = slots_readable pre.first_checked.nodes first.nodes (omega arith);
    second_readable = slots_readable pre.second_checked.nodes second.nodes (omega arith);
    counted = pre.first_checked.nodes.live.live_right;
    room = omega (arith, pre.nodes_fit, pre.second_checked.nodes.live.live_right);
  }

  pub lows_copyable : BothCopyable w.lows first.counts.edges first.lows first.live_edges second.counts.edges second.lows second.live_edges
  lows_copyable = record {
    first_readable = slots_readable pre.first_checked.edges first.lows (omega arith);
    second_readable = slots_readable pre.second_checked.edges second.lows (omega arith);
    counted = pre.first_checked.edges.live.live_right;
    room = omega (arith, pre.edges_fit, pre.second_checked.edges.live.live_right);
  }

  pub highs_copyable : BothCopyable w.highs first.counts.edges first.highs first.live_edges second.counts.edges second.highs second.live_edges
  highs_copyable = record {
    first_readable = slots_readable pre.first_checked.edges first.highs pre.first_checked.highs_long;
    second_readable = slots_readable pre.second_checked.edges second.highs pre.second_checked.highs_long;
    counted = pre.first_checked.edges.live.live_right;
    room = omega (arith, pre.edges_fit, pre.roomy.highs_room, pre.second_checked.edges.live.live_right);
  }

  pub nodes_resettable : n ≤ 64 * length w.live_nodes
  nodes_resettable = omega (arith, pre.nodes_fit, pre.roomy.live_nodes_room)

  pub edges_resettable : m ≤ 64 * length w.live_edges
  edges_resettable = omega (arith, pre.edges_fit, pre.roomy.live_edges_room)

  -- ---- one direction

  module _ {first_nodes first_edges second_nodes second_edges : List ℕ}
      (a : MapsWritten first.counts first.live_nodes first.live_edges 0 0 maps.first_nodes maps.first_edges first_nodes first_edges)
      (b : MapsWritten second.counts second.live_nodes second.live_edges first.counts.nodes.live first.counts.edges.live
      maps.second_nodes maps.second_edges second_nodes second_edges) where
    first_mapped : Mapped first 0 0 first_nodes first_edges
    first_mapped = book_mapped pre.first_nodes pre.first_edges a

    second_mapped : Mapped second first.counts.nodes.live first.counts.edges.live second_nodes second_edges
    second_mapped = book_mapped pre.second_nodes pre.second_edges b

    -- each book's side
    abbrev one : TraversalDirection → Side
    one d = side_of d first first_nodes first_edges

    abbrev two : TraversalDirection → Side
    two d = side_of d second second_nodes second_edges

    module _ (d : TraversalDirection) where
      -- the ends of both are the joined survivors'
      all_ends : side_ends (one d) ++ side_ends (two d) ≡ map (end_in d) both.edges
      unfolding joined_survivors
      all_ends =
          let s = survivors (lists first) in
          let t = survivors (lists second) in
          ap₂ (λ (x y : List ℕ). x ++ y) (book_ends pre.first_checked first_mapped d ∙ raised_none (map (end_in d) s.edges))
          (book_ends pre.second_checked second_mapped d ∙ ap (λ (k : ℕ). raised k (map (end_in d) t.edges)) (sym (left_nodes pre.first_checked)))
          ∙ sym (ends_of_both (end_in d) (length s.nodes) s.edges t.edges (raises d))
        where
          raises : (d : TraversalDirection) (r : EdgeRecord) → end_in d (raised_edge (length (survivors (lists first)).nodes) r) ≡ length (survivors (lists first)).nodes + end_in d r
          raises Outgoing r = refl
          raises Incoming r = refl

      lists_both : lists_in d both ≡ lists_in d (survivors (lists first)) ++ map (raised (length (survivors (lists first)).edges)) (lists_in d (survivors (lists second)))
      unfolding joined_survivors
      lists_both = by d
        where
          by : (d : TraversalDirection)
              → lists_in d both ≡ lists_in d (survivors (lists first)) ++ map (raised (length (survivors (lists first)).edges)) (lists_in d (survivors (lists second)))
          by Outgoing = refl
          by Incoming = refl

      -- and so are the lists
      all_entries : side_entries (one d) ++ side_entries (two d) ≡ joined (lists_in d both)
      all_entries =
          let s = survivors (lists first) in
          let t = survivors (lists second) in
          ap₂ (λ (x y : List ℕ). x ++ y) (book_entries pre.first_checked first_mapped d ∙ raised_none (joined (lists_in d s)))
          (book_entries pre.second_checked second_mapped d ∙ ap (λ (k : ℕ). raised k (joined (lists_in d t))) (sym (left_edges pre.first_checked))
          ∙ joined_raised (length s.edges) (lists_in d t))
          ∙ sym (joined_append (lists_in d s) (map (raised (length s.edges)) (lists_in d t)))
          ∙ ap joined (sym lists_both)

      both_fitted : Fitted n (map (end_in d) both.edges) (lists_in d both)
      both_fitted = by d
        where
          by : (d : TraversalDirection) → Fitted n (map (end_in d) both.edges) (lists_in d both)
          by Outgoing = subst (λ (k : ℕ). Fitted k (map source_of both.edges) both.outs) both_nodes_long both_sound.outs
          by Incoming = subst (λ (k : ℕ). Fitted k (map target_of both.edges) both.ins) both_nodes_long both_sound.ins

      sized : Sized (axis_words d w) (edge_capacity w) (node_capacity w)
      sized = record { edges_within = pre.takes.edges; nodes_within = pre.takes.nodes; room = by d }
        where
          by : (d : TraversalDirection) → 4 * edge_capacity w + 6 * node_capacity w + 1 ≤ length (axis_words d w)
          by Outgoing = pre.roomy.outgoing_room
          by Incoming = pre.roomy.incoming_room

      pub axis_joinable : AxisJoinable (axis_words d w) (edge_capacity w) (node_capacity w) (one d) (two d)
      axis_joinable = record {
        sized = sized;
        nodes_fit = pre.nodes_fit;
        edges_fit = pre.edges_fit;
        first_ends = ends_readable pre.first_checked first_mapped d;
        second_ends = ends_readable pre.second_checked second_mapped d;
        first_entries = entries_readable pre.first_checked first_mapped d;
        second_entries = entries_readable pre.second_checked second_mapped d;
        ends_below = λ e h. subst (λ (l : List ℕ). get_or l e 0 < n) (sym all_ends)
            (both_fitted.ends_below e (omega (arith, length-map both.edges (end_in d), both_edges_long)));
      }

      -- the base of the direction
      module _ {ws' : List ℕ} (r : AxisJoined (axis_words d w) (edge_capacity w) (node_capacity w) (one d) (two d) ws') where
        rebuildable : Rebuildable r.placed (edge_capacity w) (node_capacity w) n m (side_entries (one d) ++ side_entries (two d))
        rebuildable = record { compressible = compressible axis_joinable r.places; there = omega (arith, all_entries_long axis_joinable) }

        placed_ends : ends_of r.placed m ≡ map (end_in d) both.edges
        placed_ends =
            ap (λ (l : List ℕ). ends_of l m) r.places
            ∙ front_written (side_ends (one d) ++ side_ends (two d)) (axis_words d w) m
            (ap length all_ends ∙ length-map both.edges (end_in d) ∙ both_edges_long)
            ∙ all_ends

        base_of : (counts : Counts) → counts.nodes.bound ≡ n → counts.nodes.base ≡ n → counts.edges.bound ≡ m → counts.edges.base ≡ m
            → NewBase ws' (edge_capacity w) (node_capacity w) counts (map (end_in d) both.edges) (lists_in d both)
        base_of counts nb nn eb ee =
            subst (λ (l : List ℕ). NewBase ws' (edge_capacity w) (node_capacity w) counts l (lists_in d both)) placed_ends
            (rebuilt_base rebuildable r.rebuilds counts (lists_in d both) nb nn eb ee
            (take_all m (side_entries (one d) ++ side_entries (two d)) (omega (arith, all_entries_long axis_joinable)) ∙ all_entries)
            (subst (λ (l : List ℕ). Fitted n l (lists_in d both)) (sym placed_ends) both_fitted))

        axis_renewed : AxisRenewed (axis_words d w) ws' (edge_capacity w) (node_capacity w) n m
        axis_renewed =
            rebuilt_renewed rebuildable r.rebuilds (axis_words d w)
            (λ i h. ap (λ (l : List ℕ). get_or l i 0) r.places
            ∙ behind_written (side_ends (one d) ++ side_ends (two d)) (axis_words d w) i
            (omega (arith, ap length all_ends, length-map both.edges (end_in d), both_edges_long)))

-- ---- the store afterwards

module _ {first second w : Words} {maps : LentMaps} {v : Words} {maps' : LentMaps} (pre : Settleable first second w maps) (r : Settled first second w maps v maps') where
  abbrev left : Survivors
  left = joined_survivors (survivors (lists first)) (survivors (lists second))

  nodes_bound : v.counts.nodes.bound ≡ first.counts.nodes.live + second.counts.nodes.live
  nodes_bound = ap (λ (c : Counts). c.nodes.bound) r.counts

  edges_bound : v.counts.edges.bound ≡ first.counts.edges.live + second.counts.edges.live
  edges_bound = ap (λ (c : Counts). c.edges.bound) r.counts

  -- payloads of both
  nodes_are : live_words_of first.nodes (node_live first) ++ live_words_of second.nodes (node_live second) ≡ left.nodes
  unfolding joined_survivors
  nodes_are = ap₂ (λ (a b : List ℕ). a ++ b) (nodes_left pre.first_checked) (nodes_left pre.second_checked)

  lows_are : live_words_of first.lows (edge_live first) ++ live_words_of second.lows (edge_live second) ≡ map record_low left.edges
  unfolding joined_survivors
  lows_are =
      ap₂ (λ (a b : List ℕ). a ++ b) (lows_left pre.first_checked) (lows_left pre.second_checked)
      ∙ sym (columns_of_both record_low (length (survivors (lists first)).nodes) (survivors (lists first)).edges (survivors (lists second)).edges (λ r. refl))

  highs_are : live_words_of first.highs (edge_live first) ++ live_words_of second.highs (edge_live second) ≡ map record_high left.edges
  unfolding joined_survivors
  highs_are =
      ap₂ (λ (a b : List ℕ). a ++ b) (highs_left pre.first_checked) (highs_left pre.second_checked)
      ∙ sym (columns_of_both record_high (length (survivors (lists first)).nodes) (survivors (lists first)).edges (survivors (lists second)).edges (λ r. refl))

  -- payloads that were written
  front_of : {words' xs ys : List ℕ} (words : List ℕ) (n : ℕ) → xs ≡ ys → length ys ≡ n → words' ≡ written xs words → front words' n ≡ ys
  front_of {xs = xs} words n same long is = ap (λ (l : List ℕ). front l n) is ∙ front_written xs words n (ap length same ∙ long) ∙ same

  behind_of : {words' xs ys : List ℕ} (words : List ℕ) (n : ℕ) → xs ≡ ys → length ys ≡ n → words' ≡ written xs words → (i : ℕ) → n ≤ i → get_or words' i 0 ≡ get_or words i 0
  behind_of {xs = xs} words n same long is i h = ap (λ (l : List ℕ). get_or l i 0) is ∙ behind_written xs words i (omega (arith, ap length same))

  -- the store holds the survivors of both
  pub settled_holding : Holding v left
  settled_holding =
      let same = r.lengths in
      record {
        sound = both_sound pre;
        counts = r.counts ∙ ap₂ {C = Counts} (λ (n m : ℕ). record { nodes = based n; edges = based m }) (sym (both_nodes_long pre)) (sym (both_edges_long pre));
        nodes_fit = omega (arith, both_nodes_long pre, pre.nodes_fit, same_nodes same);
        edges_fit = omega (arith, both_edges_long pre, pre.edges_fit, same_edges same);
        highs_long = rw (same_edges same, same_highs same) pre.roomy.highs_room;
        live_nodes_long = rw (same_nodes same, same_live_nodes same) pre.roomy.live_nodes_room;
        live_edges_long = rw (same_edges same, same_live_edges same) pre.roomy.live_edges_room;
        sized = λ d. subst₂ (Sized (axis_words d v)) (sym (same_edges same)) (sym (same_nodes same)) (sized_as (same_axis w v same d) (sized pre r.first_maps r.second_maps d));
        nodes = front_of w.nodes (length left.nodes) nodes_are refl r.nodes;
        lows = front_of w.lows (length left.edges) lows_are (length-map left.edges record_low) r.lows;
        highs = front_of w.highs (length left.edges) highs_are (length-map left.edges record_high) r.highs;
        live_nodes = subst (λ (n : ℕ). Reset v.live_nodes n v.live_nodes) (sym (both_nodes_long pre)) (reset_same r.live_nodes);
        live_edges = subst (λ (n : ℕ). Reset v.live_edges n v.live_edges) (sym (both_edges_long pre)) (reset_same r.live_edges);
        outgoing = subst₂ (λ (ce cn : ℕ). NewBase v.outgoing ce cn v.counts (map source_of left.edges) left.outs) (sym (same_edges same)) (sym (same_nodes same))
            (base_of pre r.first_maps r.second_maps Outgoing r.outgoing v.counts nodes_bound (ap (λ (c : Counts). c.nodes.base) r.counts) edges_bound
            (ap (λ (c : Counts). c.edges.base) r.counts));
        incoming = subst₂ (λ (ce cn : ℕ). NewBase v.incoming ce cn v.counts (map target_of left.edges) left.ins) (sym (same_edges same)) (sym (same_nodes same))
            (base_of pre r.first_maps r.second_maps Incoming r.incoming v.counts nodes_bound (ap (λ (c : Counts). c.nodes.base) r.counts) edges_bound
            (ap (λ (c : Counts). c.edges.base) r.counts));
      }

  -- ---- the words that are left

  axis_left : (d : TraversalDirection)
      → AxisRenewed (axis_words d w) (axis_words d v) (edge_capacity w) (node_capacity w) (first.counts.nodes.live + second.counts.nodes.live)
      (first.counts.edges.live + second.counts.edges.live)
  axis_left Outgoing = axis_renewed pre r.first_maps r.second_maps Outgoing r.outgoing
  axis_left Incoming = axis_renewed pre r.first_maps r.second_maps Incoming r.incoming

  pub settled_renewed : Renewed w v
  settled_renewed = record {
    nodes = record {
      payloads = λ i h. behind_of w.nodes (length left.nodes) nodes_are refl r.nodes i (omega (arith, nodes_bound, both_nodes_long pre));
      live = λ i h. reset_word r.live_nodes i (omega (arith, nodes_bound));
    };
    edges = record {
      payloads = λ i h. behind_of w.lows (length left.edges) lows_are (length-map left.edges record_low) r.lows i (omega (arith, edges_bound, both_edges_long pre));
      live = λ i h. reset_word r.live_edges i (omega (arith, edges_bound));
    };
    highs = λ i h. behind_of w.highs (length left.edges) highs_are (length-map left.edges record_high) r.highs i (omega (arith, edges_bound, both_edges_long pre));
    axis = λ d. subst₂ (λ (n m : ℕ). AxisRenewed (axis_words d w) (axis_words d v) (edge_capacity w) (node_capacity w) n m) (sym nodes_bound) (sym edges_bound) (axis_left d);
  }
