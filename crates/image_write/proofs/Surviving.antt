-- The image of what is live in a checked store, from the store's words: its survivors are the live nodes' payloads and the live edges' records, and its lists are the
-- walks by ranks; each part has room, and all of them are the image's bits.
use Rattle.std.specs.Prelude.{ℕ, ◌+◌, ◌*◌, ◌≤◌, ◌<◌, ◌≡◌, Bool, true, false, List, ◌++◌, map, length, take, get_or}
use Rattle.plain.specs.Library.{sym, ap, ap₂, subst, ◌∙◌, append_assoc, length-append, length-map, zero-add, arith}
use Rattle.plain.specs.declared.TraversalDirection.{TraversalDirection}
use Rattle.plain.specs.declared.TraversalDirection.TheVariants.{Outgoing, Incoming}
use Rattle.plain.specs.declared.Slots.{Slots}
use Rattle.plain.specs.Numbers.{LIMIT}
use Rattle.plain.specs.Memory.{live_words}
use Rattle.plain.specs.Lists.{written, joined}
use Rattle.plain.specs.Plain.{low_of, high_of, no_node, node_flags, end_of}
use Rattle.plain.specs.Reads.{live_count, live_slots}
use Rattle.plain.specs.Compaction.{Survivors, rank, survivors, surviving_edge, source_of, target_of, adjacency}
use Rattle.plain.specs.Bits.{bits_of, row, padding, bytes_for, least_width}
use Rattle.plain.specs.Image.{edge_bits, image_bits, image, record_width, nodes_start, edges_start, outs_start, image_size, node_payload_width}
use Rattle.plain.specs.WellFormed.{Sound}
use Rattle.plain.specs.Laws.Below.{Below}
use Rattle.plain.proofs.Laws.Bits.{length_bits_of, length_row, row_append}
use Rattle.plain.proofs.Laws.ListLaws.{map_same, member_at}
use Rattle.plain.proofs.Laws.Rank.{live_below, length_live_slots, member_live_slots}
use Rattle.plain.proofs.Laws.Compacting.{survivors_sound, length_surviving_nodes, length_surviving_edges}
use Rattle.plain.proofs.Laws.ImageBits.{length_edge_bits, below_image_bits, length_image_bits}
use Rattle.plain.proofs.Laws.ImageLaws.{fitted_joined, image_length}
use Rattle.plain.proofs.Laws.Width.{width_holds, width_least}
use Rattle.liveness.specs.Laws.Flags.{length_flags, count_le}
use Rattle.liveness.specs.Ranks.{RanksFit}
use Rattle.shape.specs.Shape.{Words, capacities, node_live, edge_live, axis_words, plain_of, lists}
use Rattle.shape.specs.Checked.{SlotsChecked, Checked}
use Rattle.shape.proofs.Laws.Reading.{plain_node_flags, plain_edge_flags, plain_end, node_at, edge_at}
use Rattle.shape.proofs.Laws.Ends.{checked_end}
use Rattle.survivors.specs.Working.{both_walks}
use Rattle.survivors.proofs.Laws.Working.{both_length, both_live, both_renumbered}
use Rattle.bits.specs.declared.pen.Pen.{Pen}
use Rattle.bits.specs.declared.pen.Writer.{Writer}
use Rattle.bits.specs.Wrote.{Wrote}
use Rattle.bits.specs.Penned.{Ready, Penned, Written, fresh, reach, waiting}
use Rattle.bits.specs.Laws.Wrote.{wrote_pack}
use Rattle.bits.specs.Laws.Penned.{written_then, penned_wrote}
use Rattle.image_write.specs.Writing.{PiecesFit, CountsFit, NodesFit, EdgesFit, SlotsFit, ListsFit, ImageFits, live_payloads, record_at, live_records, count_bits, slot_bits}

-- ---- the survivors, in words

-- the live slots of one kind are within its bound, and that is within its capacity
live_within : {capacity : ℕ} {words : List ℕ} {s : Slots} → SlotsChecked capacity words s → s.live ≤ capacity
live_within {words = words} {s} k = omega (arith, k.live.live_right, count_le words s.bound, k.bounded.bound_within)

module _ {w : Words} (k : Checked w) where
  abbrev left : Survivors
  left = survivors (lists w)

  abbrev n : ℕ
  n = w.counts.nodes.live

  abbrev m : ℕ
  m = w.counts.edges.live

  nodes_limit : n ≤ LIMIT
  nodes_limit = omega (arith, live_within k.nodes, (k.axis Outgoing).sized.nodes_within)

  edges_limit : m ≤ LIMIT
  edges_limit = omega (arith, live_within k.edges, (k.axis Outgoing).sized.edges_within)

  left_sound : Sound left
  left_sound = survivors_sound (capacities w) (lists w) k.walks (k.axis Outgoing).sized.nodes_within (k.axis Outgoing).sized.edges_within

  many_nodes : length left.nodes ≡ n
  many_nodes = length_surviving_nodes (lists w) ∙ ap live_count (plain_node_flags w) ∙ sym k.nodes.live.live_right

  many_edges : length left.edges ≡ m
  many_edges = length_surviving_edges (lists w) ∙ ap live_count (plain_edge_flags w) ∙ sym k.edges.live.live_right

  -- the payloads of the live nodes
  left_nodes : left.nodes ≡ live_payloads w.nodes w.live_nodes w.counts.nodes.bound
  unfolding survivors plain_of
  left_nodes =
      ap (λ (f : List Bool). map (λ x. (get_or (lists w).nodes x no_node).payload) (live_slots f)) (plain_node_flags w)
      ∙ map_same (λ x. (get_or (lists w).nodes x no_node).payload) (λ x. get_or w.nodes x 0) (live_slots (node_live w))
      (λ x h. node_at w x
      (let low = live_below (node_live w) x (sym (member_live_slots (node_live w) x) ∙ h) in omega (arith, length_flags w.live_nodes w.counts.nodes.bound)))

  -- the record of a live edge
  left_edge : (e : ℕ) → get_or (edge_live w) e false ≡ true
      → surviving_edge (lists w) e ≡ record_at w.live_nodes w.counts.nodes.bound w e
  unfolding plain_of
  left_edge e live =
      let l : e < w.counts.edges.bound = (let low = live_below (edge_live w) e live in omega (arith, length_flags w.live_edges w.counts.edges.bound)) in
      let end : (d : TraversalDirection) → rank (node_flags (lists w)) (end_of d (lists w) e) ≡ rank (node_live w) (get_or (axis_words d w) e 0) =
      λ d. ap₂ rank (plain_node_flags w) (plain_end w d e l) in
      let source = end Outgoing in
      let target = end Incoming in
      let low = ap low_of (edge_at w e l) in
      let high = ap high_of (edge_at w e l) in
      λ i. record { source = source i; target = target i; payload = record { low = low i; high = high i } }

  -- and of all
  left_edges : left.edges
      ≡ live_records w.live_nodes w.counts.nodes.bound w
  unfolding survivors
  left_edges =
      ap (λ (f : List Bool). map (surviving_edge (lists w)) (live_slots f)) (plain_edge_flags w)
      ∙ map_same (surviving_edge (lists w)) (record_at w.live_nodes w.counts.nodes.bound w)
      (live_slots (edge_live w)) (λ e h. left_edge e (sym (member_live_slots (edge_live w) e) ∙ h))

-- a number of at most LIMIT slots has a width of at most 16 bits
width_few : (n : ℕ) → n ≤ LIMIT → least_width n ≤ 16
width_few n few = width_least n 16 (omega arith)

-- the counts before the words of live bits have room in an array of as many
pub ranks_room : {live : List ℕ} {slots : ℕ} {ranks : List ℕ} → slots ≤ 64 * length live → slots ≤ LIMIT → length ranks ≡ live_words LIMIT → RanksFit live slots ranks
ranks_room long few size = record { long = long; few = few; fits = omega arith }

-- ---- counts, payloads and records

-- the nodes start behind the counts
counts_end : {a b : Writer} (nodes edges : ℕ) → a.pen ≡ fresh → Written a (count_bits nodes edges) b → reach b.pen ≡ nodes_start
counts_end nodes edges begun k =
    let l : length (count_bits nodes edges) ≡ nodes_start = simp (length-append, length_bits_of) in omega (arith, k.penned.next, ap reach begun)

module _ {a : Writer} {w : Words} (h : SlotsFit a w) where
  pub node_words : w.counts.nodes.bound ≤ 64 * length w.live_nodes
  node_words = let k = h.checked.nodes in omega (arith, k.live_long, k.bounded.bound_within)

  pub node_slots : w.counts.nodes.bound ≤ LIMIT
  node_slots = let k = h.checked in omega (arith, k.nodes.bounded.bound_within, (k.axis Outgoing).sized.nodes_within)

  pub counts_fit : CountsFit a w.counts.nodes.live w.counts.edges.live
  counts_fit = record { begun = h.begun; room = omega (arith, h.room); few_nodes = nodes_limit h.checked; few_edges = edges_limit h.checked }

  -- after the counts the nodes have room
  pub nodes_fit : {b : Writer} → Written a (count_bits w.counts.nodes.live w.counts.edges.live) b → NodesFit b w.nodes w.live_nodes w.counts.nodes.bound
  nodes_fit {b} counted =
      let k = h.checked in
      let place : reach b.pen ≡ nodes_start = counts_end w.counts.nodes.live w.counts.edges.live h.begun counted in
      let right = k.nodes.live.live_right in
      record {
        long = node_words;
        there = k.nodes.bounded.bound_within;
        room = record { ready = counted.penned.ready; within = omega (arith, h.room, counted.penned.long) };
      }

  -- after the nodes the edges have room
  pub edges_fit : {b c : Writer} → Written a (count_bits w.counts.nodes.live w.counts.edges.live) b
      → Written b (row node_payload_width (live_payloads w.nodes w.live_nodes w.counts.nodes.bound)) c
      → EdgesFit c (least_width w.counts.nodes.live) w.live_nodes w.counts.nodes.bound w
  edges_fit {b} {c} counted paid =
      let k = h.checked in
      let n = w.counts.nodes.live in
      let m = w.counts.edges.live in
      let first : reach b.pen ≡ nodes_start = counts_end n m h.begun counted in
      let place : reach c.pen ≡ edges_start n = paid.penned.next
      ∙ ap₂ (λ (x y : ℕ). x + y) first (length_row node_payload_width (live_payloads w.nodes w.live_nodes w.counts.nodes.bound)
      ∙ ap (λ (z : ℕ). node_payload_width * z) (length-map (live_slots (node_live w)) (λ x. get_or w.nodes x 0) ∙ length_live_slots (node_live w) ∙ sym k.nodes.live.live_right)) in
      let room : PiecesFit c (record_width (least_width n)) m =
      record { ready = paid.penned.ready; within = omega (arith, h.room, paid.penned.long, counted.penned.long) } in
      record {
        ranks_fit = record {
          narrow = width_few n (nodes_limit k);
          wide = let few = nodes_limit k in omega (arith, width_holds n (omega arith), k.nodes.live.live_right);
        };
        long = omega (arith, k.edges.live_long, k.edges.bounded.bound_within);
        sources_there = omega (arith, (k.axis Outgoing).sized.room, k.edges.bounded.bound_within);
        targets_there = omega (arith, (k.axis Incoming).sized.room, k.edges.bounded.bound_within);
        lows_there = k.edges.bounded.bound_within;
        highs_there = omega (arith, k.highs_long, k.edges.bounded.bound_within);
        sources_live = λ e l. checked_end k Outgoing e l;
        targets_live = λ e l. checked_end k Incoming e l;
        room = rw (← k.edges.live.live_right) room;
      }

  -- the three parts follow each other
  pub slots_written : {b c d : Writer} → Written a (count_bits w.counts.nodes.live w.counts.edges.live) b
      → Written b (row node_payload_width (live_payloads w.nodes w.live_nodes w.counts.nodes.bound)) c
      → Written c (edge_bits (least_width w.counts.nodes.live) (live_records w.live_nodes w.counts.nodes.bound w)) d
      → Written a (slot_bits (least_width w.counts.nodes.live) (survivors (lists w))) d
  slots_written x y z = let k = h.checked in rw (many_nodes k, many_edges k, left_nodes k, left_edges k) (written_then x (written_then y z))

-- ---- the whole

-- a writer with nothing written
pub record Begun (s : List ℕ) (a : Writer) : Type 0 where
  pub lent : a.bytes.now ≡ s
  pub pen : a.pen ≡ fresh

module _ {w : Words} {work s : List ℕ} (h : ImageFits w work s) where
  abbrev here : Survivors
  here = survivors (lists w)

  abbrev bits : List ℕ
  bits = image_bits (least_width (length here.nodes)) (least_width (length here.edges)) here

  bits_length : length bits ≡ image_size w.counts.nodes.live w.counts.edges.live
  bits_length =
      let k = h.checked in
      let sound = left_sound k in
      length_image_bits (least_width (length here.nodes)) (least_width (length here.edges)) here
      (fitted_joined sound.outs ∙ length-map here.edges source_of) (fitted_joined sound.ins ∙ length-map here.edges target_of)
      ∙ ap₂ image_size (many_nodes k) (many_edges k)

  -- the joined lists, by ranks, are those of the survivors
  lists_bits : (width : ℕ) → row width (map (rank (edge_live w)) (take (2 * w.counts.edges.live) work)) ≡ row width (joined here.outs) ++ row width (joined here.ins)
  unfolding adjacency
  lists_bits width =
      ap (λ (entries : List ℕ). row width (map (rank (edge_live w)) entries)) h.listed
      ∙ ap (row width) (both_renumbered h.checked)
      ∙ row_append width (joined here.outs) (joined here.ins)

  abbrev node-width : ℕ
  node-width = least_width w.counts.nodes.live

  abbrev entry-width : ℕ
  entry-width = least_width w.counts.edges.live

  module _ {a : Writer} (begun : Begun s a) where
    pub slots_fit : SlotsFit a w
    slots_fit = record { begun = begun.pen; checked = h.checked; room = omega (arith, h.room, ap length begun.lent) }

    slots_length : length (slot_bits node-width here) ≡ outs_start w.counts.nodes.live w.counts.edges.live
    slots_length =
        simp (length-append, length_bits_of, length_row, length_edge_bits)
        (rw (many_nodes h.checked, many_edges h.checked) (omega arith))

    module _ {b : Writer} (slotted : Written a (slot_bits node-width here) b) where
      -- after the slots the lists have room, and the width holds every entry
      pub lists_fit : ListsFit b entry-width w (take (2 * w.counts.edges.live) work)
      lists_fit =
          let k = h.checked in
          let n = w.counts.nodes.live in
          let m = w.counts.edges.live in
          let place : reach b.pen ≡ outs_start n m =
          slotted.penned.next ∙ ap (λ (p : Pen). reach p + length (slot_bits node-width here)) begun.pen ∙ zero-add (length (slot_bits node-width here)) ∙ slots_length in
          let few_edges = edges_limit k in
          let size : length (take (2 * m) work) ≡ 2 * m = ap length h.listed ∙ both_length k in
          let room : PiecesFit b (least_width m) (2 * m) =
          record { ready = slotted.penned.ready; within = omega (arith, h.room, slotted.penned.long, ap length begun.lent) } in
          record {
            narrow = width_few m few_edges;
            long = omega (arith, k.edges.live_long, k.edges.bounded.bound_within);
            few = omega (arith, k.edges.bounded.bound_within, (k.axis Outgoing).sized.edges_within);
            right = k.edges.live.live_right;
            wide = omega (arith, width_holds m (omega arith), k.edges.live.live_right);
            entries_live = λ i l. subst (λ (entries : List ℕ). get_or (edge_live w) (get_or entries i 0) false ≡ true) (sym h.listed)
                (both_live k (get_or (both_walks w) i 0) (member_at (both_walks w) i 0 (omega (arith, size, both_length k))));
            room = rw size room;
          }

      module _ {c : Writer} (listed : Written b (row entry-width (map (rank (edge_live w)) (take (2 * w.counts.edges.live) work))) c) where
        -- all bits are there
        penned_all : Penned s fresh bits c.bytes.now c.pen
        unfolding image_bits
        penned_all =
            let k = h.checked in
            let narrow : node-width ≡ least_width (length here.nodes) = ap least_width (sym (many_nodes k)) in
            let wide : entry-width ≡ least_width (length here.edges) = ap least_width (sym (many_edges k)) in
            let all = rw (begun.lent, begun.pen) at (written_then slotted listed).penned in
            subst (λ (l : List ℕ). Penned s fresh l c.bytes.now c.pen)
            (ap (λ (l : List ℕ). slot_bits node-width here ++ l) (lists_bits entry-width)
            ∙ ap₂ (λ (x y : ℕ). slot_bits x here ++ (row y (joined here.outs) ++ row y (joined here.ins))) narrow wide ∙ simp append_assoc) all

        -- and what waits in the pen has room
        pub end_fits : Ready c.pen × (reach c.pen ≤ 8 * length c.bytes.now)
        end_fits =
            let all = penned_all in
            let size = image_size w.counts.nodes.live w.counts.edges.live in
            let place : reach c.pen ≡ size = all.next ∙ zero-add (length bits) ∙ bits_length in
            (all.ready, omega (arith, h.room, all.long))

        -- the image is at the start, and the bytes past it are as before
        pub wrote_image : {e : List ℕ} → Wrote c.bytes.now (8 * c.pen.at) (waiting c.pen ++ bits_of (padding (reach c.pen)) 0) e → Below 256 s → Below 256 e
            → e ≡ written (image here) s
        unfolding image
        wrote_image d hs he =
            let all = penned_all in
            let place : reach c.pen ≡ length bits = all.next ∙ zero-add (length bits) in
            wrote_pack hs he (below_image_bits (least_width (length here.nodes)) (least_width (length here.edges)) here)
            (rw place at (penned_wrote (bits_of (padding (reach c.pen)) 0) all d))

-- as many bytes as the counts say
pub image_bytes_of : {w : Words} → Checked w → bytes_for (image_size w.counts.nodes.live w.counts.edges.live) ≡ length (image (survivors (lists w)))
image_bytes_of {w} k = sym (image_length (survivors (lists w)) (left_sound k) ∙ ap₂ (λ (n m : ℕ). bytes_for (image_size n m)) (many_nodes k) (many_edges k))

-- what image_bytes asks
pub counts_few : {w : Words} → Checked w → (w.counts.nodes.live ≤ LIMIT) × (w.counts.edges.live ≤ LIMIT)
counts_few k = (nodes_limit k, edges_limit k)
