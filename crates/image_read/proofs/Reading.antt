-- Reading an image into a store's memory: what the calls ask holds, and the store then holds what the bytes hold.
use Rattle.std.specs.Prelude.{ℕ, ◌+◌, ◌*◌, ◌^◌, ◌≤◌, ◌<◌, ◌≡◌, refl, List, map, length, get_or}
use Rattle.plain.specs.Library.{sym, ap, ap₂, subst, subst₂, ◌∙◌, arith}
use native.Mathlib.Nat.{add-zero}
use Rattle.plain.specs.declared.TraversalDirection.{TraversalDirection}
use Rattle.plain.specs.declared.TraversalDirection.TheVariants.{Outgoing, Incoming}
use Rattle.plain.specs.declared.Counts.{Counts}
use Rattle.plain.specs.Lists.{from}
use Rattle.plain.specs.Bits.{fields_at, least_width}
use Rattle.plain.specs.Compaction.{EdgeRecord, source_of, target_of}
use Rattle.plain.specs.Image.{node_payload_width, weight_width, edge_payload_width, record_width, nodes_in, edges_in, nodes_start, edges_start, outs_start, ins_start, image_size, cut, list_lengths, parsed}
use Rattle.plain.specs.Memory.{Lengths, axis_length}
use Rattle.plain.specs.WellFormed.{Fitted, Sound}
use Rattle.plain.proofs.Laws.Bits.{length_fields_at}
use Rattle.plain.proofs.Laws.Below.{below_of}
use Rattle.plain.proofs.Laws.Cutting.{joined_cut, sum_list_lengths}
use Rattle.plain.proofs.Laws.Width.{width_most}
use Rattle.plain.specs.Laws.Refusals.{Counted, Readable}
use Rattle.plain.proofs.Laws.Refusals.{readable, length_edges_in}
use Rattle.plain.proofs.Laws.ImageLaws.{nodes_length, edges_length, parsed_sound}
use Rattle.liveness.specs.Calls.{Reset}
use Rattle.shape.specs.Columns.{Sized}
use Rattle.shape.specs.Shape.{Words, node_capacity, edge_capacity, lengths_of, axis_words as words_of}
use Rattle.shape.specs.Kept.{AxisRenewed, Renewed, same_nodes, same_edges, same_highs, same_live_nodes, same_live_edges, same_axis}
use Rattle.shape.specs.Laws.NewBase.{NewBase}
use Rattle.survivors.proofs.Laws.Slots.{rewritten_range}
use Rattle.compact.specs.Laws.Bases.{rebuilt_renewed}
use Rattle.plain.specs.Based.{based}
use Rattle.compact.specs.Laws.Holding.{front, Holding, reset_same, reset_word, sized_as}
use Rattle.image_check.specs.Spread.{spread, SpreadFits}
use Rattle.image_read.specs.Directions.{AxisReadable, AxisRead}
use Rattle.image_read.specs.Reading.{Accepted, PayloadsReadable, PayloadsRead, AxesReadable, AxesRead, ImagePlaced}
use Rattle.image_check.specs.Laws.Sizes.{records_small, entries_small}
use Rattle.image_check.specs.Laws.Spread.{spread_in, fields_spread, spread_at, sources_spread, targets_spread, lows_spread, highs_spread}
use Rattle.image_read.proofs.Directions.{base_readable, read_base}

-- counts that were read
pub payloads_of : {nodes lows highs bytes : List ℕ} {n m n' m' : ℕ} {nodes' lows' highs' : List ℕ} → n ≡ n' → m ≡ m'
    → PayloadsRead nodes lows highs bytes n m nodes' lows' highs' → PayloadsRead nodes lows highs bytes n' m' nodes' lows' highs'
payloads_of {nodes} {lows} {highs} {bytes} {nodes' = nodes'} {lows'} {highs'} a b r =
    subst₂ (λ (n m : ℕ). PayloadsRead nodes lows highs bytes n m nodes' lows' highs') a b r

pub axes_of : {outgoing incoming : List ℕ} {ce cn : ℕ} {bytes : List ℕ} {n m n' m' : ℕ} {outgoing' incoming' : List ℕ} → n ≡ n' → m ≡ m'
    → AxesRead outgoing incoming ce cn bytes n m outgoing' incoming' → AxesRead outgoing incoming ce cn bytes n' m' outgoing' incoming'
axes_of {outgoing} {incoming} {ce} {cn} {bytes} {outgoing' = outgoing'} {incoming'} a b r =
    subst₂ (λ (n m : ℕ). AxesRead outgoing incoming ce cn bytes n m outgoing' incoming') a b r

pub reset_of : {entry exit : List ℕ} {n n' : ℕ} → n ≡ n' → Reset entry n exit → Reset entry n' exit
reset_of {entry} {exit} a r = subst (λ (n : ℕ). Reset entry n exit) a r

-- ---- what the calls ask

module _ {l : Lengths} {bytes : List ℕ} (a : Accepted l bytes) where
  abbrev n : ℕ
  n = nodes_in bytes

  abbrev m : ℕ
  m = edges_in bytes

  rules : Readable bytes
  rules = readable bytes a.image

  counted : Counted bytes
  counted = rules.ended.padded.sized.counted

  -- the image is within the bytes
  whole : image_size n m ≤ 8 * length bytes
  whole = let long = rules.ended.padded.sized.length_right in omega arith

  -- and small
  small : image_size n m + (64 + edge_payload_width) < 2 ^ 64
  small = omega (arith, counted.nodes_within, counted.edges_within, records_small n m, entries_small m)

  -- a field of the edges' records at bit k
  weights_fit : (words : List ℕ) (k : ℕ) → k + weight_width ≤ record_width (least_width n) → m ≤ length words
      → SpreadFits bytes (edges_start n + k) (record_width (least_width n)) weight_width words 0 m
  weights_fit words k inside room =
      spread_in (edges_start n) k (edges_start n + k) (record_width (least_width n)) weight_width m refl inside (omega arith) (omega (arith, whole))
      (omega (arith, small, width_most n)) (omega arith)

  pub payloads_readable : (nodes lows highs : List ℕ) → n ≤ length nodes → m ≤ length lows → m ≤ length highs → PayloadsReadable nodes lows highs bytes n m
  payloads_readable nodes lows highs nodes_room lows-room highs_room = record {
    nodes_there = spread_in nodes_start 0 nodes_start node_payload_width node_payload_width n refl (omega arith) (omega arith) (omega (arith, whole)) (omega (arith, small)) (omega arith);
    weights_there = record {
      few = omega (arith, a.nodes_room, a.few.nodes);
      lows_there = weights_fit lows (least_width n + least_width n) (omega arith) lows-room;
      highs_there = subst (λ (p : ℕ). SpreadFits bytes p (record_width (least_width n)) weight_width highs 0 m) (omega arith)
          (weights_fit highs (least_width n + least_width n + weight_width) (omega arith) highs_room);
    };
  }

  -- each end is below n where they all are
  end_below : (f : ℕ → ℕ) {ends : List ℕ} → map f (from 0 m) ≡ ends → ((e : ℕ) → e < m → get_or ends e 0 < n) → (e : ℕ) → e < m → f e < n
  end_below f are below e h = subst (λ (z : ℕ). z < n) (spread_at f m are e h) (below e h)

  -- one direction: of each record the field of a node's number at bit k, and the entries from bit `lists` on
  axis_readable : (ws : List ℕ) (k ends lists : ℕ) → axis_length l.capacities ≤ length ws → ends ≡ edges_start n + k → k ≤ least_width n
      → lists + least_width m * m ≤ image_size n m → ((e : ℕ) → e < m → spread bytes ends (record_width (least_width n)) (least_width n) e < n)
      → AxisReadable ws l.capacities.edges l.capacities.nodes n m bytes ends lists
  axis_readable ws k ends lists room is low inside below = record {
    sized = record { edges_within = a.few.edges; nodes_within = a.few.nodes; room = room };
    nodes_fit = a.nodes_room;
    edges_fit = a.edges_room;
    ends_there = spread_in (edges_start n) k ends (record_width (least_width n)) (least_width n) m is (omega arith) (width_most n) (omega (arith, whole))
        (omega (arith, small, width_most n)) (omega (arith, a.edges_room));
    ends_below = below;
    lists_there = spread_in lists 0 lists (least_width m) (least_width m) m (sym (add-zero lists)) (omega arith) (width_most m) (omega (arith, whole))
        (omega (arith, small, width_most m)) (omega (arith, a.edges_room));
  }

  pub axes_readable : (outgoing incoming : List ℕ) → axis_length l.capacities ≤ length outgoing → axis_length l.capacities ≤ length incoming
      → AxesReadable outgoing incoming l.capacities.edges l.capacities.nodes bytes n m
  unfolding parsed
  axes_readable outgoing incoming out-room in-room = record {
    sources = axis_readable outgoing 0 (edges_start n) (outs_start n m) out-room (sym (add-zero (edges_start n))) (omega arith) (omega arith)
        (end_below (spread bytes (edges_start n) (record_width (least_width n)) (least_width n)) (sources_spread bytes (least_width n) (edges_start n) m)
        rules.ended.sources_below);
    targets = axis_readable incoming (least_width n) (edges_start n + least_width n) (ins_start n m) in-room refl (omega arith) (omega arith)
        (end_below (spread bytes (edges_start n + least_width n) (record_width (least_width n)) (least_width n))
        (targets_spread bytes (least_width n) (edges_start n) m) rules.ended.targets_below);
  }

-- ---- the store afterwards

module _ {w : Words} {bytes : List ℕ} {v : Words} (a : Accepted (lengths_of w) bytes) (r : ImagePlaced w bytes v) where
  -- the lists that begin at a bit, by these ends
  abbrev lists_at : ℕ → List ℕ → List (List ℕ)
  lists_at position ends = cut (list_lengths (nodes_in bytes) ends) (fields_at bytes position (least_width (edges_in bytes)) (edges_in bytes))

  sound : Sound (parsed bytes)
  sound = parsed_sound bytes a.image

  ready : AxesReadable w.outgoing w.incoming (edge_capacity w) (node_capacity w) bytes (nodes_in bytes) (edges_in bytes)
  ready = axes_readable a w.outgoing w.incoming a.roomy.outgoing_room a.roomy.incoming_room

  -- the base of one direction
  base_of : {ws ws' : List ℕ} (end : EdgeRecord → ℕ) (ends lists : ℕ)
      → AxisReadable ws (edge_capacity w) (node_capacity w) (nodes_in bytes) (edges_in bytes) bytes ends lists
      → AxisRead ws (edge_capacity w) (node_capacity w) (nodes_in bytes) (edges_in bytes) bytes ends lists ws'
      → map (spread bytes ends (record_width (least_width (nodes_in bytes))) (least_width (nodes_in bytes))) (from 0 (edges_in bytes)) ≡ map end (parsed bytes).edges
      → Fitted (length (parsed bytes).nodes) (map end (parsed bytes).edges) (lists_at lists (map end (parsed bytes).edges))
      → NewBase ws' (edge_capacity w) (node_capacity w) v.counts (map end (parsed bytes).edges) (lists_at lists (map end (parsed bytes).edges))
  base_of end ends lists ready read are fitted =
      let of-nodes = subst (λ (k : ℕ). Fitted k (map end (parsed bytes).edges) (lists_at lists (map end (parsed bytes).edges))) (nodes_length bytes) fitted in
      let entries = fields_at bytes lists (least_width (edges_in bytes)) (edges_in bytes) in
      let long = length_fields_at bytes lists (least_width (edges_in bytes)) (edges_in bytes) ∙ sym (length_edges_in bytes end) in
      read_base ready read v.counts (map end (parsed bytes).edges) (lists_at lists (map end (parsed bytes).edges))
      (ap (λ (c : Counts). c.nodes.bound) r.counts) (ap (λ (c : Counts). c.nodes.base) r.counts) (ap (λ (c : Counts). c.edges.bound) r.counts)
      (ap (λ (c : Counts). c.edges.base) r.counts) are
      (sym (joined_cut (list_lengths (nodes_in bytes) (map end (parsed bytes).edges)) entries
      (sum_list_lengths (nodes_in bytes) (below_of (map end (parsed bytes).edges) of-nodes.ends_below) ∙ sym long)))
      of-nodes

  out_base : NewBase v.outgoing (edge_capacity w) (node_capacity w) v.counts (map source_of (parsed bytes).edges) (parsed bytes).outs
  unfolding parsed
  out_base =
      base_of source_of (edges_start (nodes_in bytes)) (outs_start (nodes_in bytes) (edges_in bytes)) ready.sources r.axes.sources
      (sources_spread bytes (least_width (nodes_in bytes)) (edges_start (nodes_in bytes)) (edges_in bytes)) sound.outs

  in_base : NewBase v.incoming (edge_capacity w) (node_capacity w) v.counts (map target_of (parsed bytes).edges) (parsed bytes).ins
  unfolding parsed
  in_base =
      base_of target_of (edges_start (nodes_in bytes) + least_width (nodes_in bytes)) (ins_start (nodes_in bytes) (edges_in bytes)) ready.targets r.axes.targets
      (targets_spread bytes (least_width (nodes_in bytes)) (edges_start (nodes_in bytes)) (edges_in bytes)) sound.ins

  sized_again : (d : TraversalDirection) → Sized (words_of d v) (edge_capacity v) (node_capacity v)
  sized_again Outgoing = subst₂ (Sized v.outgoing) (sym (same_edges r.lengths)) (sym (same_nodes r.lengths)) (sized_as (same_axis w v r.lengths Outgoing) ready.sources.sized)
  sized_again Incoming = subst₂ (Sized v.incoming) (sym (same_edges r.lengths)) (sym (same_nodes r.lengths)) (sized_as (same_axis w v r.lengths Incoming) ready.targets.sized)

  -- the store holds what the bytes hold
  pub placed_holding : Holding v (parsed bytes)
  unfolding parsed
  placed_holding =
      let same = r.lengths in
      let many_nodes = nodes_length bytes in
      let many_edges = edges_length bytes in
      record {
        sound = sound;
        counts = r.counts ∙ ap₂ {C = Counts} (λ (n m : ℕ). record { nodes = based n; edges = based m }) (sym many_nodes) (sym many_edges);
        nodes_fit = omega (arith, a.nodes_room, same_nodes same);
        edges_fit = omega (arith, a.edges_room, same_edges same);
        highs_long = rw (same_edges same, same_highs same) a.roomy.highs_room;
        live_nodes_long = rw (same_nodes same, same_live_nodes same) a.roomy.live_nodes_room;
        live_edges_long = rw (same_edges same, same_live_edges same) a.roomy.live_edges_room;
        sized = sized_again;
        nodes = ap (front v.nodes) many_nodes ∙ rewritten_range r.payloads.nodes_read ∙ fields_spread bytes nodes_start node_payload_width (nodes_in bytes);
        lows = ap (front v.lows) many_edges ∙ rewritten_range r.payloads.weights_read.lows_read
            ∙ lows_spread bytes (least_width (nodes_in bytes)) (edges_start (nodes_in bytes)) (edges_in bytes);
        highs = ap (front v.highs) many_edges ∙ rewritten_range r.payloads.weights_read.highs_read
            ∙ highs_spread bytes (least_width (nodes_in bytes)) (edges_start (nodes_in bytes)) (edges_in bytes);
        live_nodes = subst (λ (k : ℕ). Reset v.live_nodes k v.live_nodes) (sym many_nodes) (reset_same r.live_nodes);
        live_edges = subst (λ (k : ℕ). Reset v.live_edges k v.live_edges) (sym many_edges) (reset_same r.live_edges);
        outgoing = subst₂ (λ (ce cn : ℕ). NewBase v.outgoing ce cn v.counts (map source_of (parsed bytes).edges) (parsed bytes).outs) (sym (same_edges same))
            (sym (same_nodes same)) out_base;
        incoming = subst₂ (λ (ce cn : ℕ). NewBase v.incoming ce cn v.counts (map target_of (parsed bytes).edges) (parsed bytes).ins) (sym (same_edges same))
            (sym (same_nodes same)) in_base;
      }

  -- ---- the words that are left

  axis_renewed : {ws ws' : List ℕ} {ends lists : ℕ} → AxisReadable ws (edge_capacity w) (node_capacity w) (nodes_in bytes) (edges_in bytes) bytes ends lists
      → AxisRead ws (edge_capacity w) (node_capacity w) (nodes_in bytes) (edges_in bytes) bytes ends lists ws'
      → AxisRenewed ws ws' (edge_capacity w) (node_capacity w) (nodes_in bytes) (edges_in bytes)
  axis_renewed {ws} {lists = lists} ready read =
      let long = length_fields_at bytes lists (least_width (edges_in bytes)) (edges_in bytes) in
      rebuilt_renewed (record { compressible = (base_readable ready read.places).compressible; there = omega arith }) read.rebuilds ws
      (λ i h. read.places.above i (omega arith))

  axis_left : (d : TraversalDirection)
      → AxisRenewed (words_of d w) (words_of d v) (edge_capacity w) (node_capacity w) (nodes_in bytes) (edges_in bytes)
  axis_left Outgoing = axis_renewed ready.sources r.axes.sources
  axis_left Incoming = axis_renewed ready.targets r.axes.targets

  pub placed_renewed : Renewed w v
  placed_renewed =
      let nodes_bound = ap (λ (c : Counts). c.nodes.bound) r.counts in
      let edges_bound = ap (λ (c : Counts). c.edges.bound) r.counts in
      record {
        nodes = record { payloads = λ i h. r.payloads.nodes_read.above i (omega arith); live = λ i h. reset_word r.live_nodes i (omega arith) };
        edges = record { payloads = λ i h. r.payloads.weights_read.lows_read.above i (omega arith); live = λ i h. reset_word r.live_edges i (omega arith) };
        highs = λ i h. r.payloads.weights_read.highs_read.above i (omega arith);
        axis = λ d. subst₂ (λ (n m : ℕ). AxisRenewed (words_of d w) (words_of d v) (edge_capacity w) (node_capacity w) n m) (sym nodes_bound) (sym edges_bound)
            (axis_left d);
      }
