-- The image: its length, that it is bytes, that reading what was written gives the survivors back, and that whatever is read was written.
use Rattle.std.specs.Prelude.{ℕ, ◌+◌, ◌-◌, ◌*◌, ◌^◌, ◌<◌, ◌≡◌, true, ◌&&◌, List, ◌++◌, map, length, get_or, ltb}
use Rattle.plain.specs.Library.{sym, ap, ap₂, ◌∙◌, ⊎_elim, length-append, length-map, get_or-map, get_or-eq_default, pow_pos, zero-add, arith}
use Rattle.std.proofs.Math.Bool.{and-eq-true_iff}
use Rattle.std.proofs.Common.{lit<}
use Rattle.plain.specs.Lists.{sum, joined, all, distinct}
use Rattle.plain.specs.Plain.{no_payload}
use Rattle.plain.specs.Compaction.{EdgeRecord, Survivors, source_of, target_of, payload_of}
use Rattle.plain.specs.Bits.{bits_of, bits, field_at, fields_at, bytes_for, padding, least_width}
use Rattle.plain.specs.Image.{count_width, node_payload_width, weight_width, image_bits, image, nodes_in, edges_in, nodes_start, edges_start, outs_start, ins_start, image_size, records_at, cut, list_lengths, parsed, at_their_nodes, lists_right, broken_image}
use Rattle.plain.specs.WellFormed.{Weighed, Fitted, Sound}
use Rattle.plain.proofs.Laws.Booleans.{below_or_not}
use Rattle.plain.proofs.Laws.Operating.{no_payload_weighed}
use Rattle.plain.specs.Laws.Compacting.{no_ends}
use Rattle.plain.specs.Laws.Below.{Below}
use Rattle.plain.proofs.Laws.Below.{below_mono, below_at, below_within, below_of, below_all}
use Rattle.plain.proofs.Laws.Bits.{length_bits_of, length_fields_at, below_fields_at}
use Rattle.plain.specs.Laws.Packing.{Stands}
use Rattle.plain.proofs.Laws.Packing.{stands_front, stands_rest, stands_append, stands_field, field_stands, stands_row, fields_stand, stands_whole, length_pack, below_pack, pack_stands, packed}
use Rattle.plain.proofs.Laws.Width.{width_holds}
use Rattle.plain.proofs.Laws.Cutting.{length_joined, cut_joined, joined_cut, lengths_cut, sum_list_lengths}
use Rattle.plain.specs.Laws.ImageBits.{record_low, record_high, Parts}
use Rattle.plain.proofs.Laws.ImageBits.{parts, whole, length_image_bits, below_image_bits, length_records_at, below_highs_at, stands_records, records_stand}
use Rattle.plain.specs.Laws.Refusals.{Counted, Sized, Padded, Ended, Readable, sources_in, targets_in, size_in}
use Rattle.plain.proofs.Laws.Refusals.{accepted, readable, length_edges_in, below_edges}

-- ---- one direction

-- a list's entries are the edges, one each
pub fitted_joined : {n : ℕ} {ends : List ℕ} {lists : List (List ℕ)} → Fitted n ends lists → length (joined lists) ≡ length ends
fitted_joined {n} {ends} {lists} f = length_joined lists ∙ ap sum f.lengths ∙ sum_list_lengths n (below_of ends f.ends_below)

-- the lists are cut out of the joined list again
pub fitted_cut : {n : ℕ} {ends : List ℕ} {lists : List (List ℕ)} → Fitted n ends lists → cut (list_lengths n ends) (joined lists) ≡ lists
fitted_cut {lists = lists} f = ap (λ (ns : List ℕ). cut ns (joined lists)) (sym f.lengths) ∙ cut_joined lists

-- the entries are below the number of edges
pub fitted_below : {n : ℕ} {ends : List ℕ} {lists : List (List ℕ)} → Fitted n ends lists → Below (length ends) (joined lists)
unfolding lists_right
fitted_below {ends = ends} {lists} f =
    below_all (joined lists) ((and-eq-true_iff (all (λ e. ltb e (length ends)) (joined lists)) (distinct (joined lists) && at_their_nodes ends 0 lists)).0 f.right).0

-- lists that were cut as the ends say, and are right, are fitted
pub cut_fitted : (n : ℕ) {ends : List ℕ} (entries : List ℕ) → Below n ends → length entries ≡ length ends
    → lists_right ends (cut (list_lengths n ends) entries) ≡ true → Fitted n ends (cut (list_lengths n ends) entries)
cut_fitted n {ends} entries b e r =
    record {
      ends_below = below_within b;
      lengths = lengths_cut (list_lengths n ends) entries (omega (arith, sum_list_lengths n b));
      right = r;
    }

-- ---- writing

-- the widths of a node's number and of an edge's
abbrev node_width : Survivors → ℕ
node_width s = least_width (length s.nodes)

abbrev edge_width : Survivors → ℕ
edge_width s = least_width (length s.edges)

abbrev bits_in : Survivors → List ℕ
bits_in s = image_bits (node_width s) (edge_width s) s

below_image : (s : Survivors) → Below 256 (image s)
unfolding image
below_image s = below_pack (below_image_bits (node_width s) (edge_width s) s)

-- every entry of an image is a byte
pub image_bytes : (s : Survivors) (i : ℕ) → get_or (image s) i 0 < 256
image_bytes s i = below_at (lit< tt) (below_image s) i

module _ (s : Survivors) (h : Sound s) where
  outs_joined : length (joined s.outs) ≡ length s.edges
  outs_joined = fitted_joined h.outs ∙ length-map s.edges source_of

  ins_joined : length (joined s.ins) ≡ length s.edges
  ins_joined = fitted_joined h.ins ∙ length-map s.edges target_of

  size : length (bits_in s) ≡ image_size (length s.nodes) (length s.edges)
  size = length_image_bits (node_width s) (edge_width s) s outs_joined ins_joined

  -- an image is as long as its two counts say
  pub image_length : length (image s) ≡ bytes_for (image_size (length s.nodes) (length s.edges))
  unfolding image
  image_length = length_pack (bits_in s) ∙ ap bytes_for size

  -- ---- reading what was written

  stands : Stands (image s) 0 (bits_in s ++ bits_of (padding (length (bits_in s))) 0)
  unfolding image
  stands = pack_stands (below_image_bits (node_width s) (edge_width s) s)

  stand : Parts (image s) (node_width s) (edge_width s) s
  stand = parts (node_width s) (edge_width s) s outs_joined (stands_front (bits_in s) (bits_of (padding (length (bits_in s))) 0) stands)

  nodes_counted : nodes_in (image s) ≡ length s.nodes
  nodes_counted = stands_field count_width (length s.nodes) (omega arith) stand.node_count

  edges_counted : edges_in (image s) ≡ length s.edges
  edges_counted = stands_field count_width (length s.edges) (omega arith) stand.edge_count

  nodes_read : fields_at (image s) nodes_start node_payload_width (length s.nodes) ≡ s.nodes
  nodes_read = stands_row node_payload_width (below_of s.nodes (λ x l. h.node_payloads x)) stand.nodes

  -- a width holds the ends of one direction, and of its lists the entries
  below_ends : {ends : List ℕ} {lists : List (List ℕ)} → Fitted (length s.nodes) ends lists → Below (2 ^ node_width s) ends
  below_ends {ends} f = below_mono (width_holds (length s.nodes) (omega arith)) (below_of ends f.ends_below)

  below_entries : {ends : List ℕ} {lists : List (List ℕ)} → Fitted (length s.nodes) ends lists → length ends ≡ length s.edges
      → Below (2 ^ edge_width s) (joined lists)
  below_entries f e = below_mono (rw e (width_holds (length s.edges) (omega arith))) (fitted_below f)

  weights : (e : ℕ) → Weighed (payload_of (get_or s.edges e no_ends))
  weights e = rw (get_or-map payload_of s.edges e no_ends) at (h.edge_payloads e)

  edges_read : records_at (image s) (edges_start (length s.nodes)) (node_width s) (length s.edges) ≡ s.edges
  edges_read =
      stands_records (node_width s) s.edges (below_ends h.outs) (below_ends h.ins)
      (below_of (map record_low s.edges) (λ e l. let weighed = weights e in omega (arith, get_or-map record_low s.edges e no_ends, weighed.in_order, weighed.fits)))
      (below_of (map record_high s.edges) (λ e l. let weighed = weights e in omega (arith, get_or-map record_high s.edges e no_ends, weighed.fits)))
      stand.edges

  outs_read : fields_at (image s) (outs_start (length s.nodes) (length s.edges)) (edge_width s) (length s.edges) ≡ joined s.outs
  outs_read = rw outs_joined at (stands_row (edge_width s) (below_entries h.outs (length-map s.edges source_of)) stand.outs)

  ins_read : fields_at (image s) (ins_start (length s.nodes) (length s.edges)) (edge_width s) (length s.edges) ≡ joined s.ins
  ins_read = rw ins_joined at (stands_row (edge_width s) (below_entries h.ins (length-map s.edges target_of)) stand.ins)

  -- reading what was written gives the survivors back
  pub read_back : parsed (image s) ≡ s
  unfolding parsed
  read_back =
      rw (nodes_counted, edges_counted, nodes_read, edges_read, outs_read, ins_read, fitted_cut h.outs, fitted_cut h.ins)

  padding_read : field_at (image s) (image_size (length s.nodes) (length s.edges)) (padding (image_size (length s.nodes) (length s.edges))) ≡ 0
  padding_read =
      rw (size, zero-add) at (stands_field (padding (length (bits_in s))) 0 (pow_pos (padding (length (bits_in s))))
      (stands_rest (bits_in s) (bits_of (padding (length (bits_in s))) 0) size stands))

  all_six : Readable (image s)
  all_six =
      let l = image_length in
      let counted : Counted (image s) = record {
        four = omega arith;
        nodes_within = rw nodes_counted h.nodes_within;
        edges_within = rw edges_counted h.edges_within;
      } in
      let sized : Sized (image s) = record { counted = counted; length_right = rw (nodes_counted, edges_counted) l } in
      let padded : Padded (image s) = record { sized = sized; padding_clear = rw (nodes_counted, edges_counted, l) padding_read } in
      let ended : Ended (image s) = record {
        padded = padded;
        sources_below = rw (read_back, nodes_counted, edges_counted) (λ e k. h.outs.ends_below e (rw length-map k));
        targets_below = rw (read_back, nodes_counted, edges_counted) (λ e k. h.ins.ends_below e (rw length-map k));
        in_order = rw (read_back, edges_counted) (λ e k. omega (arith, get_or-map record_low s.edges e no_ends, get_or-map record_high s.edges e no_ends, (weights e).in_order));
      } in
      record { ended = ended; outs_right = rw read_back h.outs.right; ins_right = rw read_back h.ins.right }

  -- and what was written is not refused
  pub image_readable : broken_image (image s) ≡ 0
  image_readable = accepted (image s) all_six

-- equal images are of equal survivors
pub image_injective : (s t : Survivors) → Sound s → Sound t → image s ≡ image t → s ≡ t
image_injective s t h k e = sym (read_back s h) ∙ ap parsed e ∙ read_back t k

-- ---- whatever is read was written

-- as many nodes are read as the first count says
pub nodes_length : (bytes : List ℕ) → length (parsed bytes).nodes ≡ nodes_in bytes
unfolding parsed
nodes_length bytes = length_fields_at bytes nodes_start node_payload_width (nodes_in bytes)

-- and as many edges as the second
pub edges_length : (bytes : List ℕ) → length (parsed bytes).edges ≡ edges_in bytes
unfolding parsed
edges_length bytes = length_records_at bytes (edges_start (nodes_in bytes)) (least_width (nodes_in bytes)) (edges_in bytes)

-- the entries of one direction, from bit p on, and the lists that they are cut into
abbrev entries_in : List ℕ → ℕ → List ℕ
entries_in bytes p = fields_at bytes p (least_width (edges_in bytes)) (edges_in bytes)

abbrev lists_in : List ℕ → ℕ → List ℕ → List (List ℕ)
lists_in bytes p ends = cut (list_lengths (nodes_in bytes) ends) (entries_in bytes p)

module _ (bytes : List ℕ) (p : ℕ) {ends : List ℕ} (e : length ends ≡ edges_in bytes) (b : Below (nodes_in bytes) ends) where
  entries_length : length (entries_in bytes p) ≡ length ends
  entries_length = length_fields_at bytes p (least_width (edges_in bytes)) (edges_in bytes) ∙ sym e

  lists_fitted : lists_right ends (lists_in bytes p ends) ≡ true → Fitted (nodes_in bytes) ends (lists_in bytes p ends)
  lists_fitted r = cut_fitted (nodes_in bytes) (entries_in bytes p) b entries_length r

  lists_joined : joined (lists_in bytes p ends) ≡ entries_in bytes p
  lists_joined = joined_cut (list_lengths (nodes_in bytes) ends) (entries_in bytes p) (sum_list_lengths (nodes_in bytes) b ∙ sym entries_length)

module _ (bytes : List ℕ) (q : broken_image bytes ≡ 0) where
  rules : Readable bytes
  rules = readable bytes q

  below_sources : Below (nodes_in bytes) (sources_in bytes)
  below_sources = below_edges bytes source_of rules.ended.sources_below

  below_targets : Below (nodes_in bytes) (targets_in bytes)
  below_targets = below_edges bytes target_of rules.ended.targets_below

  weights_read : (e : ℕ) → Weighed (get_or (map payload_of (parsed bytes).edges) e no_payload)
  unfolding parsed
  weights_read e =
      let n : ℕ = nodes_in bytes in
      let m : ℕ = edges_in bytes in
      let es : List EdgeRecord = records_at bytes (edges_start n) (least_width n) m in
      let low = get_or-map record_low es e no_ends in
      let high = get_or-map record_high es e no_ends in
      rw (get_or-map payload_of es e no_ends)
      (⊎_elim
      (λ (l : e < m). record {
        in_order = let ordered = rules.ended.in_order e l in omega (arith, low, high, ordered);
        fits = let below = below_at (pow_pos weight_width) (below_highs_at bytes (edges_start n) (least_width n) m) e in omega (arith, high, below);
      })
      (λ l. rw (get_or-eq_default es no_ends {n = e} (rw length_records_at l)) no_payload_weighed)
      (below_or_not e m))

  -- what is accepted is sound
  pub parsed_sound : Sound (parsed bytes)
  unfolding parsed
  parsed_sound =
      let n : ℕ = nodes_in bytes in
      let m : ℕ = edges_in bytes in
      let counted : Counted bytes = rules.ended.padded.sized.counted in
      record {
        nodes_within = rw (nodes_length bytes) counted.nodes_within;
        edges_within = rw (edges_length bytes) counted.edges_within;
        node_payloads = below_at (pow_pos node_payload_width) (below_fields_at bytes nodes_start node_payload_width n);
        edge_payloads = weights_read;
        outs = rw (nodes_length bytes) (lists_fitted bytes (outs_start n m) (length_edges_in bytes source_of) below_sources rules.outs_right);
        ins = rw (nodes_length bytes) (lists_fitted bytes (ins_start n m) (length_edges_in bytes target_of) below_targets rules.ins_right);
      }

  -- each part that was read has its bits where it was read
  parts_read : Parts bytes (least_width (nodes_in bytes)) (least_width (edges_in bytes)) (parsed bytes)
  unfolding parsed
  parts_read =
      let n : ℕ = nodes_in bytes in
      let m : ℕ = edges_in bytes in
      let w : ℕ = least_width n in
      let v : ℕ = least_width m in
      let l : length bytes ≡ bytes_for (image_size n m) = rules.ended.padded.sized.length_right in
      record {
        node_count = rw (nodes_length bytes) (field_stands bytes 0 count_width (omega arith));
        edge_count = rw (edges_length bytes) (field_stands bytes count_width count_width (omega arith));
        nodes = fields_stand bytes nodes_start node_payload_width n (omega arith);
        edges = rw (nodes_length bytes) (records_stand bytes (edges_start n) w m (omega arith));
        outs = rw (nodes_length bytes, edges_length bytes, lists_joined bytes (outs_start n m) (length_edges_in bytes source_of) below_sources)
            (fields_stand bytes (outs_start n m) v m (omega arith));
        ins = rw (nodes_length bytes, edges_length bytes, lists_joined bytes (ins_start n m) (length_edges_in bytes target_of) below_targets)
            (fields_stand bytes (ins_start n m) v m (omega arith));
      }

  size_read : length (bits_in (parsed bytes)) ≡ size_in bytes
  size_read = size (parsed bytes) parsed_sound ∙ ap₂ image_size (nodes_length bytes) (edges_length bytes)

  stands_read : Stands bytes 0 (bits_in (parsed bytes))
  stands_read =
      whole (node_width (parsed bytes)) (edge_width (parsed bytes)) (parsed bytes) (outs_joined (parsed bytes) parsed_sound)
      (rw (nodes_length bytes, edges_length bytes) parts_read)

  padding_stands : Stands bytes (0 + size_in bytes) (bits_of (padding (size_in bytes)) 0)
  padding_stands =
      let l : length bytes ≡ bytes_for (size_in bytes) = rules.ended.padded.sized.length_right in
      rw (zero-add, ← l) (rw rules.ended.padded.padding_clear at (field_stands bytes (size_in bytes) (8 * length bytes - size_in bytes) (omega arith)))

  bits_read : bits bytes ≡ bits_in (parsed bytes) ++ bits_of (padding (length (bits_in (parsed bytes)))) 0
  bits_read =
      let l : length bytes ≡ bytes_for (size_in bytes) = rules.ended.padded.sized.length_right in
      let z : List ℕ = bits_of (padding (size_in bytes)) 0 in
      let e : length (bits_in (parsed bytes) ++ z) ≡ 8 * length bytes = rw (length-append, size_read, length_bits_of) (omega arith) in
      rw size_read (stands_whole (bits_in (parsed bytes) ++ z) e (stands_append (bits_in (parsed bytes)) z size_read stands_read padding_stands))

-- whatever is read was written: an image is the writing of what it reads to
pub written_back : (bytes : List ℕ) → ((i : ℕ) → get_or bytes i 0 < 256) → broken_image bytes ≡ 0 → image (parsed bytes) ≡ bytes
unfolding image
written_back bytes h q =
    packed (below_of bytes (λ i l. h i)) (below_image_bits (node_width (parsed bytes)) (edge_width (parsed bytes)) (parsed bytes)) (bits_read bytes q)
