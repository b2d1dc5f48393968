-- The parts of an image's bits: where each stands in bytes, that it is read back from there, and that what is read there has those bits.
use Rattle.std.specs.Prelude.{ℕ, zero, suc, ◌+◌, ◌*◌, ◌^◌, ◌≤◌, ◌≡◌, refl, List, [], ◌∷◌, ◌++◌, map, length}
use Rattle.plain.specs.Library.{ap, ◌∙◌, length-append, arith}
use Rattle.plain.specs.declared.EdgePayload.{EdgePayload}
use Rattle.plain.specs.Lists.{joined}
use Rattle.plain.specs.Compaction.{EdgeRecord, Survivors, source_of, target_of}
use Rattle.plain.specs.Bits.{bits_of, field_at, row}
use Rattle.plain.specs.Image.{count_width, node_payload_width, weight_width, edge_payload_width, payload_bits, payload_at, edge_bits, image_bits, records_at, record_width, nodes_start}
use Rattle.plain.specs.Laws.Below.{Below, none, more}
use Rattle.plain.proofs.Laws.Below.{below_append}
use Rattle.plain.proofs.Laws.Bits.{length_bits_of, below_bits_of, field_at_lt, length_row, below_row}
use Rattle.plain.specs.Laws.Packing.{Stands}
use Rattle.plain.proofs.Laws.Packing.{stands_front, stands_rest, stands_append, stands_at, stands_field, field_stands}
use Rattle.plain.specs.Laws.ImageBits.{Parts, ins_from, record_high, record_low}

-- ---- an edge's payload

pub length_payload_bits : (payload : EdgePayload) → length (payload_bits payload) ≡ edge_payload_width
length_payload_bits payload = simp (length-append, length_bits_of)

pub below_payload_bits : (payload : EdgePayload) → Below 2 (payload_bits payload)
below_payload_bits payload = below_append (below_bits_of weight_width payload.low) (below_bits_of weight_width payload.high)

-- the bits of a payload stand where it was read
payload_stands : (bytes : List ℕ) (p : ℕ) → p + edge_payload_width ≤ 8 * length bytes → Stands bytes p (payload_bits (payload_at bytes p))
payload_stands bytes p h =
    let low : ℕ = field_at bytes p weight_width in
    stands_append (bits_of weight_width low) (bits_of weight_width (field_at bytes (p + weight_width) weight_width)) (length_bits_of weight_width low) (field_stands bytes p weight_width (omega arith))
    (field_stands bytes (p + weight_width) weight_width (omega arith))

-- ---- the edges' records

-- as many bits as the records at their width
pub length_edge_bits : (w : ℕ) (es : List EdgeRecord) → length (edge_bits w es) ≡ record_width w * length es
unfolding edge_bits
length_edge_bits w [] = omega arith
length_edge_bits w (e ∷ es) = simp (length-append, length_bits_of, length_edge_bits w es) (omega arith)

-- each is 0 or 1
pub below_edge_bits : (w : ℕ) (es : List EdgeRecord) → Below 2 (edge_bits w es)
unfolding edge_bits
below_edge_bits w [] = none
below_edge_bits w (e ∷ es) =
    below_append (below_bits_of w e.source) (below_append (below_bits_of w e.target) (below_append (below_payload_bits e.payload) (below_edge_bits w es)))

-- as many records as asked for
pub length_records_at : (bytes : List ℕ) (p w m : ℕ) → length (records_at bytes p w m) ≡ m
unfolding records_at
length_records_at bytes p w zero = refl
length_records_at bytes p w (suc m) = ap suc (length_records_at bytes (p + record_width w) w m)

-- each high fits its word
pub below_highs_at : (bytes : List ℕ) (p w m : ℕ) → Below (2 ^ weight_width) (map record_high (records_at bytes p w m))
unfolding records_at
below_highs_at bytes p w zero = none
below_highs_at bytes p w (suc m) = more (field_at_lt bytes (p + (w + w) + weight_width) weight_width) (below_highs_at bytes (p + record_width w) w m)

-- records whose bits stand there are read there
pub stands_records : {bytes : List ℕ} {p : ℕ} (w : ℕ) (es : List EdgeRecord) → Below (2 ^ w) (map source_of es) → Below (2 ^ w) (map target_of es)
    → Below (2 ^ weight_width) (map record_low es) → Below (2 ^ weight_width) (map record_high es) → Stands bytes p (edge_bits w es) → records_at bytes p w (length es) ≡ es
unfolding edge_bits records_at
stands_records w [] a b c d s = refl
stands_records {bytes} {p} w (e ∷ es) (more h a) (more k b) (more l c) (more m d) s =
    let x : List ℕ = bits_of w e.source in
    let y : List ℕ = bits_of w e.target in
    let lows : List ℕ = bits_of weight_width e.payload.low in
    let highs : List ℕ = bits_of weight_width e.payload.high in
    let z : List ℕ = payload_bits e.payload in
    let r : List ℕ = edge_bits w es in
    let s₁ : Stands bytes (p + w) (y ++ (z ++ r)) = stands_rest x (y ++ (z ++ r)) (length_bits_of w e.source) s in
    let s₂ : Stands bytes (p + (w + w)) (z ++ r) = stands_at (omega arith) (stands_rest y (z ++ r) (length_bits_of w e.target) s₁) in
    let s₃ : Stands bytes (p + record_width w) r = stands_at (omega arith) (stands_rest z r (length_payload_bits e.payload) s₂) in
    let weights : Stands bytes (p + (w + w)) (lows ++ highs) = stands_front z r s₂ in
    let source = stands_field w e.source h (stands_front x (y ++ (z ++ r)) s) in
    let target = stands_field w e.target k (stands_front y (z ++ r) s₁) in
    let low = stands_field weight_width e.payload.low l (stands_front lows highs weights) in
    let high = stands_field weight_width e.payload.high m (stands_rest lows highs (length_bits_of weight_width e.payload.low) weights) in
    rw (source, target, low, high, stands_records {p = p + record_width w} w es a b c d s₃)

-- the bits of records stand where they were read
pub records_stand : (bytes : List ℕ) (p w m : ℕ) → p + record_width w * m ≤ 8 * length bytes → Stands bytes p (edge_bits w (records_at bytes p w m))
unfolding edge_bits records_at
records_stand bytes p w zero h = record { there = refl }
records_stand bytes p w (suc m) h =
    let source : ℕ = field_at bytes p w in
    let target : ℕ = field_at bytes (p + w) w in
    let payload : EdgePayload = payload_at bytes (p + (w + w)) in
    let z : List ℕ = payload_bits payload in
    let rest : List ℕ = edge_bits w (records_at bytes (p + record_width w) w m) in
    let s₃ : Stands bytes (p + (w + w) + edge_payload_width) rest = stands_at (omega arith) (records_stand bytes (p + record_width w) w m (omega arith)) in
    let s₂ : Stands bytes (p + (w + w)) (z ++ rest) =
    stands_append z rest (length_payload_bits payload) (payload_stands bytes (p + (w + w)) (omega arith)) s₃ in
    let s₁ : Stands bytes (p + w) (bits_of w target ++ (z ++ rest)) =
    stands_append (bits_of w target) (z ++ rest) (length_bits_of w target) (field_stands bytes (p + w) w (omega arith)) (stands_at (omega arith) s₂) in
    stands_append (bits_of w source) (bits_of w target ++ (z ++ rest)) (length_bits_of w source) (field_stands bytes p w (omega arith)) s₁

-- ---- the whole

-- each bit of an image is 0 or 1
pub below_image_bits : (w v : ℕ) (s : Survivors) → Below 2 (image_bits w v s)
unfolding image_bits
below_image_bits w v s =
    below_append (below_bits_of count_width (length s.nodes)) (below_append (below_bits_of count_width (length s.edges)) (below_append (below_row node_payload_width s.nodes)
    (below_append (below_edge_bits w s.edges) (below_append (below_row v (joined s.outs)) (below_row v (joined s.ins))))))

module _ (w v : ℕ) (s : Survivors) (o : length (joined s.outs) ≡ length s.edges) where
  -- how many bits an image has before its padding
  pub length_image_bits : length (joined s.ins) ≡ length s.edges
      → length (image_bits w v s) ≡ ins_from w v (length s.nodes) (length s.edges) + v * length s.edges
  unfolding image_bits
  length_image_bits i = simp (length-append, length_bits_of, length_row, length_edge_bits, o, i) (omega arith)

  outs_length : length (row v (joined s.outs)) ≡ v * length s.edges
  outs_length = length_row v (joined s.outs) ∙ ap (λ (n : ℕ). v * n) o

  -- where the whole stands at the start, its parts stand at their places
  pub parts : {bytes : List ℕ} → Stands bytes 0 (image_bits w v s) → Parts bytes w v s
  unfolding image_bits
  parts {bytes} s₀ =
      let a : List ℕ = bits_of count_width (length s.nodes) in
      let b : List ℕ = bits_of count_width (length s.edges) in
      let c : List ℕ = row node_payload_width s.nodes in
      let d : List ℕ = edge_bits w s.edges in
      let e : List ℕ = row v (joined s.outs) in
      let f : List ℕ = row v (joined s.ins) in
      let s₁ : Stands bytes count_width (b ++ (c ++ (d ++ (e ++ f)))) = stands_rest a (b ++ (c ++ (d ++ (e ++ f)))) (length_bits_of count_width (length s.nodes)) s₀ in
      let s₂ : Stands bytes nodes_start (c ++ (d ++ (e ++ f))) = stands_rest b (c ++ (d ++ (e ++ f))) (length_bits_of count_width (length s.edges)) s₁ in
      let s₃ = stands_rest c (d ++ (e ++ f)) (length_row node_payload_width s.nodes) s₂ in
      let s₄ = stands_rest d (e ++ f) (length_edge_bits w s.edges) s₃ in
      record {
        node_count = stands_front a (b ++ (c ++ (d ++ (e ++ f)))) s₀;
        edge_count = stands_front b (c ++ (d ++ (e ++ f))) s₁;
        nodes = stands_front c (d ++ (e ++ f)) s₂;
        edges = stands_front d (e ++ f) s₃;
        outs = stands_front e f s₄;
        ins = stands_rest e f outs_length s₄;
      }

  -- and where they do, the whole stands at the start
  pub whole : {bytes : List ℕ} → Parts bytes w v s → Stands bytes 0 (image_bits w v s)
  unfolding image_bits
  whole p =
      let d : List ℕ = edge_bits w s.edges in
      let e : List ℕ = row v (joined s.outs) in
      let f : List ℕ = row v (joined s.ins) in
      let s₄ = stands_append e f outs_length p.outs p.ins in
      let s₃ = stands_append d (e ++ f) (length_edge_bits w s.edges) p.edges s₄ in
      let s₂ = stands_append (row node_payload_width s.nodes) (d ++ (e ++ f)) (length_row node_payload_width s.nodes) p.nodes s₃ in
      let s₁ = stands_append (bits_of count_width (length s.edges)) (row node_payload_width s.nodes ++ (d ++ (e ++ f))) (length_bits_of count_width (length s.edges)) p.edge_count s₂ in
      stands_append (bits_of count_width (length s.nodes)) (bits_of count_width (length s.edges) ++ (row node_payload_width s.nodes ++ (d ++ (e ++ f))))
      (length_bits_of count_width (length s.nodes)) p.node_count s₁
