-- The image: writing it from the survivors, and reading it from bytes. Document 01, "The image"; document 02, No. 8.
use Rattle.std.specs.Prelude.{ℕ, zero, suc, ◌+◌, ◌*◌, ◌-◌, Bool, true, cond, ◌&&◌, ◌||◌, not, List, [], ◌∷◌, ◌++◌, map, length, take, drop, get_or, eqb, ltb}
use Rattle.plain.specs.Numbers.{LIMIT}
use Rattle.plain.specs.Lists.{joined, all, distinct, count, from}
use Rattle.plain.specs.declared.EdgePayload.{EdgePayload}
use Rattle.plain.specs.Plain.{ordered}
use Rattle.plain.specs.Compaction.{EdgeRecord, Survivors, source_of, target_of}
use Rattle.plain.specs.Bits.{bits_of, field_at, fields_at, row, pack, bytes_for, least_width}

-- ---- the widths of the fields that every image has, in bits

-- "node count n and edge count m (16 bits each)"
abbrev pub count_width : ℕ
count_width = 16

-- "n payloads (32)"
abbrev pub node_payload_width : ℕ
node_payload_width = 32

-- "the image's edge record holds low then high in 64 bits"
abbrev pub weight_width : ℕ
weight_width = 32

abbrev pub edge_payload_width : ℕ
edge_payload_width = weight_width + weight_width

-- the payload of an edge as bits, and as it is read from bit p on
abbrev pub payload_bits : EdgePayload → List ℕ
payload_bits payload = bits_of weight_width payload.low ++ bits_of weight_width payload.high

abbrev pub payload_at : List ℕ → ℕ → EdgePayload
payload_at bytes p = record { low = field_at bytes p weight_width; high = field_at bytes (p + weight_width) weight_width }

-- ---- writing

-- "per edge source, target (w bits each), payload", which is 64 bits now
unfoldable pub edge_bits : ℕ → List EdgeRecord → List ℕ
edge_bits w [] = []
edge_bits w (e ∷ es) = bits_of w e.source ++ (bits_of w e.target ++ (payload_bits e.payload ++ edge_bits w es))

-- "node count n and edge count m (16 bits each); n payloads (32); per edge source, target (w bits each), payload (32); the out-lists of nodes 0 up to n−1
-- joined, then the in-lists (v bits an entry)"
unfoldable pub image_bits : ℕ → ℕ → Survivors → List ℕ
image_bits w v s =
    bits_of count_width (length s.nodes) ++ (bits_of count_width (length s.edges) ++ (row node_payload_width s.nodes
    ++ (edge_bits w s.edges ++ (row v (joined s.outs) ++ row v (joined s.ins)))))

-- "w is the least width holding n−1, 0 if n is at most 1; v likewise for m"; "zero bits to a byte"
unfoldable pub image : Survivors → List ℕ
image s = pack (image_bits (least_width (length s.nodes)) (least_width (length s.edges)) s)

-- ---- reading

-- the two counts; the widths and the places of an image's parts come from them alone
abbrev pub nodes_in : List ℕ → ℕ
nodes_in bytes = field_at bytes 0 count_width

abbrev pub edges_in : List ℕ → ℕ
edges_in bytes = field_at bytes count_width count_width

-- the bits of one edge's record, at width w for a node
abbrev pub record_width : ℕ → ℕ
record_width w = w + (w + edge_payload_width)

abbrev pub nodes_start : ℕ
nodes_start = count_width + count_width

abbrev pub edges_start : ℕ → ℕ
edges_start n = nodes_start + node_payload_width * n

abbrev pub outs_start : ℕ → ℕ → ℕ
outs_start n m = edges_start n + record_width (least_width n) * m

abbrev pub ins_start : ℕ → ℕ → ℕ
ins_start n m = outs_start n m + least_width m * m

-- how many bits an image of n nodes and m edges has before its padding, m entries a direction
abbrev pub image_size : ℕ → ℕ → ℕ
image_size n m = ins_start n m + least_width m * m

-- m records from bit p on
unfoldable pub records_at : List ℕ → ℕ → ℕ → ℕ → List EdgeRecord
records_at bytes p w zero = []
records_at bytes p w (suc m) =
    record { source = field_at bytes p w; target = field_at bytes (p + w) w; payload = payload_at bytes (p + (w + w)) }
    ∷ records_at bytes (p + record_width w) w m

-- the joined list cut into lists of these lengths
unfoldable pub cut : List ℕ → List ℕ → List (List ℕ)
cut [] entries = []
cut (n ∷ lengths) entries = take n entries ∷ cut lengths (drop n entries)

-- "each as long as the edges' ends say": how many edges have node x for their end, of each node
abbrev pub list_lengths : ℕ → List ℕ → List ℕ
list_lengths n ends = map (λ x. count (eqb x) ends) (from 0 n)

-- what the bytes hold, whether or not it is right
unfoldable pub parsed : List ℕ → Survivors
parsed bytes =
    let n = nodes_in bytes in
    let m = edges_in bytes in
    let records = records_at bytes (edges_start n) (least_width n) m in
    record {
      nodes = fields_at bytes nodes_start node_payload_width n;
      edges = records;
      outs = cut (list_lengths n (map source_of records)) (fields_at bytes (outs_start n m) (least_width m) m);
      ins = cut (list_lengths n (map target_of records)) (fields_at bytes (ins_start n m) (least_width m) m);
    }

-- whether each list's entries have that node for their end, from node x on
unfoldable pub at_their_nodes : List ℕ → ℕ → List (List ℕ) → Bool
at_their_nodes ends x [] = true
at_their_nodes ends x (list ∷ lists) = all (λ e. eqb (get_or ends e 0) x) list && at_their_nodes ends (suc x) lists

-- rule 6 of one direction: no "list entry not below m, repeated, or at the wrong node"
unfoldable pub lists_right : List ℕ → List (List ℕ) → Bool
lists_right ends lists =
    all (λ e. ltb e (length ends)) (joined lists) && (distinct (joined lists) && at_their_nodes ends 0 lists)

-- rule 5 of one edge: no "end not below n", and no low above its high
abbrev pub record_right : ℕ → EdgeRecord → Bool
record_right n e = ltb e.source n && (ltb e.target n && ordered e.payload)

-- "Rules of 12: (1) under 4 bytes; (2) count above 32,768; (3) other length; (4) padding set; (5) end not below n; (6) list entry not below m, repeated, or
-- at the wrong node." Rule 5 is broken by a low above its high too (document 02, No. 8). The first broken rule, 0 where the bytes are an image. The length that
-- rule 3 expects comes from the two counts alone.
unfoldable pub broken_image : List ℕ → ℕ
broken_image bytes =
    let n = nodes_in bytes in
    let m = edges_in bytes in
    let s = parsed bytes in
    cond (ltb (length bytes) 4) 1
    (cond (ltb LIMIT n || ltb LIMIT m) 2
    (cond (not (eqb (length bytes) (bytes_for (image_size n m)))) 3
    (cond (not (eqb (field_at bytes (image_size n m) (8 * length bytes - image_size n m)) 0)) 4
    (cond (not (all (record_right n) s.edges)) 5
    (cond (not (lists_right (map source_of s.edges) s.outs && lists_right (map target_of s.edges) s.ins)) 6 0)))))
