-- What the writers of an image's parts take, and the bits that they put.
use Rattle.std.specs.Prelude.{ℕ, ◌+◌, ◌*◌, ◌^◌, ◌≤◌, ◌<◌, ◌≡◌, true, false, List, [], ◌∷◌, ◌++◌, map, length, take, get_or}
use Rattle.plain.specs.declared.EdgePayload.{EdgePayload}
use Rattle.plain.specs.declared.EdgeRecord.{EdgeRecord as DeclaredRecord}
use Rattle.plain.specs.Numbers.{LIMIT}
use Rattle.plain.specs.Reads.{live_count, live_slots}
use Rattle.plain.specs.Compaction.{EdgeRecord, Survivors, rank}
use Rattle.plain.specs.Bits.{bits_of, row, bytes_for}
use Rattle.plain.specs.Image.{edge_bits, record_width, outs_start, image_size, count_width, node_payload_width}
use Rattle.liveness.specs.Flags.{live_flags}
use Rattle.shape.specs.Shape.{Words, edge_live}
use Rattle.shape.specs.Checked.{Checked}
use Rattle.survivors.specs.Working.{both_walks}
use Rattle.bits.specs.declared.pen.Writer.{Writer}
use Rattle.bits.specs.Penned.{Ready, fresh, reach}

-- n pieces of so many bits have room behind the pen
pub record PiecesFit (a : Writer) (step n : ℕ) : Type 0 where
  pub ready : Ready a.pen
  pub within : reach a.pen + step * n ≤ 8 * length a.bytes.now

-- ---- the counts

pub record CountsFit (a : Writer) (n m : ℕ) : Type 0 where
  pub begun : a.pen ≡ fresh
  pub room : 4 ≤ length a.bytes.now
  pub few_nodes : n ≤ LIMIT
  pub few_edges : m ≤ LIMIT

-- "node count n and edge count m (16 bits each)"
abbrev pub count_bits : ℕ → ℕ → List ℕ
count_bits n m = bits_of count_width n ++ bits_of count_width m

-- ---- the live nodes' payloads

-- the words of the live slots, in slot order
abbrev pub live_payloads : List ℕ → List ℕ → ℕ → List ℕ
live_payloads nodes live bound = map (λ x. get_or nodes x 0) (live_slots (live_flags live bound))

pub record NodesFit (a : Writer) (nodes live : List ℕ) (bound : ℕ) : Type 0 where
  pub long : bound ≤ 64 * length live
  pub there : bound ≤ length nodes
  pub room : PiecesFit a node_payload_width (live_count (live_flags live bound))

-- ---- the live edges' records

-- the bits of one record
abbrev pub record_bits : ℕ → EdgeRecord → List ℕ
record_bits w r = edge_bits w (r ∷ [])

-- the record that a program's is
abbrev pub written_record : DeclaredRecord → EdgeRecord
written_record r = record { source = r.source; target = r.target; payload = r.payload }

-- The ends of an edge, at width w, and a record's room. Both ends are put as one value.
pub record RecordFits (a : Writer) (w source target : ℕ) : Type 0 where
  pub narrow : w ≤ 16
  pub small_source : source < 2 ^ w
  pub small_target : target < 2 ^ w
  pub room : PiecesFit a (record_width w) 1

-- the record of an edge, its ends by their ranks among live nodes
abbrev pub ranked_record : List ℕ → ℕ → ℕ → ℕ → EdgePayload → EdgeRecord
ranked_record live slots source target payload =
    record { source = rank (live_flags live slots) source; target = rank (live_flags live slots) target; payload = payload }

-- a width that holds the ranks of live slots
pub record RanksFit (live : List ℕ) (slots : ℕ) (w : ℕ) : Type 0 where
  pub narrow : w ≤ 16
  pub wide : live_count (live_flags live slots) ≤ 2 ^ w

-- one live edge
pub record EdgeFits (a : Writer) (w : ℕ) (live : List ℕ) (slots source target : ℕ) : Type 0 where
  pub ranks_fit : RanksFit live slots w
  pub source_live : get_or (live_flags live slots) source false ≡ true
  pub target_live : get_or (live_flags live slots) target false ≡ true
  pub room : PiecesFit a (record_width w) 1

-- all live edges of a store
pub record EdgesFit (a : Writer) (w : ℕ) (live : List ℕ) (slots : ℕ) (v : Words) : Type 0 where
  pub ranks_fit : RanksFit live slots w
  pub long : v.counts.edges.bound ≤ 64 * length v.live_edges
  pub sources_there : v.counts.edges.bound ≤ length v.outgoing
  pub targets_there : v.counts.edges.bound ≤ length v.incoming
  pub lows_there : v.counts.edges.bound ≤ length v.lows
  pub highs_there : v.counts.edges.bound ≤ length v.highs
  pub sources_live : (e : ℕ) → get_or (edge_live v) e false ≡ true → get_or (live_flags live slots) (get_or v.outgoing e 0) false ≡ true
  pub targets_live : (e : ℕ) → get_or (edge_live v) e false ≡ true → get_or (live_flags live slots) (get_or v.incoming e 0) false ≡ true
  pub room : PiecesFit a (record_width w) (live_count (edge_live v))

-- the record of edge e, and those of all live edges in slot order
abbrev pub record_at : List ℕ → ℕ → Words → ℕ → EdgeRecord
record_at live slots v e =
    ranked_record live slots (get_or v.outgoing e 0) (get_or v.incoming e 0) (record { low = get_or v.lows e 0; high = get_or v.highs e 0 })

abbrev pub live_records : List ℕ → ℕ → Words → List EdgeRecord
live_records live slots v = map (record_at live slots v) (live_slots (edge_live v))

-- ---- counts, payloads and records

-- "n payloads (32); per edge source, target (w bits each)", and "low then high in 64 bits"
abbrev pub slot_bits : ℕ → Survivors → List ℕ
slot_bits w s = count_bits (length s.nodes) (length s.edges) ++ (row node_payload_width s.nodes ++ edge_bits w s.edges)

-- a writer with nothing written, a checked store, and room up to the lists
pub record SlotsFit (a : Writer) (w : Words) : Type 0 where
  pub begun : a.pen ≡ fresh
  pub checked : Checked w
  pub room : outs_start w.counts.nodes.live w.counts.edges.live ≤ 8 * length a.bytes.now

-- ---- the lists' entries

-- entries that are live edges, written by their ranks
pub record EntriesFit (a : Writer) (w : ℕ) (live : List ℕ) (slots : ℕ) (entries : List ℕ) : Type 0 where
  pub ranks_fit : RanksFit live slots w
  pub entries_live : (i : ℕ) → i < length entries → get_or (live_flags live slots) (get_or entries i 0) false ≡ true
  pub room : PiecesFit a w (length entries)

-- the same of a store's live edges, before the ranks are there
pub record ListsFit (a : Writer) (width : ℕ) (v : Words) (entries : List ℕ) : Type 0 where
  pub narrow : width ≤ 16
  pub long : v.counts.edges.bound ≤ 64 * length v.live_edges
  pub few : v.counts.edges.bound ≤ LIMIT
  pub right : v.counts.edges.live ≡ live_count (edge_live v)
  pub wide : live_count (edge_live v) ≤ 2 ^ width
  pub entries_live : (i : ℕ) → i < length entries → get_or (edge_live v) (get_or entries i 0) false ≡ true
  pub room : PiecesFit a width (length entries)

-- ---- the whole

-- A checked store, the lists of both directions in the work slice, and room for the image.
pub record ImageFits (w : Words) (work s : List ℕ) : Type 0 where
  pub checked : Checked w
  pub work_there : 2 * w.counts.edges.live ≤ length work
  pub listed : take (2 * w.counts.edges.live) work ≡ both_walks w
  pub room : bytes_for (image_size w.counts.nodes.live w.counts.edges.live) ≤ length s
