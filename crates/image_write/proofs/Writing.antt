-- A turn of each writer's loop has what it needs: the piece that comes next has room, and its value fits its width.
use Rattle.std.specs.Prelude.{ℕ, ◌+◌, ◌*◌, ◌^◌, ◌≤◌, ◌<◌, ◌≡◌, true, false, List, [], ◌∷◌, ◌++◌, length, get_or}
use Rattle.plain.specs.Library.{ap, ◌∙◌, append-nil, append_assoc, lt_of_lt_of_le, arith}
use native.Mathlib.Nat.{mul-one}
use lib.Pow.{pow_mono, pow-add}
use lib.Arith.{digits_lt}
use Rattle.plain.specs.declared.EdgePayload.{EdgePayload}
use Rattle.plain.specs.Compaction.{EdgeRecord, rank}
use Rattle.plain.specs.Bits.{bits_of}
use Rattle.plain.specs.Image.{edge_bits, record_width, node_payload_width, weight_width, count_width}
use Rattle.plain.proofs.Laws.Bits.{length_bits_of}
use Rattle.plain.proofs.Laws.ImageBits.{length_edge_bits}
use Rattle.plain.proofs.Laws.Rank.{rank_live, live_below}
use Rattle.liveness.specs.Flags.{live_flags}
use Rattle.liveness.specs.Laws.Flags.{length_flags}
use Rattle.shape.specs.Shape.{Words, edge_live}
use Rattle.bits.specs.declared.pen.Writer.{Writer}
use Rattle.bits.specs.Penned.{Puts, Written, reach}
use Rattle.bits.specs.Laws.Penned.{written_then, bits_behind}
use Rattle.shape.specs.Stores.{EdgeThere}
use Rattle.image_write.specs.Writing.{PiecesFit, CountsFit, NodesFit, RecordFits, RanksFit, EdgeFits, EdgesFit, EntriesFit, record_bits, record_at, count_bits}
use Rattle.image_write.proofs.Strung.{StrungTo, StrungLive, entry_room, live_next, live_room}

-- a piece of at most 32 bits that has room
piece_room : {a : Writer} {w v : ℕ} → w ≤ 32 → v < 2 ^ w → PiecesFit a w 1 → Puts a.bytes.now a.pen w v
piece_room narrow fits room = record { ready = room.ready; narrow = narrow; fits = fits; within = omega (arith, room.within) }

-- two values of w bits as one
pair_small : (w x y : ℕ) → x < 2 ^ w → y < 2 ^ w → x * 2 ^ w + y < 2 ^ (2 * w)
pair_small w x y hx hy = let e : 2 * w ≡ w + w = omega arith in rw (e, pow-add) (digits_lt hx hy)

pair_bits : (w x y : ℕ) → y < 2 ^ w → bits_of (2 * w) (x * 2 ^ w + y) ≡ bits_of w x ++ bits_of w y
pair_bits w x y h = let e : 2 * w ≡ w + w = omega arith in rw e (bits_behind w w x y h)

-- ---- the counts

-- both as one value
module _ {a : Writer} {n m : ℕ} (h : CountsFit a n m) where
  pub counts_put : Puts a.bytes.now a.pen 32 (n * 2 ^ count_width + m)
  counts_put =
      let few = h.few_nodes in
      let few_too = h.few_edges in
      let place : reach a.pen ≡ 0 = ap reach h.begun in
      record {
        ready = rw h.begun (record { few = omega arith; small = omega arith });
        narrow = omega arith;
        fits = pair_small count_width n m (omega arith) (omega arith);
        within = omega (arith, h.room);
      }

  pub counts_written : {b : Writer} → Written a (bits_of 32 (n * 2 ^ count_width + m)) b → Written a (count_bits n m) b
  counts_written k = let few = h.few_edges in rw (pair_bits count_width n m (omega arith)) at k

-- ---- the live nodes' payloads

-- the bits of a node's payload
abbrev pub node_bits : List ℕ → ℕ → List ℕ
node_bits nodes x = bits_of node_payload_width (get_or nodes x 0)

module _ {a b : Writer} {nodes live : List ℕ} {bound x : ℕ} {past rest later : List ℕ} (h : NodesFit a nodes live bound)
    (k : StrungLive (live_flags live bound) a node_payload_width (node_bits nodes) past rest b) (next : rest ≡ x ∷ later) where
  -- the payload that comes next has room
  pub node_room : {v : ℕ} → v < 2 ^ 32 → Puts b.bytes.now b.pen node_payload_width v
  node_room fits = piece_room (omega arith) fits (live_room k next h.room)

  -- it is a node
  pub node_there : x < length nodes
  node_there = omega (arith, live_below (live_flags live bound) x (live_next k next), length_flags live bound, h.there)

-- ---- the live edges' records

module _ {a : Writer} {w source target : ℕ} (h : RecordFits a w source target) where
  -- both ends, as one value
  pub ends_small : source * 2 ^ w + target < 2 ^ 32
  ends_small = let l : 2 * w ≤ 32 = omega (arith, h.narrow) in lt_of_lt_of_le (pair_small w source target h.small_source h.small_target) (pow_mono l)

  pub ends_put : Puts a.bytes.now a.pen (2 * w) (source * 2 ^ w + target)
  ends_put = record {
    ready = h.room.ready;
    narrow = omega (arith, h.narrow);
    fits = pair_small w source target h.small_source h.small_target;
    within = omega (arith, h.room.within);
  }

  module _ {b : Writer} (k : Written a (bits_of (2 * w) (source * 2 ^ w + target)) b) where
    -- its low has room then
    pub low_put : {low : ℕ} → low < 2 ^ 32 → Puts b.bytes.now b.pen weight_width low
    low_put fits = record {
      ready = k.penned.ready;
      narrow = omega arith;
      fits = fits;
      within = omega (arith, k.penned.next, k.penned.long, h.room.within, length_bits_of (2 * w) (source * 2 ^ w + target));
    }

    -- and then its high
    pub high_put : {c : Writer} (low : ℕ) {high : ℕ} → Written b (bits_of weight_width low) c → high < 2 ^ 32 → Puts c.bytes.now c.pen weight_width high
    high_put low l fits = record {
      ready = l.penned.ready;
      narrow = omega arith;
      fits = fits;
      within = omega (arith, k.penned.next, k.penned.long, l.penned.next, l.penned.long, h.room.within, length_bits_of (2 * w) (source * 2 ^ w + target), length_bits_of weight_width low);
    }

    -- an edge's ends and its payload are its record
    pub record_written : {c d : Writer} (payload : EdgePayload) → Written b (bits_of weight_width payload.low) c
        → Written c (bits_of weight_width payload.high) d → Written a (record_bits w (record { source = source; target = target; payload = payload })) d
    unfolding edge_bits
    record_written payload l m = rw (append-nil, ← append_assoc, ← pair_bits w source target h.small_target) (written_then k (written_then l m))

-- the bits of the record of edge e
abbrev pub piece : ℕ → List ℕ → ℕ → Words → ℕ → List ℕ
piece width live slots v e = record_bits width (record_at live slots v e)

-- as many bits as a record takes
pub length_record_bits : (w : ℕ) (e : EdgeRecord) → length (record_bits w e) ≡ record_width w
length_record_bits w e = length_edge_bits w (e ∷ []) ∙ mul-one (record_width w)

-- a live slot is below the bound, and its rank is below 2 ^ w
pub rank_there : {live : List ℕ} {slots : ℕ} {w : ℕ} → RanksFit live slots w → (x : ℕ) → get_or (live_flags live slots) x false ≡ true
    → (x < slots) × (rank (live_flags live slots) x < 2 ^ w)
rank_there {live} {slots} h x l = (
  omega (arith, live_below (live_flags live slots) x l, length_flags live slots),
  omega (arith, rank_live (live_flags live slots) x l, h.wide),
)

-- ranks that were computed fit a record
pub record_fits : {a : Writer} {w : ℕ} {live : List ℕ} {slots source target x y : ℕ} → EdgeFits a w live slots source target
    → x ≡ rank (live_flags live slots) source → y ≡ rank (live_flags live slots) target → RecordFits a w x y
record_fits {source = source} {target} h p q = record {
  narrow = h.ranks_fit.narrow;
  small_source = rw p (rank_there h.ranks_fit source h.source_live).1;
  small_target = rw q (rank_there h.ranks_fit target h.target_live).1;
  room = h.room;
}

module _ {a b : Writer} {w : ℕ} {live : List ℕ} {slots : ℕ} {v : Words} {e : ℕ} {past rest later : List ℕ} (h : EdgesFit a w live slots v)
    (k : StrungLive (edge_live v) a (record_width w) (piece w live slots v) past rest b) (next : rest ≡ e ∷ later) where
  -- the record that comes next has room
  pub edge_room : EdgeFits b w live slots (get_or v.outgoing e 0) (get_or v.incoming e 0)
  edge_room = record {
    ranks_fit = h.ranks_fit;
    source_live = h.sources_live e (live_next k next);
    target_live = h.targets_live e (live_next k next);
    room = live_room k next h.room;
  }

  -- it is an edge
  pub edge_there : EdgeThere v e
  edge_there =
      let low = live_below (edge_live v) e (live_next k next) in
      let size = length_flags v.live_edges v.counts.edges.bound in
      record {
        source_there = omega (arith, low, size, h.sources_there);
        target_there = omega (arith, low, size, h.targets_there);
        low_there = omega (arith, low, size, h.lows_there);
        high_there = omega (arith, low, size, h.highs_there);
      }

-- ---- the lists' entries

-- the bits of an entry
abbrev pub entry_bits : ℕ → List ℕ → ℕ → ℕ → List ℕ
entry_bits w live slots e = bits_of w (rank (live_flags live slots) e)

-- the entry that comes next has room, and its rank fits
pub next_entry : {a b : Writer} {w : ℕ} {live : List ℕ} {slots : ℕ} {entries : List ℕ} {i r : ℕ} → EntriesFit a w live slots entries
    → StrungTo a w (entry_bits w live slots) entries i b → i < length entries → r ≡ rank (live_flags live slots) (get_or entries i 0) → Puts b.bytes.now b.pen w r
next_entry {entries = entries} {i} h k l is =
    piece_room (omega (arith, h.ranks_fit.narrow)) (rw is (rank_there h.ranks_fit (get_or entries i 0) (h.entries_live i l)).1) (entry_room k h.room l)
