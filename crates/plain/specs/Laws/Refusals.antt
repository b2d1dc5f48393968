-- The definitions that the laws of proofs/Laws/Refusals.antt speak of.
use Rattle.std.specs.Prelude.{ℕ, ◌-◌, ◌*◌, ◌≤◌, ◌<◌, ◌≡◌, true, List, [], ◌∷◌, map, length, get_or}
use Rattle.plain.specs.Numbers.{LIMIT}
use Rattle.plain.specs.Compaction.{source_of, target_of}
use Rattle.plain.specs.Bits.{field_at, bytes_for}
use Rattle.plain.specs.Image.{nodes_in, edges_in, image_size, parsed, lists_right, broken_image}
use Rattle.plain.specs.Laws.ImageBits.{record_low, record_high}

-- the ends of the edges that bytes hold
abbrev pub sources_in : List ℕ → List ℕ
sources_in bytes = map source_of (parsed bytes).edges

abbrev pub targets_in : List ℕ → List ℕ
targets_in bytes = map target_of (parsed bytes).edges

-- and their weights
abbrev pub lows_in : List ℕ → List ℕ
lows_in bytes = map record_low (parsed bytes).edges

abbrev pub highs_in : List ℕ → List ℕ
highs_in bytes = map record_high (parsed bytes).edges

abbrev pub size_in : List ℕ → ℕ
size_in bytes = image_size (nodes_in bytes) (edges_in bytes)

abbrev pub padding_in : List ℕ → ℕ
padding_in bytes = field_at bytes (size_in bytes) (8 * length bytes - size_in bytes)

-- Rules 1 and 2 hold.
pub record Counted (bytes : List ℕ) : Type 0 where
  pub four : 4 ≤ length bytes
  pub nodes_within : nodes_in bytes ≤ LIMIT
  pub edges_within : edges_in bytes ≤ LIMIT

-- Rules 1 to 3 hold.
pub record Sized (bytes : List ℕ) : Type 0 where
  pub counted : Counted bytes
  pub length_right : length bytes ≡ bytes_for (size_in bytes)

-- Rules 1 to 4 hold.
pub record Padded (bytes : List ℕ) : Type 0 where
  pub sized : Sized bytes
  pub padding_clear : padding_in bytes ≡ 0

-- Rules 1 to 5 hold.
pub record Ended (bytes : List ℕ) : Type 0 where
  pub padded : Padded bytes
  pub sources_below : (e : ℕ) → e < edges_in bytes → get_or (sources_in bytes) e 0 < nodes_in bytes
  pub targets_below : (e : ℕ) → e < edges_in bytes → get_or (targets_in bytes) e 0 < nodes_in bytes
  pub in_order : (e : ℕ) → e < edges_in bytes → get_or (lows_in bytes) e 0 ≤ get_or (highs_in bytes) e 0

-- All six hold.
pub record Readable (bytes : List ℕ) : Type 0 where
  pub ended : Ended bytes
  pub outs_right : lists_right (sources_in bytes) (parsed bytes).outs ≡ true
  pub ins_right : lists_right (targets_in bytes) (parsed bytes).ins ≡ true

-- Each rule refuses an image, and the fifth and the sixth for each of their reasons.
pub record Refusals : Type 0 where
  -- three bytes
  pub under_four : broken_image (0 ∷ 0 ∷ 0 ∷ []) ≡ 1
  -- 32,769 edges
  pub above_limit : broken_image (0 ∷ 0 ∷ 0x80 ∷ 0x01 ∷ []) ≡ 2
  -- one edge, and no byte of it
  pub other_length : broken_image (0 ∷ 0 ∷ 0 ∷ 1 ∷ []) ≡ 3
  -- a node with two edges to itself, and the last bit set
  pub padding_set : broken_image (0 ∷ 1 ∷ 0 ∷ 2 ∷ 0 ∷ 0 ∷ 0 ∷ 0 ∷ 0 ∷ 0 ∷ 0 ∷ 0 ∷ 0 ∷ 0 ∷ 0 ∷ 0 ∷ 0 ∷ 0 ∷ 0 ∷ 0 ∷ 0 ∷ 0 ∷ 0 ∷ 0 ∷ 0x51 ∷ []) ≡ 4
  -- an edge, and no node
  pub end_not_below : broken_image (0 ∷ 0 ∷ 0 ∷ 1 ∷ 0 ∷ 0 ∷ 0 ∷ 0 ∷ 0 ∷ 0 ∷ 0 ∷ 0 ∷ []) ≡ 5
  -- a node with an edge to itself whose low is 1 and whose high is 0
  pub low_above_high : broken_image (0 ∷ 1 ∷ 0 ∷ 1 ∷ 0 ∷ 0 ∷ 0 ∷ 0 ∷ 0 ∷ 0 ∷ 0 ∷ 1 ∷ 0 ∷ 0 ∷ 0 ∷ 0 ∷ []) ≡ 5
  -- a node with three edges to itself, and 0, 1, 3 for its out-list
  pub entry_not_below : broken_image
      (0 ∷ 1 ∷ 0 ∷ 3 ∷ 0 ∷ 0 ∷ 0 ∷ 0 ∷ 0 ∷ 0 ∷ 0 ∷ 0 ∷ 0 ∷ 0 ∷ 0 ∷ 0 ∷ 0 ∷ 0 ∷ 0 ∷ 0 ∷ 0 ∷ 0 ∷ 0 ∷ 0 ∷ 0 ∷ 0 ∷ 0 ∷ 0 ∷ 0 ∷ 0 ∷ 0 ∷ 0 ∷ 0x1c ∷ 0x60 ∷ []) ≡ 6
  -- a node with two edges to itself, and 0, 0 for its out-list
  pub entry_repeated : broken_image (0 ∷ 1 ∷ 0 ∷ 2 ∷ 0 ∷ 0 ∷ 0 ∷ 0 ∷ 0 ∷ 0 ∷ 0 ∷ 0 ∷ 0 ∷ 0 ∷ 0 ∷ 0 ∷ 0 ∷ 0 ∷ 0 ∷ 0 ∷ 0 ∷ 0 ∷ 0 ∷ 0 ∷ 0x10 ∷ []) ≡ 6
  -- two nodes with an edge to itself each, and the edges at the other's out-list
  pub entry_astray : broken_image
      (0 ∷ 2 ∷ 0 ∷ 2 ∷ 0 ∷ 0 ∷ 0 ∷ 0 ∷ 0 ∷ 0 ∷ 0 ∷ 0 ∷ 0 ∷ 0 ∷ 0 ∷ 0 ∷ 0 ∷ 0 ∷ 0 ∷ 0 ∷ 0x30 ∷ 0 ∷ 0 ∷ 0 ∷ 0 ∷ 0 ∷ 0 ∷ 0 ∷ 0x09 ∷ []) ≡ 6
  -- and with the edges at their own it is an image
  pub all_right : broken_image
      (0 ∷ 2 ∷ 0 ∷ 2 ∷ 0 ∷ 0 ∷ 0 ∷ 0 ∷ 0 ∷ 0 ∷ 0 ∷ 0 ∷ 0 ∷ 0 ∷ 0 ∷ 0 ∷ 0 ∷ 0 ∷ 0 ∷ 0 ∷ 0x30 ∷ 0 ∷ 0 ∷ 0 ∷ 0 ∷ 0 ∷ 0 ∷ 0 ∷ 0x05 ∷ []) ≡ 0
