-- The definitions that the laws of proofs/Laws/ImageBits.antt speak of.
use Rattle.std.specs.Prelude.{ℕ, ◌+◌, ◌*◌, List, length}
use Rattle.plain.specs.Lists.{joined}
use Rattle.plain.specs.Compaction.{EdgeRecord, Survivors}
use Rattle.plain.specs.Bits.{bits_of, row}
use Rattle.plain.specs.Image.{count_width, node_payload_width, edge_bits, record_width, nodes_start, edges_start}
use Rattle.plain.specs.Laws.Packing.{Stands}

-- the weights of an edge
abbrev pub record_low : EdgeRecord → ℕ
record_low r = r.payload.low

abbrev pub record_high : EdgeRecord → ℕ
record_high r = r.payload.high

-- where the lists of n nodes and m edges start, at widths w and v
abbrev pub outs_from : ℕ → ℕ → ℕ → ℕ
outs_from w n m = edges_start n + record_width w * m

abbrev pub ins_from : ℕ → ℕ → ℕ → ℕ → ℕ
ins_from w v n m = outs_from w n m + v * m

-- Each part of the image's bits stands at its place.
pub record Parts (bytes : List ℕ) (w v : ℕ) (s : Survivors) : Type 0 where
  pub node_count : Stands bytes 0 (bits_of count_width (length s.nodes))
  pub edge_count : Stands bytes count_width (bits_of count_width (length s.edges))
  pub nodes : Stands bytes nodes_start (row node_payload_width s.nodes)
  pub edges : Stands bytes (edges_start (length s.nodes)) (edge_bits w s.edges)
  pub outs : Stands bytes (outs_from w (length s.nodes) (length s.edges)) (row v (joined s.outs))
  pub ins : Stands bytes (ins_from w v (length s.nodes) (length s.edges)) (row v (joined s.ins))
