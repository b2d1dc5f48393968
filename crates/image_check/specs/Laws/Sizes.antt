-- The sizes of an image's parts are small numbers: what computing its places asks.
use Rattle.std.specs.Prelude.{ℕ, ◌+◌, ◌*◌, ◌≤◌}
use Rattle.plain.specs.Library.{arith}
use Rattle.std.proofs.Common.{mul-le-mul_right}
use Rattle.plain.specs.Bits.{least_width}
use Rattle.plain.specs.Image.{edge_payload_width, record_width}
use Rattle.plain.proofs.Laws.Width.{width_most}

-- the edges' records take at most 64 bits and a payload each
pub records_small : (n m : ℕ) → record_width (least_width n) * m ≤ (64 + edge_payload_width) * m
records_small n m = mul-le-mul_right m (omega (arith, width_most n))

-- a direction's entries take at most 32 bits each
pub entries_small : (m : ℕ) → least_width m * m ≤ 32 * m
entries_small m = mul-le-mul_right m (width_most m)
