-- A wrong program that the record of a reading rules out: one that answers, and puts in place, what it should, and writes a payload past the bound besides. No
-- must-fail edit can say it, since a word that no read looks at is caught by the record alone.
use Rattle.std.specs.Prelude.{ℕ, ◌<◌, ◌≡◌, List, get_or, set}
use Rattle.plain.specs.Library.{sym, ◌∙◌, get_or-set_same}
use Rattle.std.proofs.Common.{le_refl}
use Rattle.plain.specs.Devices.{Device}
use Rattle.shape.specs.Shape.{Words, store, node_capacity}
use Rattle.image_read.specs.Calls.{ReadOf}

-- Whatever a reading leaves, v, it is not v with another word than before at the payload of the first node slot past the bound.
pub reading_writes_no_payload_past_the_bound : (device : Device) (w v : Words) (bytes : List ℕ) (number value word : ℕ) → v.counts.nodes.bound < node_capacity v
    → (get_or w.nodes v.counts.nodes.bound 0 ≡ word → ⊥)
    → ReadOf device w bytes number value
    (store v.counts (set v.nodes v.counts.nodes.bound word) v.lows v.highs v.live_nodes v.live_edges v.outgoing v.incoming) → ⊥
reading_writes_no_payload_past_the_bound device w v bytes number value word room differs read =
    differs (sym (read.renewed.nodes.payloads v.counts.nodes.bound (le_refl v.counts.nodes.bound))
    ∙ get_or-set_same v.nodes v.counts.nodes.bound word 0 room)
