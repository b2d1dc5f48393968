-- The definitions that the laws of proofs/Laws/Histories.antt speak of.
use Rattle.std.specs.Prelude.{ℕ, suc, ◌<◌, ◌≡◌, cond, List, [], ◌∷◌}
use Rattle.plain.specs.Numbers.{NONE}
use Rattle.plain.specs.Step.{Capacities, State}
use Rattle.plain.specs.Reads.{Reply, listing}
use Rattle.plain.specs.Compaction.{survivors}
use Rattle.plain.specs.Image.{image, broken_image, nodes_in, edges_in}
use Rattle.plain.specs.Memory.{exact}
use Rattle.plain.specs.Devices.{Device, box, Takes}
use Rattle.plain.specs.Calls.{reading_slices}
use Rattle.plain.specs.History.{Call, Strip, Compaction, Reading}
use Rattle.plain.specs.Laws.Stepping.{Words}
use Rattle.plain.specs.Laws.CallCases.{LongEnough, FirstShort}

-- capacities that a box takes
abbrev pub Within : Capacities → Type 0
Within caps = Takes box caps

-- a call whose words are words
abbrev pub Legal : Call → Type 0
Legal (Strip words room) = Words words
Legal (Compaction node_map edge_map work) = Unit
Legal (Reading bytes) = Unit

pub data AllLegal : List Call → Type 0 where
  no_call : AllLegal []
  one_call : {c : Call} {calls : List Call} → Legal c → AllLegal calls → AllLegal (c ∷ calls)

-- reading into a store's own memory: unreadable, more than the device takes, too short or done
pub data ReadCase (device : Device) (caps : Capacities) (bytes : List ℕ) : ℕ → ℕ → Type 0 where
  unreadable : {rule : ℕ} → broken_image bytes ≡ suc rule → ReadCase device caps bytes 12 (suc rule)
  many_nodes : broken_image bytes ≡ 0 → device.limits.nodes < nodes_in bytes → ReadCase device caps bytes device.number (nodes_in bytes)
  many_edges : broken_image bytes ≡ 0 → device.limits.edges < edges_in bytes → ReadCase device caps bytes device.number (edges_in bytes)
  read_too_short : {n : ℕ} → broken_image bytes ≡ 0 → FirstShort (reading_slices (nodes_in bytes) (edges_in bytes) (exact caps)) n → ReadCase device caps bytes 2 n
  read_fits : broken_image bytes ≡ 0 → LongEnough (reading_slices (nodes_in bytes) (edges_in bytes) (exact caps)) → ReadCase device caps bytes 0 0

-- What writing answered before request 2, where the store was compact: "Only compact stores have one. Writing: 1, 11, 2."
unfoldable pub write_compact_image : State → ℕ → Reply
write_compact_image s room = cond s.compact (listing room (image (survivors s.lists))) (record { number = 11; value = NONE; words = [] })
