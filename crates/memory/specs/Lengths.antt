-- What the functions on lengths promise: the lengths and limits of the program as the lengths and the device of the definitions.
use Rattle.std.specs.Prelude.{ℕ, ◌^◌, ◌<◌, ◌≡◌, Result, Ok, Err}
use Rattle.plain.specs.declared.Answer.{Answer}
use Rattle.plain.specs.declared.refusals.Refusal.{Refusal}
use Rattle.plain.specs.Answers.{done_of}
use Rattle.plain.specs.Step.{Capacities}
use Rattle.plain.specs.Memory.{Lengths}
use Rattle.plain.specs.Numbers.{above_limit, above_skid}
use Rattle.plain.specs.Devices.{Device, box, skid, Takes}
use Rattle.plain.specs.Calls.{within}
use Rattle.memory.specs.declared.Lengths.{Lengths as Measures}
use Rattle.memory.specs.declared.Above.{Above}
use Rattle.memory.specs.declared.Above.TheVariants.{Limit, Skid as OfSkid}
use Rattle.memory.specs.declared.Limits.{Limits}
use Rattle.memory.specs.declared.Device.{Device as Chosen}
use Rattle.memory.specs.declared.Device.TheVariants.{Box, Skid}

abbrev pub caps : ℕ → ℕ → Capacities
caps nodes edges = record { nodes = nodes; edges = edges }

-- the lengths of a store's slices, in parameter order
abbrev pub lengths : ℕ → ℕ → ℕ → ℕ → ℕ → ℕ → ℕ → Lengths
lengths nodes lows highs live_nodes live_edges outgoing incoming = record {
  capacities = caps nodes lows;
  highs = highs;
  live_nodes = live_nodes;
  live_edges = live_edges;
  outgoing = outgoing;
  incoming = incoming;
}

abbrev pub measured : Measures → Lengths
measured l = lengths l.nodes l.lows l.highs l.live_nodes l.live_edges l.outgoing l.incoming

-- the number that it refuses more with
abbrev pub above_number : Above → ℕ
above_number Limit = above_limit
above_number OfSkid = above_skid

-- the device of these limits
abbrev pub limited : Limits → Device
limited l = record { limits = caps l.nodes l.edges; number = above_number l.above }

-- the device of the definitions
abbrev pub device_of : Chosen → Device
device_of Box = box
device_of Skid = skid

-- What is told where so many are asked of a device: it takes them, or its refusal, whatever were to follow.
abbrev pub Taken : Device → Capacities → Result Unit Refusal → Type 0
Taken device asked (Ok done) = Takes device asked
Taken device asked (Err refusal) = (rest : Answer) → within device asked rest ≡ done_of (Err refusal)

-- Slots of 32 bits: no length needed wraps.
pub record FewSlots (slots : ℕ) : Type 0 where
  pub few : slots < 2 ^ 32

pub record Few (nodes edges : ℕ) : Type 0 where
  pub nodes_few : FewSlots nodes
  pub edges_few : FewSlots edges
