-- What it means that a run follows its history: each answer and each store in it is the one that the definitions give for the calls alone.
use Rattle.std.specs.Prelude.{ℕ, ◌*◌, ◌%◌, ◌<◌, ◌≡◌, List, [], ◌∷◌, map, length}
use Rattle.plain.specs.Lists.{written}
use Rattle.plain.specs.Plain.{Plain, node_bound, edge_bound}
use Rattle.plain.specs.Operations.{operation_words, operations}
use Rattle.plain.specs.Step.{Capacities, State}
use Rattle.plain.specs.Devices.{Device}
use Rattle.plain.specs.Reads.{live_edges}
use Rattle.plain.specs.Image.{broken_image, nodes_in, edges_in}
use Rattle.plain.specs.History.{Call, Strip, Compaction, Reading, Called, call, called_from, history_from}
use Rattle.shape.specs.Shape.{Words, shape_of}
use Rattle.shape.specs.Checked.{Checked}
use Rattle.shape.specs.Steps.{state_of}
use Rattle.strip.specs.Strip.{Steps}
use Rattle.histories.specs.Runs.{Request, StripInto, CompactionInto, ReadingOf, call_of, lent_to, Heard, Turn, final}

-- the slices lent to a call, each starting with the words that it writes: "words past an answer's end keep their content"
abbrev pub written_each : List (List ℕ) → List (List ℕ) → List (List ℕ)
written_each [] slices = slices
written_each (words ∷ more) [] = []
written_each (words ∷ more) (slice ∷ slices) = written words slice ∷ written_each more slices

-- what is heard of a request whose call comes to c
abbrev pub told : Called → Request → Heard
told c request = record { number = c.number; value = c.value; lent = written_each c.written (lent_to request) }

-- what is heard of requests, call by call
abbrev pub all_told : List Called → List Request → List Heard
all_told [] requests = []
all_told (c ∷ called) [] = []
all_told (c ∷ called) (request ∷ requests) = told c request ∷ all_told called requests

-- The numbers that a call of a history can answer where it meets the plain lists p: never 1, "words are no store", and 2 never for want of words in the store's own
-- memory, but only where the answer slice, a map or the work slice is too short or an image has more nodes or edges than there is capacity. The device's number is
-- answered only where an image has more than the device takes; a box never answers 13 (law `never_13`).
pub data CanAnswer (device : Device) (caps : Capacities) (p : Plain) : Call → ℕ → Type 0 where
  strip_done : {words : List ℕ} {room : ℕ} → CanAnswer device caps p (Strip words room) 0
  strip_ragged : {words : List ℕ} {room : ℕ} → (length words % operation_words ≡ 0 → ⊥) → CanAnswer device caps p (Strip words room) 3
  strip_short : {words : List ℕ} {room : ℕ} → room < 2 * length (operations words) → CanAnswer device caps p (Strip words room) 2
  compaction_done : {node_map edge_map work : ℕ} → CanAnswer device caps p (Compaction node_map edge_map work) 0
  -- "a node map and an edge map, as long as the bounds before, and a work slice of twice the live edge count"
  compaction_nodes : {node_map edge_map work : ℕ} → node_map < node_bound p → CanAnswer device caps p (Compaction node_map edge_map work) 2
  compaction_edges : {node_map edge_map work : ℕ} → edge_map < edge_bound p → CanAnswer device caps p (Compaction node_map edge_map work) 2
  compaction_work : {node_map edge_map work : ℕ} → work < 2 * live_edges p → CanAnswer device caps p (Compaction node_map edge_map work) 2
  reading_done : {bytes : List ℕ} → CanAnswer device caps p (Reading bytes) 0
  reading_broken : {bytes : List ℕ} → (broken_image bytes ≡ 0 → ⊥) → CanAnswer device caps p (Reading bytes) 12
  -- "right after 12 when an image does"
  reading_many_nodes : {bytes : List ℕ} → broken_image bytes ≡ 0 → device.limits.nodes < nodes_in bytes → CanAnswer device caps p (Reading bytes) device.number
  reading_many_edges : {bytes : List ℕ} → broken_image bytes ≡ 0 → device.limits.edges < edges_in bytes → CanAnswer device caps p (Reading bytes) device.number
  reading_nodes : {bytes : List ℕ} → caps.nodes < nodes_in bytes → CanAnswer device caps p (Reading bytes) 2
  reading_edges : {bytes : List ℕ} → caps.edges < edges_in bytes → CanAnswer device caps p (Reading bytes) 2

-- the numbers of calls made one after the other, the first in state s: each meets the lists that the one before left
pub data EachCanAnswer (device : Device) (caps : Capacities) : State → List Call → List ℕ → Type 0 where
  no_answer : {s : State} → EachCanAnswer device caps s [] []
  one_answer : {s : State} {c : Call} {number : ℕ} {calls : List Call} {numbers : List ℕ} → CanAnswer device caps s.lists c number
      → EachCanAnswer device caps (call device caps s c).after calls numbers → EachCanAnswer device caps s (c ∷ calls) (number ∷ numbers)

-- the operations of a strip, done in turn from store w to store v; the other calls have none
abbrev pub OperationsDone : Words → Request → Words → Type 0
OperationsDone w (StripInto words answers) v = Steps w (operations words) v
OperationsDone w (CompactionInto node_map edge_map work) v = Unit
OperationsDone w (ReadingOf bytes) v = Unit

-- "A refused call or operation leaves the plain lists and the store as they were."
pub record RefusalKeeps (w : Words) (request : Request) (t : Turn) : Type 0 where
  -- a refused call: every word and every count
  pub call : (t.heard.number ≡ 0 → ⊥) → t.store ≡ w
  -- a refused operation of a strip that is done: likewise, `refused_keeps` of each of the `Steps`
  pub operations : t.heard.number ≡ 0 → OperationsDone w request t.store

pub data RefusalsKeep : Words → List Request → List Turn → Type 0 where
  no_refusal : {w : Words} → RefusalsKeep w [] []
  one_kept : {w : Words} {request : Request} {t : Turn} {requests : List Request} {turns : List Turn} → RefusalKeeps w request t
      → RefusalsKeep t.store requests turns → RefusalsKeep w (request ∷ requests) (t ∷ turns)

-- Requests to a store w of capacities caps and state s on a device, and what they came to, follow the history from s on.
pub record Follows (device : Device) (caps : Capacities) (s : State) (w : Words) (requests : List Request) (turns : List Turn) : Type 0 where
  -- "Every number answered in them follows from the plain lists and the calls' arguments, lengths included, never from the store's counts or words": number, value
  -- and the slices lent for answers
  pub answers : map (λ (t : Turn). t.heard) turns ≡ all_told (called_from device caps s (map call_of requests)) requests
  pub numbers : EachCanAnswer device caps s (map call_of requests) (map (λ (t : Turn). t.heard.number) turns)
  -- the plain lists after each call, and whether the store is compact then
  pub states : map (λ (t : Turn). state_of (shape_of t.store)) turns ≡ map (λ (c : Called). c.after) (called_from device caps s (map call_of requests))
  pub ends : state_of (shape_of (final w turns)) ≡ history_from device caps s (map call_of requests)
  pub refusals : RefusalsKeep w requests turns
  -- in the end it is a store
  pub checked : Checked (final w turns)
