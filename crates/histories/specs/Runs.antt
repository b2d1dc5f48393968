-- Runs: calls made one after the other on one store's memory, from a fresh store on, from an image read into any memory, or from any store that passes the check.
-- What a call came to is what its entry's contract says and nothing else: the records `FreshOf`, `StripOf`, `CompactOf` and `ReadOf` are those that the contracts
-- cite. A run is one on a device, a box or the skid: the stores are made, and images read, by the entries of that device.
use Rattle.std.specs.Prelude.{ℕ, List, [], ◌∷◌, length}
use Rattle.plain.specs.Step.{State}
use Rattle.plain.specs.Devices.{Device, Takes}
use Rattle.plain.specs.Calls.{fresh_state, read_state}
use Rattle.plain.specs.History.{Call, Strip, Compaction, Reading}
use Rattle.shape.specs.Shape.{Words, capacities, shape_of}
use Rattle.shape.specs.Checked.{Checked}
use Rattle.shape.specs.Steps.{state_of}
use Rattle.strip.specs.Fresh.{FreshOf}
use Rattle.strip.specs.Strip.{StripOf}
use Rattle.compact.specs.Calls.{CompactOf}
use Rattle.image_read.specs.Calls.{ReadOf}

-- A call as it is made: a call of a history, and what the slices hold that are lent for its answers, which is arbitrary.
pub data Request : Type 0 where
  -- a strip's words, and the answer slice
  StripInto : List ℕ → List ℕ → Request
  -- the node map, the edge map and the work slice
  CompactionInto : List ℕ → List ℕ → List ℕ → Request
  -- an image's bytes, read into the store's own seven slices
  ReadingOf : List ℕ → Request

-- the call of a history: "the calls' arguments, lengths included"
abbrev pub call_of : Request → Call
call_of (StripInto words answers) = Strip words (length answers)
call_of (CompactionInto node_map edge_map work) = Compaction (length node_map) (length edge_map) (length work)
call_of (ReadingOf bytes) = Reading bytes

-- the slices lent for answers, in parameter order
abbrev pub lent_to : Request → List (List ℕ)
lent_to (StripInto words answers) = answers ∷ []
lent_to (CompactionInto node_map edge_map work) = node_map ∷ edge_map ∷ work ∷ []
lent_to (ReadingOf bytes) = []

-- What a caller sees of a call: number and value, and what the slices lent for answers hold then.
pub record Heard : Type 0 where
  pub number : ℕ
  pub value : ℕ
  pub lent : List (List ℕ)

-- What a call came to: its answer, and the store's counts and words then.
pub record Turn : Type 0 where
  pub heard : Heard
  pub store : Words

-- A call on store w came to this.
pub data Turned (device : Device) (w : Words) : Request → Turn → Type 0 where
  stripped : {words entry exit : List ℕ} {number value : ℕ} {v : Words} → StripOf w words entry number value v exit
      → Turned device w (StripInto words entry) (record { heard = record { number = number; value = value; lent = exit ∷ [] }; store = v })
  compacted : {node_map edge_map work node-map' edge-map' work' : List ℕ} {number value : ℕ} {v : Words}
      → CompactOf w node_map edge_map work number value v node-map' edge-map' work'
      → Turned device w (CompactionInto node_map edge_map work)
      (record { heard = record { number = number; value = value; lent = node-map' ∷ edge-map' ∷ work' ∷ [] }; store = v })
  read : {bytes : List ℕ} {number value : ℕ} {v : Words} → ReadOf device w bytes number value v
      → Turned device w (ReadingOf bytes) (record { heard = record { number = number; value = value; lent = [] }; store = v })

-- Calls on store w came to these, each on the store that the one before left.
pub data Turns (device : Device) : Words → List Request → List Turn → Type 0 where
  no_turn : {w : Words} → Turns device w [] []
  turn : {w : Words} {request : Request} {t : Turn} {requests : List Request} {turns : List Turn} → Turned device w request t
      → Turns device t.store requests turns → Turns device w (request ∷ requests) (t ∷ turns)

-- What a run starts from.
pub data Origin : Type 0 where
  -- a fresh store
  FreshStore : Origin
  -- an image's bytes, read into memory that may hold anything
  ImageOf : List ℕ → Origin
  -- a store from elsewhere that passes the check: its plain lists, and whether it is compact
  StoreOf : State → Origin

-- the state that it has then: of an image by the bytes alone, never by what the memory held
abbrev pub first_state : Origin → State
first_state FreshStore = fresh_state
first_state (ImageOf bytes) = read_state bytes
first_state (StoreOf s) = s

-- Store w is made so on the device: the entry answered 0, or it passes the check "in a memory that is never larger" than the device takes. A box takes every store that
-- passes the check (law `made_on_a_box`).
pub data Made (device : Device) (w : Words) : Origin → Type 0 where
  made_fresh : FreshOf device w 0 0 → Made device w FreshStore
  made_by_reading : {memory : Words} {bytes : List ℕ} {value : ℕ} → ReadOf device memory bytes 0 value w → Made device w (ImageOf bytes)
  made_elsewhere : Checked w → Takes device (capacities w) → Made device w (StoreOf (state_of (shape_of w)))

-- A run: a store w is there, and calls on it come to these.
pub record Ran (device : Device) (origin : Origin) (w : Words) (requests : List Request) (turns : List Turn) : Type 0 where
  pub made : Made device w origin
  pub went : Turns device w requests turns

-- the store in the end
abbrev pub final : Words → List Turn → Words
final w [] = w
final w (t ∷ turns) = final t.store turns
