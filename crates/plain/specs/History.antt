-- Whole histories: a list of strips, compactions and image readings from a fresh store. Document 01, "Demand 3": "It is one claim about two whole lists of
-- calls, not one for each call. Every number answered in them follows from the plain lists and the calls' arguments, lengths included, never from the store's
-- counts or words; a refused call or operation leaves the plain lists and the store as they were." What a field is stands with the store's shape. A history is one on a
-- device, which readings ask for.
use Rattle.std.specs.Prelude.{ℕ, cond, List, [], ◌∷◌, eqb}
use Rattle.plain.specs.Step.{Capacities, State}
use Rattle.plain.specs.Memory.{exact}
use Rattle.plain.specs.Devices.{Device}
use Rattle.plain.specs.Reads.{Reply}
use Rattle.plain.specs.Calls.{strip, compaction, read_image, read_state, write_image, fresh_state}

-- A call of a history, with the lengths of what is lent: "strips, compaction, image reading".
pub data Call : Type 0 where
  -- a strip's words, and the length of the answer slice
  Strip : List ℕ → ℕ → Call
  -- the lengths of the node map, the edge map and the work slice
  Compaction : ℕ → ℕ → ℕ → Call
  -- an image's bytes, read into the store's own seven slices
  Reading : List ℕ → Call

-- What a call comes to: number and value, the words that each lent answer slice then starts with, in parameter order, and the store.
pub record Called : Type 0 where
  pub number : ℕ
  pub value : ℕ
  pub written : List (List ℕ)
  pub after : State

unfoldable pub call : Device → Capacities → State → Call → Called
call device caps s (Strip words room) =
    let r = strip caps s words room in
    record { number = r.number; value = r.value; written = r.words ∷ []; after = r.after }
call device caps s (Compaction node_map edge_map work) =
    let r = compaction s node_map edge_map work in
    record { number = r.number; value = r.value; written = r.node_map ∷ r.edge_map ∷ r.work ∷ []; after = r.after }
call device caps s (Reading bytes) =
    let r = read_image device (exact caps) bytes in
    record { number = r.number; value = r.value; written = []; after = cond (eqb r.number 0) (read_state bytes) s }

-- the store after a list of calls
unfoldable pub history_from : Device → Capacities → State → List Call → State
history_from device caps s [] = s
history_from device caps s (c ∷ calls) = history_from device caps (call device caps s c).after calls

-- what each call comes to
unfoldable pub called_from : Device → Capacities → State → List Call → List Called
called_from device caps s [] = []
called_from device caps s (c ∷ calls) = call device caps s c ∷ called_from device caps (call device caps s c).after calls

-- from a fresh store
unfoldable pub history : Device → Capacities → List Call → State
history device caps calls = history_from device caps fresh_state calls

-- "The closing compactions and image writings are meant where they answer 0; the only other number they can give is 2": a compaction, of the lengths of its
-- three lent slices, and the image of what it leaves, by the lengths of the writing's own work slice and of its bytes
abbrev pub closing_image : State → ℕ → ℕ → ℕ → ℕ → ℕ → Reply
closing_image s node_map edge_map work again room = write_image (compaction s node_map edge_map work).after.lists again room
