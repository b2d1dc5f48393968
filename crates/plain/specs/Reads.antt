-- What each read of a store answers, on the plain lists. Document 01, "The strip": values, numbers and order; document 02, Nos. 1 and 8.
use Rattle.std.specs.Prelude.{ℕ, zero, suc, Bool, true, false, cond, List, [], ◌∷◌, map, length, get_or, eqb, leb}
use Rattle.plain.specs.Library.{Option, none, some}
use Rattle.plain.specs.declared.TraversalDirection.{TraversalDirection}
use Rattle.plain.specs.declared.TraversalDirection.TheVariants.{Outgoing, Incoming}
use Rattle.plain.specs.declared.Answer.{Answer}
use Rattle.plain.specs.declared.EdgePayload.{EdgePayload}
use Rattle.plain.specs.declared.Record.{Record}
use Rattle.plain.specs.declared.Total.{Total}
use Rattle.plain.specs.Numbers.{NONE, done, too_short, out_of_range_node, out_of_range_edge, removed_edge}
use Rattle.plain.specs.Lists.{sum, keep, count}
use Rattle.plain.specs.Plain.{low_of, high_of, Plain, NodeSlot, EdgeSlot, no_payload, no_edge, node_bound, edge_bound, node_flags, edge_flags, node_slot, edge_slot, list_of, end_of, opposite}
use Rattle.plain.specs.Step.{State, node_missing, live_node, live_edge}

-- ---- answers: "the entries of a walk, degree or list of live slots, the payload of a node, a bound or count itself, the slot a map lookup gives or NONE, the
-- bytes of an image, the edge found, 1 or 0 for a yes or no, else 0"

abbrev pub answered : ℕ → Answer
answered value = record { number = done; value = value }

-- "1 or 0 for a yes or no"
abbrev pub yes_or_no : Bool → Answer
yes_or_no test = answered (cond test 1 0)

-- refused with a number that is not 0, and NONE; else as it goes on
abbrev pub answer_unless : ℕ → Answer → Answer
answer_unless zero answer = answer
answer_unless (suc number) answer = record { number = suc number; value = NONE }

-- What a call answers that writes into one lent slice: number and value, and the words that the slice then starts with.
pub record Reply : Type 0 where
  pub number : ℕ
  pub value : ℕ
  pub words : List ℕ

-- "A read call .. that refuses writes nothing at all."
abbrev pub reply_unless : ℕ → Reply → Reply
reply_unless zero reply = reply
reply_unless (suc number) reply = record { number = suc number; value = NONE; words = [] }

-- "a lent slice too short | 2 | length needed | everything"
abbrev pub lent : ℕ → ℕ → List ℕ → Reply
lent room value words =
    cond (leb (length words) room) (record { number = done; value = value; words = words })
    (record { number = too_short; value = length words; words = [] })

-- a list of slots into a slice of a length; the value is the number of entries
abbrev pub listing : ℕ → List ℕ → Reply
listing room slots = lent room (length slots) slots

-- ---- reads of a node

-- "A walk is the list." "Walk: 1, 5, 2."
unfoldable pub walk : TraversalDirection → Plain → ℕ → ℕ → Reply
walk d p x room = reply_unless (node_missing p x) (listing room (list_of d p x))

-- Successors and predecessors: the far ends of a walk's edges, answered like a walk.
unfoldable pub neighbors : TraversalDirection → Plain → ℕ → ℕ → Reply
neighbors d p x room = reply_unless (node_missing p x) (listing room (map (end_of (opposite d) p) (list_of d p x)))

-- "A degree its length." "Degree and node payload: 1, 5."
unfoldable pub degree : TraversalDirection → Plain → ℕ → Answer
degree d p x = answer_unless (node_missing p x) (answered (length (list_of d p x)))

abbrev pub payload_answer : Option NodeSlot → Answer
payload_answer none = record { number = out_of_range_node; value = NONE }
payload_answer (some s) = answered s.payload

-- "A payload is the one last given", of removed nodes too.
unfoldable pub node_payload : Plain → ℕ → Answer
node_payload p x = payload_answer (node_slot p x)

-- ---- reads of an edge

-- "If refused, all three are 0."
abbrev pub no_record : ℕ → ℕ → Record
no_record number value = record { number = number; value = value; source = 0; target = 0; payload = no_payload }

-- "A record's source, target and payload come beside the value 0."
abbrev pub record_of : Plain → ℕ → EdgeSlot → Record
record_of p e s = record { number = done; value = 0; source = end_of Outgoing p e; target = end_of Incoming p e; payload = s.payload }

abbrev pub record_answer : Plain → ℕ → Option EdgeSlot → Record
record_answer p e none = no_record out_of_range_edge NONE
record_answer p e (some s) = record_of p e s

-- "`Graph::edge` answers for removed edges too." "Record 1, 7."
unfoldable pub edge_record : Plain → ℕ → Record
edge_record p e = record_answer p e (edge_slot p e)

abbrev pub live_record_answer : Plain → ℕ → Option EdgeSlot → Record
live_record_answer p e none = no_record out_of_range_edge NONE
live_record_answer p e (some s) = cond s.live (record_of p e s) (no_record removed_edge NONE)

-- "the wrapper `EdgeView::edge` .. refuses them"; "live record 1, 7, 8"
unfoldable pub live_edge_record : Plain → ℕ → Record
live_edge_record p e = live_record_answer p e (edge_slot p e)

-- ---- totals

-- the payloads of a node's out-list or in-list, in its order
abbrev pub payloads_of : TraversalDirection → Plain → ℕ → List EdgePayload
payloads_of d p x = map (λ e. (get_or p.edges e no_edge).payload) (list_of d p x)

-- refused "with both sums 0"
abbrev pub no_total : ℕ → ℕ → Total
no_total number value = record { number = number; value = value; low = 0; high = 0 }

abbrev pub total_unless : ℕ → Total → Total
total_unless zero total = total
total_unless (suc number) total = no_total (suc number) NONE

-- "the total of a lot's in-list and of its out-list as a low and a high sum"; "A total refuses 1, then 5, with both sums 0; done, its value is 0"
unfoldable pub total : TraversalDirection → Plain → ℕ → Total
total d p x =
    let payloads = payloads_of d p x in
    total_unless (node_missing p x) (record { number = done; value = 0; low = sum (map low_of payloads); high = sum (map high_of payloads) })

-- ---- reads of the whole store: "The check, the yes or no reads of a store, bounds and counts: 1."

-- "Out of range is not live."
abbrev pub is_live : Option Bool → Bool
is_live none = false
is_live (some live) = live

unfoldable pub contains_node : Plain → ℕ → Answer
contains_node p x = yes_or_no (is_live (live_node (node_slot p x)))

unfoldable pub contains_edge : Plain → ℕ → Answer
contains_edge p e = yes_or_no (is_live (live_edge (edge_slot p e)))

-- how many slots are live
abbrev pub live_count : List Bool → ℕ
live_count flags = count (λ f. f) flags

abbrev pub live_nodes : Plain → ℕ
live_nodes p = live_count (node_flags p)

abbrev pub live_edges : Plain → ℕ
live_edges p = live_count (edge_flags p)

-- no live node
unfoldable pub is_empty : Plain → Answer
is_empty p = yes_or_no (eqb (live_nodes p) 0)

unfoldable pub is_compact : State → Answer
is_compact s = yes_or_no s.compact

-- "A bound or count itself."
unfoldable pub node_bound_answer : Plain → Answer
node_bound_answer p = answered (node_bound p)

unfoldable pub edge_bound_answer : Plain → Answer
edge_bound_answer p = answered (edge_bound p)

unfoldable pub node_count : Plain → Answer
node_count p = answered (live_nodes p)

unfoldable pub edge_count : Plain → Answer
edge_count p = answered (live_edges p)

-- the live slots, counted from x on
unfoldable pub live_from : ℕ → List Bool → List ℕ
live_from x [] = []
live_from x (true ∷ flags) = x ∷ live_from (suc x) flags
live_from x (false ∷ flags) = live_from (suc x) flags

abbrev pub live_slots : List Bool → List ℕ
live_slots flags = live_from 0 flags

-- "List of live nodes or edges in slot order: 1, 2."
unfoldable pub node_slots : Plain → ℕ → Reply
node_slots p room = listing room (live_slots (node_flags p))

unfoldable pub edge_slots : Plain → ℕ → Reply
edge_slots p room = listing room (live_slots (edge_flags p))

-- ---- finding

-- the first of a list, or NONE
abbrev pub first_or_none : List ℕ → ℕ
first_or_none l = get_or l 0 NONE

-- "Finding now gives the earliest in the source lot's out-list": the first entry of a's out-list whose target is b, or NONE "if there is none and only then"
abbrev pub found : Plain → ℕ → ℕ → ℕ
found p a b = first_or_none (keep (λ e. eqb (end_of Incoming p e) b) (list_of Outgoing p a))

-- "1, first 5, second 5."
unfoldable pub find : Plain → ℕ → ℕ → Answer
find p a b = answer_unless (node_missing p a) (answer_unless (node_missing p b) (answered (found p a b)))
