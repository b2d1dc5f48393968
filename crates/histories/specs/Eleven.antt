-- NUMBER 11 NEVER OCCURS. Document 02, No. 2: "Number 11 never occurs any more; show that." One theorem, `never_eleven`, with a field for each public call of
-- docs/ENTRIES.md and one for the operations of a strip, each from the record that the entry's contract cites, so of every answer that the call can give.
use Rattle.std.specs.Prelude.{ℕ, zero, suc, ◌*◌, ◌%◌, ◌<◌, ◌≡◌, refl, Bool, true, false, List, [], ◌∷◌, map, length, get_or, drop, eqb, leb, ltb}
use Rattle.plain.specs.Library.{ap, ◌∙◌, ⊎_elim, Option, none, some, get_or-append, arith}
use Rattle.plain.specs.declared.TraversalDirection.{TraversalDirection}
use Rattle.plain.specs.declared.TraversalDirection.TheVariants.{Outgoing, Incoming}
use Rattle.plain.specs.declared.Answer.{Answer}
use Rattle.plain.specs.declared.Record.{Record}
use Rattle.plain.specs.declared.Total.{Total}
use Rattle.plain.specs.declared.EdgePayload.{EdgePayload}
use Rattle.plain.specs.declared.Operation.{Operation}
use Rattle.plain.specs.declared.Operation.TheVariants.{AddNode, AddEdge, RemoveEdge, RemoveNode, Redirect, Move, SetPayload, Unknown}
use Rattle.plain.specs.Lists.{written}
use Rattle.plain.specs.Plain.{Plain, NodeSlot, EdgeSlot, ordered, node_bound as nodes_bound, edge_bound as edges_bound, node_flags, edge_flags, node_slot, edge_slot, end_of, list_of, opposite}
use Rattle.plain.specs.Operations.{operation_words, operations}
use Rattle.plain.specs.Step.{Capacities, State, Outcome, unless, slot_fault, live_node, live_edge, node_fault, node_missing, edge_fault, edge_missing, room_fault, self_fault, payload_fault, removing, redirecting, moving, step, stepped, answers}
use Rattle.plain.specs.Reads.{Reply, answer_unless, reply_unless, lent, listing, live_slots, payload_answer, record_answer, live_record_answer, total_unless, node_bound_answer, edge_bound_answer, node_slots, edge_slots, walk as walk_of, neighbors as neighbors_of, degree as degree_of, total as total_of, node_payload as payload_of, edge_record as record_of, live_edge_record as live_record_of, contains_node as Node_in, contains_edge as edge_in, is_empty as empty_answer, is_compact as compact_answer, node_count as nodes_counted, edge_count as edges_counted, find as find_of}
use Rattle.plain.specs.Renumbering.{composed, lookup_answer, compose as compose_of, is_identity as identity_answer}
use Rattle.plain.specs.Memory.{Lengths, first_short, other_slices}
use Rattle.plain.specs.Devices.{Device, box, skid}
use Rattle.plain.specs.Calls.{judged, judged_reply, judged_record, judged_total, Stripped, judged_strip, short_answer, within, Compacted, compacting, compaction, compaction_slices, judged_compaction, readable, reading_slices, asked, reading, check as check_answer, strip as strip_of, fresh as fresh_of, read_image as Read_of}
use Rattle.plain.specs.Joining.{Sizes, sizes, MapRooms, map_slices, exceeds, join_answer, join as join_of}
use Rattle.plain.specs.Image.{broken_image, nodes_in, edges_in}
use Rattle.plain.proofs.Laws.Booleans.{by_test}
use Rattle.plain.proofs.Laws.Histories.{write_number}
use Rattle.plain.proofs.Laws.Strips.{length_answers}
use Rattle.renumbering.specs.Calls.{Lookup, Compose, IsIdentity}
use Rattle.shape.specs.Shape.{Words, capacities, lengths_of, node_capacity, shape_of, lists}
use Rattle.shape.specs.Rules.{broken}
use Rattle.shape.specs.Steps.{state_of}
use Rattle.strip.specs.Fresh.{FreshOf}
use Rattle.strip.specs.Strip.{StripOf}
use Rattle.view.specs.Calls.{Answered, Recorded, Totalled, Replied}
use Rattle.compact.specs.Calls.{CompactOf}
use Rattle.join.specs.Calls.{LentMaps, JoinOf}
use Rattle.image_write.specs.Calls.{WriteOf}
use Rattle.image_read.specs.Calls.{ReadOf}
use Rattle.nearest.specs.Chains.{nearest as nearest_chain}
use Rattle.nearest.specs.Calls.{Searched, judged_search, search_unless, work_needed, chain_answer, nearest_lot, NearestOf}

-- a number that is not 11
abbrev pub Other : ℕ → Type 0
Other number = number ≡ 11 → ⊥

-- what is done with 0
zero_other : Other 0
zero_other e = omega arith

-- one that equals another
same_other : {n m : ℕ} → n ≡ m → Other m → Other n
same_other e h q = h (rw (← e) q)

-- ---- the calls' definitions

-- behind the check
judged_other : (rule : ℕ) (a : Answer) → Other a.number → Other (judged rule a).number
judged_other zero a h = h
judged_other (suc rule) a h = λ e. omega arith

reply_other : (rule : ℕ) (r : Reply) → Other r.number → Other (judged_reply rule r).number
reply_other zero r h = h
reply_other (suc rule) r h = λ e. omega arith

record_other : (rule : ℕ) (r : Record) → Other r.number → Other (judged_record rule r).number
record_other zero r h = h
record_other (suc rule) r h = λ e. omega arith

total_other : (rule : ℕ) (t : Total) → Other t.number → Other (judged_total rule t).number
total_other zero t h = h
total_other (suc rule) t h = λ e. omega arith

strip_other : (rule : ℕ) (s : State) (r : Stripped) → Other r.number → Other (judged_strip rule s r).number
strip_other zero s r h = h
strip_other (suc rule) s r h = λ e. omega arith

compaction_other : (rule : ℕ) (s : State) (r : Compacted) → Other r.number → Other (judged_compaction rule s r).number
compaction_other zero s r h = h
compaction_other (suc rule) s r h = λ e. omega arith

-- after a refusal with a number, or NONE
unless_answer : (n : ℕ) (a : Answer) → Other n → Other a.number → Other (answer_unless n a).number
unless_answer zero a h k = k
unless_answer (suc n) a h k = h

unless_reply : (n : ℕ) (r : Reply) → Other n → Other r.number → Other (reply_unless n r).number
unless_reply zero r h k = k
unless_reply (suc n) r h k = h

unless_total : (n : ℕ) (t : Total) → Other n → Other t.number → Other (total_unless n t).number
unless_total zero t h k = k
unless_total (suc n) t h k = h

unless_outcome : (n : ℕ) (p : Plain) (o : Outcome) → Other n → Other o.number → Other (unless n p o).number
unless_outcome zero p o h k = k
unless_outcome (suc n) p o h k = h

-- a slot's fault is one of two numbers, or 0
fault_other : (absent removed : ℕ) (slot : Option Bool) → Other absent → Other removed → Other (slot_fault absent removed slot)
fault_other absent removed none h k = h
fault_other absent removed (some false) h k = k
fault_other absent removed (some true) h k = λ e. omega arith

-- a slice lent
lent_other : (room value : ℕ) (words : List ℕ) → Other (lent room value words).number
lent_other room value words = by_test (leb (length words) room) (λ q. rw q (λ e. omega arith)) (λ q. rw q (λ e. omega arith))

listing_other : (room : ℕ) (slots : List ℕ) → Other (listing room slots).number
listing_other room slots = lent_other room (length slots) slots

missing_other : (p : Plain) (x : ℕ) → Other (node_missing p x)
missing_other p x = fault_other 5 0 (live_node (node_slot p x)) (λ e. omega arith) zero_other

-- a list of a node's
walked_other : (p : Plain) (x : ℕ) (slots : List ℕ) (room : ℕ) → Other (reply_unless (node_missing p x) (listing room slots)).number
walked_other p x slots room = unless_reply (node_missing p x) (listing room slots) (missing_other p x) (listing_other room slots)

-- ---- the operations

node_other : (p : Plain) (x : ℕ) → Other (node_fault p x)
node_other p x = fault_other 5 6 (live_node (node_slot p x)) (λ e. omega arith) (λ e. omega arith)

room_other : (bound capacity : ℕ) → Other (room_fault bound capacity)
room_other bound capacity = by_test (leb capacity bound) (λ q. rw q (λ e. omega arith)) (λ q. rw q (λ e. omega arith))

payload_other : (payload : EdgePayload) → Other (payload_fault payload)
payload_other payload = by_test (ordered payload) (λ q. rw q (λ e. omega arith)) (λ q. rw q (λ e. omega arith))

removing_other : (slot : Option Bool) (p after : Plain) → Other (removing slot p after).number
removing_other none p after = λ e. omega arith
removing_other (some false) p after = λ e. omega arith
removing_other (some true) p after = λ e. omega arith

redirecting_other : (d : TraversalDirection) (e new : ℕ) (p : Plain) → Other (redirecting d e new p).number
redirecting_other d e new p = by_test (eqb (end_of d p e) new) (λ q. rw q (λ e. omega arith)) (λ q. rw q (λ e. omega arith))

moving_other : (d : TraversalDirection) (old new : ℕ) (walked : List ℕ) (p : Plain) → Other (moving d old new walked p).number
moving_other d old new [] p = λ e. omega arith
moving_other d old new (e ∷ es) p = unless_outcome (node_fault p new) p _ (node_other p new) zero_other

step_other : (caps : Capacities) (p : Plain) (o : Operation) → Other (step caps p o).number
unfolding step
step_other caps p (AddNode payload) = unless_outcome (room_fault (nodes_bound p) caps.nodes) p _ (room_other (nodes_bound p) caps.nodes) zero_other
step_other caps p (AddEdge source target payload) =
    unless_outcome (payload_fault payload) p _ (payload_other payload)
    (unless_outcome (node_fault p source) p _ (node_other p source)
    (unless_outcome (node_fault p target) p _ (node_other p target)
    (unless_outcome (room_fault (edges_bound p) caps.edges) p _ (room_other (edges_bound p) caps.edges) zero_other)))
step_other caps p (RemoveEdge e) = removing_other (live_edge (edge_slot p e)) p _
step_other caps p (RemoveNode x) = removing_other (live_node (node_slot p x)) p _
step_other caps p (Redirect d e new) =
    unless_outcome (edge_fault p e) p _ (fault_other 7 8 (live_edge (edge_slot p e)) (λ e. omega arith) (λ e. omega arith))
    (unless_outcome (node_fault p new) p _ (node_other p new) (redirecting_other d e new p))
step_other caps p (Move d old new) =
    unless_outcome (self_fault old new) p _ (by_test (eqb old new) (λ q. rw q (λ e. omega arith)) (λ q. rw q (λ e. omega arith)))
    (unless_outcome (node_missing p old) p _ (missing_other p old) (moving_other d old new (list_of d p old) p))
step_other caps p (SetPayload e payload) =
    unless_outcome (payload_fault payload) p _ (payload_other payload)
    (unless_outcome (edge_missing p e) p _ (fault_other 7 0 (live_edge (edge_slot p e)) (λ e. omega arith) zero_other) zero_other)
step_other caps p Unknown = λ e. omega arith

-- the number of operation i, in the words that a strip answers
answers_other : (caps : Capacities) (s : State) (ops : List Operation) (i : ℕ) → i < length ops → Other (get_or (answers caps s ops) (2 * i) 0)
unfolding answers
answers_other caps s [] i h = absurd (omega arith)
answers_other caps s (o ∷ ops) zero h = step_other caps s.lists o
answers_other caps s (o ∷ ops) (suc i) h =
    let place : 2 * suc i ≡ suc (suc (2 * i)) = omega arith in
    rw place (answers_other caps (stepped caps s o) ops i (omega arith))

-- ---- the calls that make or change a store

within_other : (device : Device) (caps : Capacities) (a : Answer) → Other device.number → Other a.number → Other (within device caps a).number
unfolding within
within_other device caps a h k =
    by_test (ltb device.limits.nodes caps.nodes) (λ q. rw q h)
    (λ q. rw q (by_test (ltb device.limits.edges caps.edges) (λ r. rw r h) (λ r. rw r k)))

short_other : (short : Option ℕ) → Other (short_answer short).number
short_other none = λ e. omega arith
short_other (some needed) = λ e. omega arith

readable_other : (rule : ℕ) (a : Answer) → Other a.number → Other (readable rule a).number
readable_other zero a h = h
readable_other (suc rule) a h = λ e. omega arith

-- on a device whose number is another
module _ (device : Device) (h : Other device.number) where
  fresh_other : (l : Lengths) → Other (fresh_of device l).number
  unfolding fresh_of
  fresh_other l = within_other device l.capacities _ h (short_other (first_short (other_slices l)))

  read_other : (l : Lengths) (bytes : List ℕ) → Other (Read_of device l bytes).number
  unfolding Read_of reading
  read_other l bytes =
      within_other device l.capacities _ h
      (readable_other (broken_image bytes) _
      (within_other device (asked (nodes_in bytes) (edges_in bytes)) _ h (short_other (first_short (reading_slices (nodes_in bytes) (edges_in bytes) l)))))

-- joining two books
join_other : (l : Lengths) (s t : Sizes) (rooms : MapRooms) → Other (join_answer l s t rooms).number
unfolding join_answer
join_other l s t rooms =
    by_test (eqb (fresh_of box l).number 0)
    (λ q. rw q (by_test (exceeds l.capacities s t) (λ r. rw r (λ e. omega arith)) (λ r. rw r (short_other (first_short (map_slices s t rooms))))))
    (λ q. rw q (fresh_other box (λ e. omega arith) l))

strips_other : (caps : Capacities) (s : State) (words : List ℕ) (room : ℕ) → Other (strip_of caps s words room).number
unfolding strip_of
strips_other caps s words room =
    by_test (eqb (length words % operation_words) 0)
    (λ q. rw q (by_test (ltb room (2 * length (operations words))) (λ r. rw r (λ e. omega arith)) (λ r. rw r (λ e. omega arith)))) (λ q. rw q (λ e. omega arith))

compacting_other : (short : Option ℕ) (s : State) → Other (compacting short s).number
compacting_other none s = λ e. omega arith
compacting_other (some needed) s = λ e. omega arith

-- ---- the reads of a record

records_other : (p : Plain) (e : ℕ) (slot : Option EdgeSlot) → Other (record_answer p e slot).number
records_other p e none = λ e. omega arith
records_other p e (some s) = λ e. omega arith

live_records_other : (p : Plain) (e : ℕ) (slot : Option EdgeSlot) → Other (live_record_answer p e slot).number
live_records_other p e none = λ e. omega arith
live_records_other p e (some s) = by_test s.live (λ q. rw q (λ e. omega arith)) (λ q. rw q (λ e. omega arith))

payloads_other : (slot : Option NodeSlot) → Other (payload_answer slot).number
payloads_other none = λ e. omega arith
payloads_other (some s) = λ e. omega arith

-- ---- the nearest lot

search_other : (rule : ℕ) (s : Searched) → Other s.number → Other (judged_search rule s).number
search_other zero s h = h
search_other (suc rule) s h = λ e. omega arith

unless_search : (n : ℕ) (s : Searched) → Other n → Other s.number → Other (search_unless n s).number
unless_search zero s h k = k
unless_search (suc n) s h k = h

chain_other : (capacity room : ℕ) (chain : Option (List ℕ)) → Other (chain_answer capacity room chain).number
chain_other capacity room none = λ e. omega arith
chain_other capacity room (some c) = by_test (ltb room (length c)) (λ q. rw q (λ e. omega arith)) (λ q. rw q (λ e. omega arith))

nearest_other : (capacity : ℕ) (p : Plain) (first second work room : ℕ) → Other (nearest_lot capacity p first second work room).number
unfolding nearest_lot
nearest_other capacity p first second work room =
    unless_search (node_fault p first) _ (node_other p first)
    (unless_search (node_fault p second) _ (node_other p second)
    (by_test (ltb work (work_needed capacity)) (λ q. rw q (λ e. omega arith)) (λ q. rw q (chain_other capacity room (nearest_chain (list_of Outgoing p) (end_of Incoming p) capacity first second)))))

-- ---- the theorem

-- from what a read's record says
answered_other : {w : Words} {read : Words → Answer} {a : Answer} → Other (read w).number → Answered w read a → Other a.number
answered_other {w} {read} h r = same_other (ap (λ (a : Answer). a.number) r.answers) (judged_other (broken w) (read w) h)

recorded_other : {w : Words} {read : Words → Record} {a : Record} → Other (read w).number → Recorded w read a → Other a.number
recorded_other {w} {read} h r = same_other (ap (λ (a : Record). a.number) r.answers) (record_other (broken w) (read w) h)

totalled_other : {w : Words} {read : Words → Total} {a : Total} → Other (read w).number → Totalled w read a → Other a.number
totalled_other {w} {read} h r = same_other (ap (λ (a : Total). a.number) r.answers) (total_other (broken w) (read w) h)

replied_other : {w : Words} {read : Words → ℕ → Reply} {entry exit : List ℕ} {a : Answer} → Other (read w (length entry)).number → Replied w read entry a exit
    → Other a.number
replied_other {w} {read} {entry} h r = same_other r.number (reply_other (broken w) (read w (length entry)) h)

pub record NeverEleven : Type 0 where
  pub fresh : {w : Words} {number value : ℕ} → FreshOf box w number value → Other number
  pub skid_fresh : {w : Words} {number value : ℕ} → FreshOf skid w number value → Other number
  pub strip : {w v : Words} {words entry exit : List ℕ} {number value : ℕ} → StripOf w words entry number value v exit → Other number
  -- each operation of a strip that is done, in the words that it leaves
  pub operation : {w v : Words} {words entry exit : List ℕ} {value : ℕ} → StripOf w words entry 0 value v exit → (i : ℕ) → i < length (operations words)
      → Other (get_or exit (2 * i) 0)
  pub compact : {w v : Words} {node_map edge_map work node-map' edge-map' work' : List ℕ} {number value : ℕ}
      → CompactOf w node_map edge_map work number value v node-map' edge-map' work' → Other number
  pub read_image : {w v : Words} {bytes : List ℕ} {number value : ℕ} → ReadOf box w bytes number value v → Other number
  pub skid_read_image : {w v : Words} {bytes : List ℕ} {number value : ℕ} → ReadOf skid w bytes number value v → Other number
  pub join : {first second w v : Words} {maps maps' : LentMaps} {number value : ℕ} → JoinOf first second w maps number value v maps' → Other number
  pub write_image : {w : Words} {work bytes work' bytes' : List ℕ} {answer : Answer} → WriteOf w work bytes answer work' bytes' → Other answer.number
  pub check : (w : Words) {answer : Answer} → answer ≡ check_answer (broken w) → Other answer.number
  pub walk : {w : Words} (d : TraversalDirection) (x : ℕ) {entry exit : List ℕ} {answer : Answer}
      → Replied w (λ w room. walk_of d (lists w) x room) entry answer exit → Other answer.number
  pub neighbors : {w : Words} (d : TraversalDirection) (x : ℕ) {entry exit : List ℕ} {answer : Answer}
      → Replied w (λ w room. neighbors_of d (lists w) x room) entry answer exit → Other answer.number
  pub degree : {w : Words} (d : TraversalDirection) (x : ℕ) {answer : Answer} → Answered w (λ w. degree_of d (lists w) x) answer → Other answer.number
  pub total : {w : Words} (d : TraversalDirection) (x : ℕ) {answer : Total} → Totalled w (λ w. total_of d (lists w) x) answer → Other answer.number
  pub node_payload : {w : Words} (x : ℕ) {answer : Answer} → Answered w (λ w. payload_of (lists w) x) answer → Other answer.number
  pub edge_record : {w : Words} (e : ℕ) {answer : Record} → Recorded w (λ w. record_of (lists w) e) answer → Other answer.number
  pub live_edge_record : {w : Words} (e : ℕ) {answer : Record} → Recorded w (λ w. live_record_of (lists w) e) answer → Other answer.number
  pub contains_node : {w : Words} (x : ℕ) {answer : Answer} → Answered w (λ w. Node_in (lists w) x) answer → Other answer.number
  pub contains_edge : {w : Words} (e : ℕ) {answer : Answer} → Answered w (λ w. edge_in (lists w) e) answer → Other answer.number
  pub is_empty : {w : Words} {answer : Answer} → Answered w (λ w. empty_answer (lists w)) answer → Other answer.number
  pub is_compact : {w : Words} {answer : Answer} → Answered w (λ w. compact_answer (state_of (shape_of w))) answer → Other answer.number
  pub node_bound : {w : Words} {answer : Answer} → Answered w (λ w. node_bound_answer (lists w)) answer → Other answer.number
  pub edge_bound : {w : Words} {answer : Answer} → Answered w (λ w. edge_bound_answer (lists w)) answer → Other answer.number
  pub node_count : {w : Words} {answer : Answer} → Answered w (λ w. nodes_counted (lists w)) answer → Other answer.number
  pub edge_count : {w : Words} {answer : Answer} → Answered w (λ w. edges_counted (lists w)) answer → Other answer.number
  pub node_ids : {w : Words} {entry exit : List ℕ} {answer : Answer} → Replied w (λ w room. node_slots (lists w) room) entry answer exit → Other answer.number
  pub edge_ids : {w : Words} {entry exit : List ℕ} {answer : Answer} → Replied w (λ w room. edge_slots (lists w) room) entry answer exit → Other answer.number
  pub find : {w : Words} (a b : ℕ) {answer : Answer} → Answered w (λ w. find_of (lists w) a b) answer → Other answer.number
  pub nearest : {w : Words} (a b : ℕ) {work chain work' chain' : List ℕ} {answer : Answer} → NearestOf w a b work chain answer work' chain' → Other answer.number
  pub lookup : {renumbering : List ℕ} {slot : ℕ} {answer : Answer} → Lookup renumbering slot answer → Other answer.number
  pub compose : {first second result exit : List ℕ} {answer : Answer} → Compose first second result answer exit → Other answer.number
  pub is_identity : {nodes edges : List ℕ} {answer : Answer} → IsIdentity nodes edges answer → Other answer.number

-- the words of a strip that is done
done_strip : (caps : Capacities) (s : State) (words : List ℕ) (room : ℕ) → 0 ≡ (strip_of caps s words room).number
    → (strip_of caps s words room).words ≡ answers caps s (operations words)
unfolding strip_of
done_strip caps s words room =
    by_test (eqb (length words % operation_words) 0)
    (λ q. rw q (by_test (ltb room (2 * length (operations words))) (λ t. rw t (λ e. absurd (omega arith))) (λ t. rw t (λ e. refl)))) (λ q. rw q (λ e. absurd (omega arith)))

done_words : (rule : ℕ) (s : State) (caps : Capacities) (words : List ℕ) (room : ℕ) → 0 ≡ (judged_strip rule s (strip_of caps s words room)).number
    → (judged_strip rule s (strip_of caps s words room)).words ≡ answers caps s (operations words)
done_words zero s caps words room e = done_strip caps s words room e
done_words (suc rule) s caps words room e = absurd (omega arith)

-- the answers of a strip's operations, where the strip is done
operation_other : {w v : Words} {words entry exit : List ℕ} {value : ℕ} → StripOf w words entry 0 value v exit → (i : ℕ) → i < length (operations words)
    → Other (get_or exit (2 * i) 0)
operation_other {w} {words = words} {entry} {exit} r i h =
    let is = done_words (broken w) (state_of (shape_of w)) (capacities w) words (length entry) r.numbered in
    let long = length_answers (capacities w) (state_of (shape_of w)) (operations words) in
    same_other
    (ap (λ (l : List ℕ). get_or l (2 * i) 0) (r.answered ∙ ap (λ (l : List ℕ). written l entry) is)
    ∙ get_or-append (answers (capacities w) (state_of (shape_of w)) (operations words))
    (drop (length (answers (capacities w) (state_of (shape_of w)) (operations words))) entry) 0 (2 * i) (omega arith))
    (answers_other (capacities w) (state_of (shape_of w)) (operations words) i h)

pub never_eleven : NeverEleven
unfolding compaction join_of check_answer walk_of neighbors_of degree_of total_of payload_of record_of live_record_of Node_in edge_in empty_answer compact_answer node_bound_answer edge_bound_answer nodes_counted edges_counted node_slots edge_slots find_of lookup_answer compose_of identity_answer
never_eleven = record {
  fresh = λ {w} r. same_other (ap (λ (a : Answer). a.number) r.answered) (fresh_other box (λ e. omega arith) (lengths_of w));
  skid_fresh = λ {w} r. same_other (ap (λ (a : Answer). a.number) r.answered) (fresh_other skid (λ e. omega arith) (lengths_of w));
  strip = λ {w} {words = words} {entry} r. same_other r.numbered
      (strip_other (broken w) (state_of (shape_of w)) _ (strips_other (capacities w) (state_of (shape_of w)) words (length entry)));
  operation = operation_other;
  compact = λ {w} {node_map = node_map} {edge_map} {work} r. same_other r.numbered
      (compaction_other (broken w) (state_of (shape_of w)) _
      (compacting_other (first_short (compaction_slices (lists w) (length node_map) (length edge_map) (length work))) (state_of (shape_of w))));
  read_image = λ {w} {bytes = bytes} r. same_other (ap (λ (a : Answer). a.number) r.answered) (read_other box (λ e. omega arith) (lengths_of w) bytes);
  skid_read_image = λ {w} {bytes = bytes} r. same_other (ap (λ (a : Answer). a.number) r.answered) (read_other skid (λ e. omega arith) (lengths_of w) bytes);
  join = λ {first} {second} {w} r. same_other (ap (λ (a : Answer). a.number) r.answered)
      (judged_other (broken first) _ (judged_other (broken second) _ (join_other (lengths_of w) (sizes (lists first)) (sizes (lists second)) _)));
  write_image = λ {w} {work} {bytes} r. replied_other
      (⊎_elim (λ z. same_other z zero_other) (λ z. same_other z (λ e. omega arith)) (write_number (lists w) (length work) (length bytes))) r.replied;
  check = λ w is. same_other (ap (λ (a : Answer). a.number) is) (judged_other (broken w) _ zero_other);
  walk = λ {w} d x {entry} r. replied_other (walked_other (lists w) x (list_of d (lists w) x) (length entry)) r;
  neighbors = λ {w} d x {entry} r. replied_other (walked_other (lists w) x (map (end_of (opposite d) (lists w)) (list_of d (lists w) x)) (length entry)) r;
  degree = λ {w} d x r. answered_other (unless_answer (node_missing (lists w) x) _ (missing_other (lists w) x) zero_other) r;
  total = λ {w} d x r. totalled_other (unless_total (node_missing (lists w) x) _ (missing_other (lists w) x) zero_other) r;
  node_payload = λ {w} x r. answered_other (payloads_other (node_slot (lists w) x)) r;
  edge_record = λ {w} e r. recorded_other (records_other (lists w) e (edge_slot (lists w) e)) r;
  live_edge_record = λ {w} e r. recorded_other (live_records_other (lists w) e (edge_slot (lists w) e)) r;
  contains_node = λ x r. answered_other zero_other r;
  contains_edge = λ e r. answered_other zero_other r;
  is_empty = λ r. answered_other zero_other r;
  is_compact = λ r. answered_other zero_other r;
  node_bound = λ r. answered_other zero_other r;
  edge_bound = λ r. answered_other zero_other r;
  node_count = λ r. answered_other zero_other r;
  edge_count = λ r. answered_other zero_other r;
  node_ids = λ {w} {entry} r. replied_other (listing_other (length entry) (live_slots (node_flags (lists w)))) r;
  edge_ids = λ {w} {entry} r. replied_other (listing_other (length entry) (live_slots (edge_flags (lists w)))) r;
  find = λ {w} a b r. answered_other
      (unless_answer (node_missing (lists w) a) _ (missing_other (lists w) a) (unless_answer (node_missing (lists w) b) _ (missing_other (lists w) b) zero_other)) r;
  nearest = λ {w} a b {work} {chain} r. same_other r.numbered
      (search_other (broken w) _ (nearest_other (node_capacity w) (lists w) a b (length work) (length chain)));
  lookup = λ r. same_other (ap (λ (a : Answer). a.number) r.answers) zero_other;
  compose = λ {first} {second} {result} r. same_other r.number (lent_other (length result) 0 (composed first second));
  is_identity = λ r. same_other (ap (λ (a : Answer). a.number) r.answers) zero_other;
}
