-- One operation of a strip, and a strip: number, value and plain lists. Document 01, "The strip"; document 02, No. 8.
use Rattle.std.specs.Prelude.{ℕ, zero, suc, Bool, true, false, cond, ◌&&◌, List, [], ◌∷◌, length, eqb, leb}
use Rattle.plain.specs.Library.{Option, none, some}
use Rattle.std.proofs.Math.Option.{map}
use Rattle.plain.specs.declared.TraversalDirection.{TraversalDirection}
use Rattle.plain.specs.declared.EdgePayload.{EdgePayload}
use Rattle.plain.specs.declared.Operation.{Operation}
use Rattle.plain.specs.declared.Operation.TheVariants.{AddNode, AddEdge, RemoveEdge, RemoveNode, Redirect, Move, SetPayload, Unknown}
use Rattle.plain.specs.Numbers.{NONE, done, unknown_code, out_of_range_node, removed_node, out_of_range_edge, removed_edge, onto_itself, full, inverted}
use Rattle.plain.specs.Plain.{ordered, Plain, NodeSlot, EdgeSlot, incidence, with_incidence, node_bound, edge_bound, node_slot, edge_slot, list_of, end_of, node_added, edge_added, edge_removed, node_removed, redirected, moved, payload_set}

-- "The capacities are the lengths of the two payload slices."
pub record Capacities : Type 0 where
  pub nodes : ℕ
  pub edges : ℕ

-- What an operation comes to: its number and value, the plain lists afterwards, and whether a compact store stays compact.
pub record Outcome : Type 0 where
  pub number : ℕ
  pub value : ℕ
  pub lists : Plain
  pub keeps_compact : Bool

-- "A refused operation changes nothing", and its value is NONE.
abbrev pub refused : ℕ → Plain → Outcome
refused number p = record { number = number; value = NONE; lists = p; keeps_compact = true }

-- done, with nothing changed
abbrev pub unchanged : ℕ → Plain → Outcome
unchanged value p = record { number = done; value = value; lists = p; keeps_compact = true }

-- done, with the lists changed
abbrev pub changed : ℕ → Plain → Outcome
changed value p = record { number = done; value = value; lists = p; keeps_compact = false }

-- refused with a number that is not 0; else as it goes on
abbrev pub unless : ℕ → Plain → Outcome → Outcome
unless zero p outcome = outcome
unless (suc number) p outcome = refused (suc number) p

-- ---- the causes: the number of each, or 0 where it is absent

-- a slot: at or above the bound, removed, or neither
abbrev pub slot_fault : ℕ → ℕ → Option Bool → ℕ
slot_fault absent removed none = absent
slot_fault absent removed (some false) = removed
slot_fault absent removed (some true) = 0

abbrev pub live_node : Option NodeSlot → Option Bool
live_node slot = map (λ (s : NodeSlot). s.live) slot

abbrev pub live_edge : Option EdgeSlot → Option Bool
live_edge slot = map (λ (s : EdgeSlot). s.live) slot

-- "node at or above bound" 5; "node removed" 6
abbrev pub node_fault : Plain → ℕ → ℕ
node_fault p x = slot_fault out_of_range_node removed_node (live_node (node_slot p x))

-- the first of them alone
abbrev pub node_missing : Plain → ℕ → ℕ
node_missing p x = slot_fault out_of_range_node 0 (live_node (node_slot p x))

-- "edge at or above bound" 7; "edge removed" 8
abbrev pub edge_fault : Plain → ℕ → ℕ
edge_fault p e = slot_fault out_of_range_edge removed_edge (live_edge (edge_slot p e))

abbrev pub edge_missing : Plain → ℕ → ℕ
edge_missing p e = slot_fault out_of_range_edge 0 (live_edge (edge_slot p e))

-- "bound equals capacity" 10
abbrev pub room_fault : ℕ → ℕ → ℕ
room_fault bound capacity = cond (leb capacity bound) full 0

-- "move onto itself" 9
abbrev pub self_fault : ℕ → ℕ → ℕ
self_fault old new = cond (eqb old new) onto_itself 0

-- "It refuses with 16, .. for a low above its high in codes 2 and 9, directly after 4."
abbrev pub payload_fault : EdgePayload → ℕ
payload_fault payload = cond (ordered payload) 0 inverted

-- ---- the operations

-- "For removals 1 or 0, where 0 means nothing live was there."
abbrev pub removing : Option Bool → Plain → Plain → Outcome
removing none p after = unchanged 0 p
removing (some false) p after = unchanged 0 p
removing (some true) p after = changed 1 after

-- "The same end changes nothing"; the value is the "previous end".
abbrev pub redirecting : TraversalDirection → ℕ → ℕ → Plain → Outcome
redirecting d e new p =
    let old = end_of d p e in
    cond (eqb old new) (unchanged old p) (changed old (with_incidence d (redirected e new (incidence d p)) p))

-- "An empty walk is done, value 0; then new 5, 6"; the value is the "edges moved".
abbrev pub moving : TraversalDirection → ℕ → ℕ → List ℕ → Plain → Outcome
moving d old new [] p = unchanged 0 p
moving d old new (e ∷ es) p =
    unless (node_fault p new) p (changed (length (e ∷ es)) (with_incidence d (moved old new (incidence d p)) p))

-- The operation's number, value and lists. "Values: new slot; for removals 1 or 0, where 0 means nothing live was there; previous end; edges moved; 0 for code
-- 9." Its refusals in document 01's order:
-- "Add node: 4, 10. Removals: 4. Set payload: 4, 7. Add edge: 4, source 5, 6, target 5, 6, then 10. Redirect: 4, 7, 8, 5, 6.
-- Move: 4, 9, old 5; an empty walk is done, value 0; then new 5, 6." With document 02's 16 "directly after 4" of add edge and set payload.
unfoldable pub step : Capacities → Plain → Operation → Outcome
step caps p (AddNode payload) = unless (room_fault (node_bound p) caps.nodes) p (changed (node_bound p) (node_added payload p))
step caps p (AddEdge source target payload) =
    unless (payload_fault payload) p
    (unless (node_fault p source) p
    (unless (node_fault p target) p
    (unless (room_fault (edge_bound p) caps.edges) p (changed (edge_bound p) (edge_added source target payload p)))))
step caps p (RemoveEdge e) = removing (live_edge (edge_slot p e)) p (edge_removed e p)
step caps p (RemoveNode x) = removing (live_node (node_slot p x)) p (node_removed x p)
step caps p (Redirect d e new) = unless (edge_fault p e) p (unless (node_fault p new) p (redirecting d e new p))
step caps p (Move d old new) = unless (self_fault old new) p (unless (node_missing p old) p (moving d old new (list_of d p old) p))
step caps p (SetPayload e payload) =
    unless (payload_fault payload) p (unless (edge_missing p e) p
    (record { number = done; value = 0; lists = payload_set e payload p; keeps_compact = true }))
step caps p Unknown = refused unknown_code p

-- ---- the strip

-- The plain lists, and beside them whether the store is compact, which they do not tell: true of a fresh store and after compaction and image
-- reading; kept by a refusal, code 9, a redirect to the same end, a move of an empty walk and a removal with value 0; false after any other operation.
pub record State : Type 0 where
  pub lists : Plain
  pub compact : Bool

abbrev pub stepped : Capacities → State → Operation → State
stepped caps s operation =
    let o = step caps s.lists operation in
    record { lists = o.lists; compact = s.compact && o.keeps_compact }

-- "A refused operation changes nothing and the strip goes on."
unfoldable pub run : Capacities → State → List Operation → State
run caps s [] = s
run caps s (operation ∷ operations) = run caps (stepped caps s operation) operations

-- "Each operation leaves two words in the answer slice: number and value."
unfoldable pub answers : Capacities → State → List Operation → List ℕ
answers caps s [] = []
answers caps s (operation ∷ operations) =
    let o = step caps s.lists operation in
    o.number ∷ o.value ∷ answers caps (stepped caps s operation) operations
