-- What is true of the plain lists of every store: `WellFormed`; and of the survivors that an image is written from: `Sound`.
use Rattle.std.specs.Prelude.{ℕ, ◌≤◌, ◌<◌, ◌^◌, ◌≡◌, Bool, true, false, ◌&&◌, List, [], map, length, get_or, eqb}
use Rattle.plain.specs.declared.TraversalDirection.{TraversalDirection}
use Rattle.plain.specs.declared.EdgePayload.{EdgePayload}
use Rattle.plain.specs.Numbers.{LIMIT}
use Rattle.plain.specs.Lists.{member, distinct}
use Rattle.plain.specs.Plain.{Plain, Incidence, no_node, no_payload, no_edge, node_bound, edge_bound, node_flags, edge_flags, end_of}
use Rattle.plain.specs.Step.{Capacities}
use Rattle.plain.specs.Compaction.{Survivors, source_of, target_of, payload_of}
use Rattle.plain.specs.Image.{list_lengths, lists_right}

-- The payload of an edge: its low is not above its high, and the high fits a word of 32 bits; so the low does.
pub record Weighed (payload : EdgePayload) : Type 0 where
  pub in_order : payload.low ≤ payload.high
  pub fits : payload.high < 2 ^ 32

-- One direction of n node slots, with these flags of the edge slots.
pub record Incident (flags : List Bool) (n : ℕ) (i : Incidence) : Type 0 where
  -- an end for each edge slot and a list for each node slot
  pub ends_length : length i.ends ≡ length flags
  pub lists_length : length i.lists ≡ n
  -- the ends of all edges, removed ones too, are below the node bound
  pub ends_below : (e : ℕ) → e < length flags → get_or i.ends e 0 < n
  -- every live edge stands in the list of its end, and nothing else stands in any list
  pub listed : (x e : ℕ) → member e (get_or i.lists x []) ≡ (get_or flags e false && eqb (get_or i.ends e 0) x)
  -- and it stands there once
  pub once : (x : ℕ) → distinct (get_or i.lists x []) ≡ true

-- The plain lists of a store of these capacities.
pub record WellFormed (caps : Capacities) (p : Plain) : Type 0 where
  -- the bounds are within the capacities
  pub nodes_within : node_bound p ≤ caps.nodes
  pub edges_within : edge_bound p ≤ caps.edges
  pub outgoing : Incident (edge_flags p) (node_bound p) p.outgoing
  pub incoming : Incident (edge_flags p) (node_bound p) p.incoming
  -- the ends of live edges are live nodes; so a removed node's lists are empty
  pub ends_live : (d : TraversalDirection) (e : ℕ) → get_or (edge_flags p) e false ≡ true → get_or (node_flags p) (end_of d p e) false ≡ true
  -- payloads fit their words, and no edge slot, "removed or not", holds "a low above its high"
  pub node_payloads : (x : ℕ) → (get_or p.nodes x no_node).payload < 2 ^ 32
  pub edge_payloads : (e : ℕ) → Weighed (get_or p.edges e no_edge).payload

-- One direction of survivors: n nodes, the end of each edge, the list of each node.
pub record Fitted (n : ℕ) (ends : List ℕ) (lists : List (List ℕ)) : Type 0 where
  pub ends_below : (e : ℕ) → e < length ends → get_or ends e 0 < n
  -- each list is as long as the edges' ends say, and there is one a node
  pub lengths : map (λ (l : List ℕ). length l) lists ≡ list_lengths n ends
  -- the entries are below the number of edges, none twice, each at its end
  pub right : lists_right ends lists ≡ true

-- Survivors that have an image.
pub record Sound (s : Survivors) : Type 0 where
  pub nodes_within : length s.nodes ≤ LIMIT
  pub edges_within : length s.edges ≤ LIMIT
  pub node_payloads : (x : ℕ) → get_or s.nodes x 0 < 2 ^ 32
  pub edge_payloads : (e : ℕ) → Weighed (get_or (map payload_of s.edges) e no_payload)
  pub outs : Fitted (length s.nodes) (map source_of s.edges) s.outs
  pub ins : Fitted (length s.nodes) (map target_of s.edges) s.ins
