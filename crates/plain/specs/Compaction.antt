-- Survivors, and compaction of the plain lists. Document 01, "Plain lists": "Compaction drops the dead slots, numbers the live ones from 0 in slot order,
-- makes their counts the bounds and renumbers ends and lists, each list in its order."
-- The sentence after it, of stores that neither a fresh one nor an image led to, is superseded by document 02, No. 9: "For us the walk is the record: compaction,
-- joining and the image keep every walk of every store that passes the check, ring order included."
use Rattle.std.specs.Prelude.{ℕ, zero, suc, ◌+◌, Bool, true, false, cond, List, [], ◌∷◌, ◌++◌, map, get_or}
use Rattle.plain.specs.declared.TraversalDirection.{TraversalDirection}
use Rattle.plain.specs.declared.TraversalDirection.TheVariants.{Outgoing, Incoming}
use Rattle.plain.specs.Numbers.{NONE}
use Rattle.plain.specs.Lists.{joined}
use Rattle.plain.specs.declared.EdgePayload.{EdgePayload}
use Rattle.plain.specs.Plain.{Plain, NodeSlot, EdgeSlot, no_node, no_edge, node_flags, edge_flags, list_of, end_of}
use Rattle.plain.specs.Reads.{live_slots}

-- how many live slots stand before slot x: the number that x gets if it is live
unfoldable pub rank : List Bool → ℕ → ℕ
rank flags zero = 0
rank [] (suc x) = 0
rank (flag ∷ flags) (suc x) = cond flag 1 0 + rank flags x

-- the map of a compaction, from the next number on: "numbers the live ones from 0 in slot order", NONE for the dead
unfoldable pub renumbering_from : ℕ → List Bool → List ℕ
renumbering_from next [] = []
renumbering_from next (true ∷ flags) = next ∷ renumbering_from (suc next) flags
renumbering_from next (false ∷ flags) = NONE ∷ renumbering_from next flags

abbrev pub renumbering : List Bool → List ℕ
renumbering flags = renumbering_from 0 flags

-- An edge's ends and payload, as the Rust's `EdgeRecord`.
pub record EdgeRecord : Type 0 where
  pub source : ℕ
  pub target : ℕ
  pub payload : EdgePayload

-- The survivors: payloads of the live nodes and records of the live edges in slot order, and both lists of each live node, all by new numbers.
pub record Survivors : Type 0 where
  pub nodes : List ℕ
  pub edges : List EdgeRecord
  pub outs : List (List ℕ)
  pub ins : List (List ℕ)

abbrev pub surviving_edge : Plain → ℕ → EdgeRecord
surviving_edge p e = record {
  source = rank (node_flags p) (end_of Outgoing p e);
  target = rank (node_flags p) (end_of Incoming p e);
  payload = (get_or p.edges e no_edge).payload;
}

-- "each list in its order"
abbrev pub surviving_list : TraversalDirection → Plain → ℕ → List ℕ
surviving_list d p x = map (rank (edge_flags p)) (list_of d p x)

unfoldable pub survivors : Plain → Survivors
survivors p = record {
  nodes = map (λ x. (get_or p.nodes x no_node).payload) (live_slots (node_flags p));
  edges = map (surviving_edge p) (live_slots (edge_flags p));
  outs = map (surviving_list Outgoing p) (live_slots (node_flags p));
  ins = map (surviving_list Incoming p) (live_slots (node_flags p));
}

abbrev pub kept_node : ℕ → NodeSlot
kept_node payload = record { payload = payload; live = true }

abbrev pub kept_edge : EdgeRecord → EdgeSlot
kept_edge r = record { payload = r.payload; live = true }

abbrev pub source_of : EdgeRecord → ℕ
source_of r = r.source

abbrev pub target_of : EdgeRecord → ℕ
target_of r = r.target

abbrev pub payload_of : EdgeRecord → EdgePayload
payload_of r = r.payload

-- survivors as plain lists: every slot live, the bounds their counts
unfoldable pub of_survivors : Survivors → Plain
of_survivors s = record {
  nodes = map kept_node s.nodes;
  edges = map kept_edge s.edges;
  outgoing = record { ends = map source_of s.edges; lists = s.outs };
  incoming = record { ends = map target_of s.edges; lists = s.ins };
}

unfoldable pub compacted : Plain → Plain
compacted p = of_survivors (survivors p)

-- "Work then holds the new out adjacency, then the in adjacency; words beyond what is needed are untouched."
unfoldable pub adjacency : Survivors → List ℕ
adjacency s = joined s.outs ++ joined s.ins
