-- The plain lists, what a store means, and what each operation does to them. Document 01, "Plain lists".
use Rattle.std.specs.Prelude.{ℕ, Bool, true, false, List, [], ◌∷◌, ◌++◌, map, length, get_or, set, leb}
use Rattle.plain.specs.Library.{Option}
use Rattle.std.proofs.Math.ListN.{get_elem?}
use Rattle.plain.specs.declared.TraversalDirection.{TraversalDirection}
use Rattle.plain.specs.declared.TraversalDirection.TheVariants.{Outgoing, Incoming}
use Rattle.plain.specs.declared.EdgePayload.{EdgePayload}
use Rattle.plain.specs.Lists.{append_at, delete_at, set_all}

-- "A transfer's payload becomes low and high, `u32` each"
abbrev pub low_of : EdgePayload → ℕ
low_of payload = payload.low

abbrev pub high_of : EdgePayload → ℕ
high_of payload = payload.high

-- whether it is no "low above its high"
abbrev pub ordered : EdgePayload → Bool
ordered payload = leb payload.low payload.high

-- "A slot is a number given by the store; it is live until removed." Slot x is the element x of a list of slots.
pub record NodeSlot : Type 0 where
  pub payload : ℕ
  pub live : Bool

pub record EdgeSlot : Type 0 where
  pub payload : EdgePayload
  pub live : Bool

-- One direction: the end of each edge slot, its source or its target, and the list of each node slot, its out-list or its in-list.
pub record Incidence : Type 0 where
  pub ends : List ℕ
  pub lists : List (List ℕ)

-- "Each node has an out-list and an in-list."
pub record Plain : Type 0 where
  pub nodes : List NodeSlot
  pub edges : List EdgeSlot
  pub outgoing : Incidence
  pub incoming : Incidence

abbrev pub incidence : TraversalDirection → Plain → Incidence
incidence Outgoing p = p.outgoing
incidence Incoming p = p.incoming

abbrev pub with_incidence : TraversalDirection → Incidence → Plain → Plain
with_incidence Outgoing i p = record { nodes = p.nodes; edges = p.edges; outgoing = i; incoming = p.incoming }
with_incidence Incoming i p = record { nodes = p.nodes; edges = p.edges; outgoing = p.outgoing; incoming = i }

-- ---- what the plain lists tell

abbrev pub node_bound : Plain → ℕ
node_bound p = length p.nodes

abbrev pub edge_bound : Plain → ℕ
edge_bound p = length p.edges

abbrev pub node_flags : Plain → List Bool
node_flags p = map (λ (s : NodeSlot). s.live) p.nodes

abbrev pub edge_flags : Plain → List Bool
edge_flags p = map (λ (s : EdgeSlot). s.live) p.edges

-- The lookups: the slot, or nothing at or above the bound. Every read goes through them.
abbrev pub node_slot : Plain → ℕ → Option NodeSlot
node_slot p x = get_elem? p.nodes x

abbrev pub edge_slot : Plain → ℕ → Option EdgeSlot
edge_slot p e = get_elem? p.edges e

-- "A walk is the list": the out-list or the in-list of node x.
abbrev pub list_of : TraversalDirection → Plain → ℕ → List ℕ
list_of d p x = get_or (incidence d p).lists x []

-- the source or the target of edge e
abbrev pub end_of : TraversalDirection → Plain → ℕ → ℕ
end_of d p e = get_or (incidence d p).ends e 0

-- the other direction: at the far end of an out-list's edges they are in-list entries
abbrev pub opposite : TraversalDirection → TraversalDirection
opposite Outgoing = Incoming
opposite Incoming = Outgoing

-- ---- what each operation does

-- "A fresh store is empty with bounds 0."
abbrev pub empty : Plain
empty = record {
  nodes = [];
  edges = [];
  outgoing = record { ends = []; lists = [] };
  incoming = record { ends = []; lists = [] };
}

-- a direction with one node more, whose list is empty
abbrev pub widened : Incidence → Incidence
widened i = record { ends = i.ends; lists = i.lists ++ ([] ∷ []) }

-- "A new slot is the bound, which rises by one; a payload is the one last given."
unfoldable pub node_added : ℕ → Plain → Plain
node_added payload p = record {
  nodes = p.nodes ++ (record { payload = payload; live = true } ∷ []);
  edges = p.edges;
  outgoing = widened p.outgoing;
  incoming = widened p.incoming;
}

-- a direction with one edge more, e, at the end of the list of its end x
abbrev pub attached : ℕ → ℕ → Incidence → Incidence
attached e x i = record { ends = i.ends ++ (x ∷ []); lists = append_at x (e ∷ []) i.lists }

-- "Adding an edge appends it to its source's out-list and target's in-list."
unfoldable pub edge_added : ℕ → ℕ → EdgePayload → Plain → Plain
edge_added source target payload p = record {
  nodes = p.nodes;
  edges = p.edges ++ (record { payload = payload; live = true } ∷ []);
  outgoing = attached (edge_bound p) source p.outgoing;
  incoming = attached (edge_bound p) target p.incoming;
}

abbrev pub killed_edge : EdgeSlot → EdgeSlot
killed_edge s = record { payload = s.payload; live = false }

abbrev pub killed_node : NodeSlot → NodeSlot
killed_node s = record { payload = s.payload; live = false }

-- a direction with edge e deleted from the list of its end; "removed edges keep their last ends"
abbrev pub detached : ℕ → Incidence → Incidence
detached e i = record { ends = i.ends; lists = delete_at (get_or i.ends e 0) e i.lists }

-- what stands past the end of a list of slots, and is never read
abbrev pub no_node : NodeSlot
no_node = record { payload = 0; live = false }

abbrev pub no_payload : EdgePayload
no_payload = record { low = 0; high = 0 }

abbrev pub no_edge : EdgeSlot
no_edge = record { payload = no_payload; live = false }

-- "Removing an edge deletes it from both."
unfoldable pub edge_removed : ℕ → Plain → Plain
edge_removed e p = record {
  nodes = p.nodes;
  edges = set p.edges e (killed_edge (get_or p.edges e no_edge));
  outgoing = detached e p.outgoing;
  incoming = detached e p.incoming;
}

unfoldable pub edges_removed : List ℕ → Plain → Plain
edges_removed [] p = p
edges_removed (e ∷ es) p = edges_removed es (edge_removed e p)

-- "Removing a node removes all edges in its lists."
unfoldable pub node_removed : ℕ → Plain → Plain
node_removed x p =
    let q = edges_removed (list_of Outgoing p x ++ list_of Incoming p x) p in
    record {
      nodes = set q.nodes x (killed_node (get_or q.nodes x no_node));
      edges = q.edges;
      outgoing = q.outgoing;
      incoming = q.incoming;
    }

-- "Redirecting deletes the edge from the old end's list and appends it at the new end's."
unfoldable pub redirected : ℕ → ℕ → Incidence → Incidence
redirected e new i = record {
  ends = set i.ends e new;
  lists = append_at new (e ∷ []) (delete_at (get_or i.ends e 0) e i.lists);
}

-- "Moving appends the old node's list, in order, to the new node's, leaves the old one empty and makes the new node that end of each edge moved."
unfoldable pub moved : ℕ → ℕ → Incidence → Incidence
moved old new i =
    let list = get_or i.lists old [] in
    record { ends = set_all list new i.ends; lists = set (append_at new list i.lists) old [] }

unfoldable pub payload_set : ℕ → EdgePayload → Plain → Plain
payload_set e payload p = record {
  nodes = p.nodes;
  edges = set p.edges e (record { payload = payload; live = (get_or p.edges e no_edge).live });
  outgoing = p.outgoing;
  incoming = p.incoming;
}
