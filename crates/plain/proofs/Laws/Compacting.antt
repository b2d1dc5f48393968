-- Compaction: what it leaves is well formed with every slot live, and has the survivors that it had.
-- ---- one direction
use Rattle.std.specs.Prelude.{ℕ, ◌≤◌, ◌<◌, ◌^◌, ◌≡◌, refl, Bool, true, false, List, [], map, length, get_or, replicate, eqb}
use Rattle.plain.specs.Library.{sym, ap, ap₂, ◌∙◌, subst, subst₂, map-map, length-map, length-replicate, get_or-map, arith, eqb-true, eq-eqb, ltb-true, lt-ltb}
use Rattle.std.proofs.Math.Path.{fun_ext}
use Rattle.std.proofs.Common.{map-id}
use Rattle.plain.specs.declared.TraversalDirection.{TraversalDirection}
use Rattle.plain.specs.declared.TraversalDirection.TheVariants.{Outgoing, Incoming}
use Rattle.plain.specs.declared.EdgePayload.{EdgePayload}
use Rattle.plain.specs.Numbers.{LIMIT}
use Rattle.plain.specs.Lists.{member, distinct, from}
use Rattle.plain.specs.Plain.{Plain, Incidence, NodeSlot, EdgeSlot, no_node, no_payload, no_edge, node_flags, edge_flags, node_bound, edge_bound, incidence, end_of, list_of}
use Rattle.plain.specs.Step.{Capacities}
use Rattle.plain.specs.Reads.{live_count, live_slots, live_nodes, live_edges}
use Rattle.plain.specs.Compaction.{rank, EdgeRecord, Survivors, surviving_edge, surviving_list, survivors, kept_node, kept_edge, source_of, target_of, payload_of, of_survivors, compacted}
use Rattle.plain.specs.WellFormed.{Weighed, Incident, WellFormed, Fitted, Sound}
use Rattle.plain.proofs.Laws.Booleans.{same_truth, and_left, and_right, both_true}
use Rattle.plain.proofs.Laws.ListLaws.{get_or_map_each, member_mapped, member_source, member_get_or_map, distinct_map, map_same, map_unchanged, map_get_or, map_replicate, count_length, member_below}
use Rattle.plain.proofs.Laws.Operating.{incident, no_payload_weighed}
use Rattle.plain.proofs.Laws.Rank.{rank_live, rank_injective, rank_all_live, length_live_slots, live_slot_live, rank_live_slot, get_or_at_rank, live_all_live, live_from_all_live}
use Rattle.plain.specs.Laws.Fitting.{has_end}
use Rattle.plain.proofs.Laws.Fitting.{has_end_below, has_end_at, live_has_end, incident_fitted, fitted_incident}
use Rattle.plain.specs.Laws.Compacting.{no_ends, renumbered}

-- as many ends as live edges
length_renumbered : (nodes edges : List Bool) (i : Incidence) → length (renumbered nodes edges i).ends ≡ live_count edges
length_renumbered nodes edges i = length-map (live_slots edges) (λ e. rank nodes (get_or i.ends e 0)) ∙ length_live_slots edges

-- the end of a live edge, found at its new number, is the new number of the end that it had
renumbered_end : (nodes edges : List Bool) (i : Incidence) (e : ℕ) → get_or edges e false ≡ true
    → get_or (renumbered nodes edges i).ends (rank edges e) 0 ≡ rank nodes (get_or i.ends e 0)
renumbered_end nodes edges i e live = get_or_at_rank (λ e. rank nodes (get_or i.ends e 0)) edges e 0 live

-- the list of a live node, found at its new number, is the list that it had, by new numbers
renumbered_list : (nodes edges : List Bool) (i : Incidence) (x : ℕ) → get_or nodes x false ≡ true
    → get_or (renumbered nodes edges i).lists (rank nodes x) [] ≡ map (rank edges) (get_or i.lists x [])
renumbered_list nodes edges i x live = get_or_at_rank (λ x. map (rank edges) (get_or i.lists x [])) nodes x [] live

module _ (nodes edges : List Bool) (n : ℕ) (i : Incidence) (t : Incident edges n i)
    (ends_live : (e : ℕ) → get_or edges e false ≡ true → get_or nodes (get_or i.ends e 0) false ≡ true) where
  -- a listed edge is live, and has the list's node for its end
  listed_live : (x e : ℕ) → member e (get_or i.lists x []) ≡ true → get_or edges e false ≡ true
  listed_live x e h = and_left (get_or edges e false) (eqb (get_or i.ends e 0) x) (sym (t.listed x e) ∙ h)

  listed_end : (x e : ℕ) → member e (get_or i.lists x []) ≡ true → get_or i.ends e 0 ≡ x
  listed_end x e h = eqb-true (get_or i.ends e 0) x (and_right (get_or edges e false) (eqb (get_or i.ends e 0) x) (sym (t.listed x e) ∙ h))

  -- what stands in a list by new numbers has that node for its end
  renumbered_at_end : (x k : ℕ) → member k (get_or (renumbered nodes edges i).lists x []) ≡ true → has_end (renumbered nodes edges i).ends x k ≡ true
  renumbered_at_end x k h =
      let at = member_get_or_map (λ x. map (rank edges) (get_or i.lists x [])) (live_slots nodes) x k h in
      let old = get_or (live_slots nodes) x 0 in
      let found = member_source (rank edges) k (get_or i.lists old []) at.1 in
      let e = found.0 in
      let live = listed_live old e found.1 in
      let there : get_or (renumbered nodes edges i).ends (rank edges e) 0 ≡ x =
      renumbered_end nodes edges i e live
      ∙ ap (rank nodes) (listed_end old e found.1)
      ∙ rank_live_slot nodes x (subst (λ (m : ℕ). x < m) (length_live_slots nodes) at.0) in
      subst (λ (r : ℕ). has_end (renumbered nodes edges i).ends x r ≡ true) found.2
      (both_true
      (lt-ltb (rank edges e) (length (renumbered nodes edges i).ends)
      (subst (λ (m : ℕ). rank edges e < m) (sym (length_renumbered nodes edges i)) (rank_live edges e live)))
      (eq-eqb (get_or (renumbered nodes edges i).ends (rank edges e) 0) x there))

  -- a survivor stands in the list of its end
  renumbered_listed : (x k : ℕ) → has_end (renumbered nodes edges i).ends x k ≡ true → member k (get_or (renumbered nodes edges i).lists x []) ≡ true
  renumbered_listed x k h =
      let below = subst (λ (m : ℕ). k < m) (length_renumbered nodes edges i) (has_end_below (renumbered nodes edges i).ends x k h) in
      let e = get_or (live_slots edges) k 0 in
      let live = live_slot_live edges k 0 below in
      let old = get_or i.ends e 0 in
      let again = rank_live_slot edges k below in
      let there : rank nodes old ≡ x =
      sym (renumbered_end nodes edges i e live)
      ∙ ap (λ (r : ℕ). get_or (renumbered nodes edges i).ends r 0) again
      ∙ has_end_at (renumbered nodes edges i).ends x k h in
      subst₂ (λ (y r : ℕ). member r (get_or (renumbered nodes edges i).lists y []) ≡ true) there again
      (ap (member (rank edges e)) (renumbered_list nodes edges i old (ends_live e live))
      ∙ member_mapped (rank edges) e (get_or i.lists old []) (t.listed old e ∙ both_true live (eq-eqb old old refl)))

  -- the ends are below the number of live nodes
  renumbered_below : (k : ℕ) → k < live_count edges → get_or (renumbered nodes edges i).ends k 0 < live_count nodes
  renumbered_below k below =
      let e = get_or (live_slots edges) k 0 in
      let live = live_slot_live edges k 0 below in
      let there = rank_live nodes (get_or i.ends e 0) (ends_live e live) in
      subst (λ (r : ℕ). get_or (renumbered nodes edges i).ends r 0 < live_count nodes) (rank_live_slot edges k below)
      (rw (renumbered_end nodes edges i e live) there)

  -- one direction by new numbers is well formed, with every edge live
  pub renumbered_incident : Incident (replicate (live_count edges) true) (live_count nodes) (renumbered nodes edges i)
  unfolding distinct
  renumbered_incident = record {
    ends_length = length_renumbered nodes edges i ∙ sym (length-replicate (live_count edges) true);
    lists_length = length-map (live_slots nodes) (λ x. map (rank edges) (get_or i.lists x [])) ∙ length_live_slots nodes;
    ends_below = λ k h. renumbered_below k (subst (λ (m : ℕ). k < m) (length-replicate (live_count edges) true) h);
    listed = λ x k.
        same_truth (member k (get_or (renumbered nodes edges i).lists x [])) (has_end (renumbered nodes edges i).ends x k)
        (renumbered_at_end x k) (renumbered_listed x k)
        ∙ sym (live_has_end (renumbered nodes edges i).ends (live_count edges) x k (length_renumbered nodes edges i));
    once = get_or_map_each (λ (l : List ℕ). distinct l ≡ true) (λ x. map (rank edges) (get_or i.lists x [])) (live_slots nodes) [] refl
        (λ x.
        distinct_map (rank edges) (get_or i.lists x []) (λ e f h k. rank_injective edges e f (listed_live x e h) (listed_live x f k))
        ∙ t.once x);
  }

-- ---- the survivors

-- compaction renumbers each direction
pub compacted_incidence : (p : Plain) (d : TraversalDirection) → incidence d (compacted p) ≡ renumbered (node_flags p) (edge_flags p) (incidence d p)
unfolding survivors of_survivors compacted
compacted_incidence p Outgoing = λ i. record {
  ends = map-map source_of (surviving_edge p) (live_slots (edge_flags p)) i;
  lists = map (surviving_list Outgoing p) (live_slots (node_flags p));
}
compacted_incidence p Incoming = λ i. record {
  ends = map-map target_of (surviving_edge p) (live_slots (edge_flags p)) i;
  lists = map (surviving_list Incoming p) (live_slots (node_flags p));
}

-- as many nodes survive as are live
pub length_surviving_nodes : (p : Plain) → length (survivors p).nodes ≡ live_nodes p
unfolding survivors
length_surviving_nodes p =
    length-map (live_slots (node_flags p)) (λ x. (get_or p.nodes x no_node).payload) ∙ length_live_slots (node_flags p)

-- and as many edges
pub length_surviving_edges : (p : Plain) → length (survivors p).edges ≡ live_edges p
unfolding survivors
length_surviving_edges p = length-map (live_slots (edge_flags p)) (surviving_edge p) ∙ length_live_slots (edge_flags p)

-- no more nodes survive than there are slots
pub surviving_nodes_within : (p : Plain) → length (survivors p).nodes ≤ node_bound p
surviving_nodes_within p =
    let same = length_surviving_nodes p in
    let few = count_length (λ f. f) (node_flags p) in
    let flags = length-map p.nodes (λ (s : NodeSlot). s.live) in
    omega arith

-- and no more edges
pub surviving_edges_within : (p : Plain) → length (survivors p).edges ≤ edge_bound p
surviving_edges_within p =
    let same = length_surviving_edges p in
    let few = count_length (λ f. f) (edge_flags p) in
    let flags = length-map p.edges (λ (s : EdgeSlot). s.live) in
    omega arith

-- each direction of the survivors of well-formed lists is fitted
survivors_fitted : (caps : Capacities) (p : Plain) → WellFormed caps p → (d : TraversalDirection)
    → Fitted (length (survivors p).nodes) (incidence d (compacted p)).ends (incidence d (compacted p)).lists
survivors_fitted caps p w d =
    subst₂ (λ (n : ℕ) (i : Incidence). Fitted n i.ends i.lists) (sym (length_surviving_nodes p)) (sym (compacted_incidence p d))
    (incident_fitted (live_nodes p) (live_edges p) (renumbered (node_flags p) (edge_flags p) (incidence d p))
    (length_renumbered (node_flags p) (edge_flags p) (incidence d p))
    (renumbered_incident (node_flags p) (edge_flags p) (node_bound p) (incidence d p) (incident w d) (w.ends_live d)))

-- the survivors of well-formed lists within the limit have an image
pub survivors_sound : (caps : Capacities) (p : Plain) → WellFormed caps p → caps.nodes ≤ LIMIT → caps.edges ≤ LIMIT → Sound (survivors p)
unfolding survivors of_survivors compacted
survivors_sound caps p w few_nodes few_edges = record {
  nodes_within = let slots = surviving_nodes_within p in let bound = w.nodes_within in omega arith;
  edges_within = let slots = surviving_edges_within p in let bound = w.edges_within in omega arith;
  node_payloads = get_or_map_each (λ (n : ℕ). n < 2 ^ 32) (λ x. (get_or p.nodes x no_node).payload) (live_slots (node_flags p)) 0 (omega arith) w.node_payloads;
  edge_payloads =
      subst (λ (l : List EdgePayload). (e : ℕ) → Weighed (get_or l e no_payload)) (sym (map-map payload_of (surviving_edge p) (live_slots (edge_flags p))))
      (get_or_map_each Weighed (λ e. (get_or p.edges e no_edge).payload) (live_slots (edge_flags p)) no_payload no_payload_weighed w.edge_payloads);
  outs = survivors_fitted caps p w Outgoing;
  ins = survivors_fitted caps p w Incoming;
}

-- ---- survivors as plain lists

-- every node slot of survivors as plain lists is live
pub node_flags_of : (s : Survivors) → node_flags (of_survivors s) ≡ replicate (length s.nodes) true
unfolding of_survivors
node_flags_of s = map-map (λ (k : NodeSlot). k.live) kept_node s.nodes ∙ map_replicate (λ n. true) true s.nodes (λ n. refl)

-- and every edge slot
pub edge_flags_of : (s : Survivors) → edge_flags (of_survivors s) ≡ replicate (length s.edges) true
unfolding of_survivors
edge_flags_of s = map-map (λ (k : EdgeSlot). k.live) kept_edge s.edges ∙ map_replicate (λ (r : EdgeRecord). true) true s.edges (λ r. refl)

-- the payloads of their nodes are the survivors' payloads
pub node_payload_of : (s : Survivors) (x : ℕ) → (get_or (of_survivors s).nodes x no_node).payload ≡ get_or s.nodes x 0
unfolding of_survivors
node_payload_of s x =
    sym (get_or-map (λ (k : NodeSlot). k.payload) (map kept_node s.nodes) x no_node)
    ∙ ap (λ (l : List ℕ). get_or l x 0) (map-map (λ (k : NodeSlot). k.payload) kept_node s.nodes ∙ map-id s.nodes)

-- and those of their edges
pub edge_payload_of : (s : Survivors) (e : ℕ) → (get_or (of_survivors s).edges e no_edge).payload ≡ get_or (map payload_of s.edges) e no_payload
unfolding of_survivors
edge_payload_of s e =
    sym (get_or-map (λ (k : EdgeSlot). k.payload) (map kept_edge s.edges) e no_edge)
    ∙ ap (λ (l : List EdgePayload). get_or l e no_payload) (map-map (λ (k : EdgeSlot). k.payload) kept_edge s.edges)

-- the node bound is the number of nodes that survive
pub node_bound_of : (s : Survivors) → node_bound (of_survivors s) ≡ length s.nodes
unfolding of_survivors
node_bound_of s = length-map s.nodes kept_node

-- the edge bound is the number of edges that survive
pub edge_bound_of : (s : Survivors) → edge_bound (of_survivors s) ≡ length s.edges
unfolding of_survivors
edge_bound_of s = length-map s.edges kept_edge

-- the slots of survivors as plain lists, all live
live_nodes_of : (s : Survivors) → live_slots (node_flags (of_survivors s)) ≡ from 0 (length s.nodes)
live_nodes_of s = ap live_slots (node_flags_of s) ∙ live_from_all_live 0 (length s.nodes)

live_edges_of : (s : Survivors) → live_slots (edge_flags (of_survivors s)) ≡ from 0 (length s.edges)
live_edges_of s = ap live_slots (edge_flags_of s) ∙ live_from_all_live 0 (length s.edges)

-- each direction has one end an edge
length_ends_of : (s : Survivors) (d : TraversalDirection) → length (incidence d (of_survivors s)).ends ≡ length s.edges
unfolding of_survivors
length_ends_of s Outgoing = length-map s.edges source_of
length_ends_of s Incoming = length-map s.edges target_of

module _ (s : Survivors) (sound : Sound s) where
  -- each direction is fitted
  fitted_of : (d : TraversalDirection) → Fitted (length s.nodes) (incidence d (of_survivors s)).ends (incidence d (of_survivors s)).lists
  unfolding of_survivors
  fitted_of Outgoing = sound.outs
  fitted_of Incoming = sound.ins

  -- and so well formed
  incident_of : (d : TraversalDirection) → Incident (replicate (length s.edges) true) (length s.nodes) (incidence d (of_survivors s))
  incident_of d = fitted_incident (length s.nodes) (length s.edges) (incidence d (of_survivors s)) (length_ends_of s d) (fitted_of d)

  -- the ends are below the number of nodes
  end_below : (d : TraversalDirection) (e : ℕ) → e < length s.edges → end_of d (of_survivors s) e < length s.nodes
  end_below d e h = (fitted_of d).ends_below e (subst (λ (m : ℕ). e < m) (sym (length_ends_of s d)) h)

  -- an end keeps its number
  end_again : (d : TraversalDirection) (e : ℕ) → e < length s.edges → rank (node_flags (of_survivors s)) (end_of d (of_survivors s) e) ≡ end_of d (of_survivors s) e
  end_again d e h =
      ap (λ (flags : List Bool). rank flags (end_of d (of_survivors s) e)) (node_flags_of s)
      ∙ rank_all_live (length s.nodes) (end_of d (of_survivors s) e) (let below = end_below d e h in omega arith)

  -- an edge survives as it was
  edge_again : (e : ℕ) → e < length s.edges → surviving_edge (of_survivors s) e ≡ get_or s.edges e no_ends
  unfolding of_survivors
  edge_again e h = λ i. record {
    source = (end_again Outgoing e h ∙ get_or-map source_of s.edges e no_ends) i;
    target = (end_again Incoming e h ∙ get_or-map target_of s.edges e no_ends) i;
    payload = (edge_payload_of s e ∙ get_or-map payload_of s.edges e no_ends) i;
  }

  -- and a list
  list_again : (d : TraversalDirection) (x : ℕ) → surviving_list d (of_survivors s) x ≡ list_of d (of_survivors s) x
  list_again d x =
      ap (λ (flags : List Bool). map (rank flags) (list_of d (of_survivors s) x)) (edge_flags_of s)
      ∙ map_unchanged (rank (replicate (length s.edges) true)) (list_of d (of_survivors s) x)
      (λ e h.
      let live = and_left (get_or (replicate (length s.edges) true) e false) (eqb (end_of d (of_survivors s) e) x) (sym ((incident_of d).listed x e) ∙ h) in
      let below = ltb-true e (length s.edges) (sym (live_all_live (length s.edges) e) ∙ live) in
      rank_all_live (length s.edges) e (omega arith))

  -- so all lists survive
  lists_again : (d : TraversalDirection) → map (surviving_list d (of_survivors s)) (live_slots (node_flags (of_survivors s))) ≡ (incidence d (of_survivors s)).lists
  lists_again d =
      ap (map (surviving_list d (of_survivors s))) (live_nodes_of s)
      ∙ map_same (surviving_list d (of_survivors s)) (list_of d (of_survivors s)) (from 0 (length s.nodes)) (λ x h. list_again d x)
      ∙ ap (λ (n : ℕ). map (list_of d (of_survivors s)) (from 0 n)) (sym (incident_of d).lists_length)
      ∙ map_get_or (incidence d (of_survivors s)).lists []

  -- and all edges
  edges_again : map (surviving_edge (of_survivors s)) (live_slots (edge_flags (of_survivors s))) ≡ s.edges
  edges_again =
      ap (map (surviving_edge (of_survivors s))) (live_edges_of s)
      ∙ map_same (surviving_edge (of_survivors s)) (λ e. get_or s.edges e no_ends) (from 0 (length s.edges))
      (λ e h. edge_again e (ltb-true e (length s.edges) (sym (member_below e (length s.edges)) ∙ h)))
      ∙ map_get_or s.edges no_ends

  -- the survivors of survivors as plain lists are they themselves
  pub survivors_of : survivors (of_survivors s) ≡ s
  unfolding survivors of_survivors
  survivors_of = λ i. record {
    nodes = (ap₂ {B = List ℕ} map (fun_ext (node_payload_of s)) (live_nodes_of s) ∙ map_get_or s.nodes 0) i;
    edges = edges_again i;
    outs = lists_again Outgoing i;
    ins = lists_again Incoming i;
  }

-- sound survivors as plain lists are well formed
pub of_survivors_well_formed : (caps : Capacities) (s : Survivors) → Sound s → length s.nodes ≤ caps.nodes → length s.edges ≤ caps.edges
    → WellFormed caps (of_survivors s)
of_survivors_well_formed caps s sound nodes edges = record {
  nodes_within = rw node_bound_of nodes;
  edges_within = rw edge_bound_of edges;
  outgoing = direction Outgoing;
  incoming = direction Incoming;
  ends_live = λ d e live.
      let below = ltb-true e (length s.edges) (sym (live_all_live (length s.edges) e) ∙ (rw edge_flags_of at live)) in
      let x = end_of d (of_survivors s) e in
      rw node_flags_of (live_all_live (length s.nodes) x ∙ lt-ltb x (length s.nodes) (end_below s sound d e below));
  node_payloads = λ x. rw node_payload_of (sound.node_payloads x);
  edge_payloads = λ e. rw edge_payload_of (sound.edge_payloads e);
}
  where
    direction : (d : TraversalDirection) → Incident (edge_flags (of_survivors s)) (node_bound (of_survivors s)) (incidence d (of_survivors s))
    direction d =
        subst₂ (λ (flags : List Bool) (n : ℕ). Incident flags n (incidence d (of_survivors s)))
        (sym (edge_flags_of s)) (sym (node_bound_of s)) (incident_of s sound d)

-- ---- compaction

module _ (caps : Capacities) (p : Plain) (w : WellFormed caps p) (few_nodes : caps.nodes ≤ LIMIT) (few_edges : caps.edges ≤ LIMIT) where
  -- compaction leaves well-formed lists
  pub compacted_well_formed : WellFormed caps (compacted p)
  unfolding compacted
  compacted_well_formed =
      let nodes = surviving_nodes_within p in
      let edges = surviving_edges_within p in
      of_survivors_well_formed caps (survivors p) (survivors_sound caps p w few_nodes few_edges)
      (let bound = w.nodes_within in omega arith) (let bound = w.edges_within in omega arith)

-- every node slot that compaction leaves is live
pub compacted_nodes_live : (p : Plain) → node_flags (compacted p) ≡ replicate (live_nodes p) true
unfolding compacted
compacted_nodes_live p = node_flags_of (survivors p) ∙ ap (λ (n : ℕ). replicate n true) (length_surviving_nodes p)

-- and every edge slot
pub compacted_edges_live : (p : Plain) → edge_flags (compacted p) ≡ replicate (live_edges p) true
unfolding compacted
compacted_edges_live p = edge_flags_of (survivors p) ∙ ap (λ (n : ℕ). replicate n true) (length_surviving_edges p)

-- the node bound afterwards is the number of live nodes
pub compacted_node_bound : (p : Plain) → node_bound (compacted p) ≡ live_nodes p
unfolding compacted
compacted_node_bound p = node_bound_of (survivors p) ∙ length_surviving_nodes p

-- the edge bound afterwards is the number of live edges
pub compacted_edge_bound : (p : Plain) → edge_bound (compacted p) ≡ live_edges p
unfolding compacted
compacted_edge_bound p = edge_bound_of (survivors p) ∙ length_surviving_edges p

-- a live node keeps its list in its order, by new numbers
pub compacted_list : (p : Plain) (d : TraversalDirection) (x : ℕ) → get_or (node_flags p) x false ≡ true
    → list_of d (compacted p) (rank (node_flags p) x) ≡ map (rank (edge_flags p)) (list_of d p x)
compacted_list p d x live =
    ap (λ (i : Incidence). get_or i.lists (rank (node_flags p) x) []) (compacted_incidence p d)
    ∙ renumbered_list (node_flags p) (edge_flags p) (incidence d p) x live

-- a live edge keeps its ends, by new numbers
pub compacted_end : (p : Plain) (d : TraversalDirection) (e : ℕ) → get_or (edge_flags p) e false ≡ true
    → end_of d (compacted p) (rank (edge_flags p) e) ≡ rank (node_flags p) (end_of d p e)
compacted_end p d e live =
    ap (λ (i : Incidence). get_or i.ends (rank (edge_flags p) e) 0) (compacted_incidence p d)
    ∙ renumbered_end (node_flags p) (edge_flags p) (incidence d p) e live

-- a live node keeps its payload
pub compacted_node_payload : (p : Plain) (x : ℕ) → get_or (node_flags p) x false ≡ true
    → (get_or (compacted p).nodes (rank (node_flags p) x) no_node).payload ≡ (get_or p.nodes x no_node).payload
unfolding survivors compacted
compacted_node_payload p x live =
    node_payload_of (survivors p) (rank (node_flags p) x) ∙ get_or_at_rank (λ x. (get_or p.nodes x no_node).payload) (node_flags p) x 0 live

-- and a live edge
pub compacted_edge_payload : (p : Plain) (e : ℕ) → get_or (edge_flags p) e false ≡ true
    → (get_or (compacted p).edges (rank (edge_flags p) e) no_edge).payload ≡ (get_or p.edges e no_edge).payload
unfolding survivors compacted
compacted_edge_payload p e live =
    edge_payload_of (survivors p) (rank (edge_flags p) e)
    ∙ ap (λ (l : List EdgePayload). get_or l (rank (edge_flags p) e) no_payload) (map-map payload_of (surviving_edge p) (live_slots (edge_flags p)))
    ∙ get_or_at_rank (λ e. (get_or p.edges e no_edge).payload) (edge_flags p) e no_payload live
