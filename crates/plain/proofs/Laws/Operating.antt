-- Every operation keeps the plain lists well formed.
use Rattle.std.specs.Prelude.{ℕ, ◌+◌, ◌<◌, ◌^◌, ◌≡◌, refl, Bool, true, false, ◌&&◌, not, List, [], ◌∷◌, ◌++◌, map, length, get_or, set, eqb}
use Rattle.plain.specs.Library.{sym, ap, subst, ◌∙◌, length-set, length-append, length-map, arith, eq-eqb, ne_eqb, eqb-true, not-true}
use Rattle.std.proofs.lemmas.Bool.{false≢true}
use Rattle.std.proofs.Math.Seq.{map-set_same}
use Rattle.std.proofs.Common.{lit<}
use Rattle.plain.specs.declared.TraversalDirection.{TraversalDirection}
use Rattle.plain.specs.declared.TraversalDirection.TheVariants.{Outgoing, Incoming}
use Rattle.plain.specs.declared.EdgePayload.{EdgePayload}
use Rattle.plain.specs.Lists.{member, without, distinct}
use Rattle.plain.specs.Plain.{Plain, NodeSlot, EdgeSlot, Incidence, incidence, with_incidence, no_node, no_payload, no_edge, killed_node, killed_edge, node_bound, edge_bound, node_flags, edge_flags, list_of, end_of, attached, detached, redirected, moved, empty, node_added, edge_added, edge_removed, edges_removed, node_removed, payload_set}
use Rattle.plain.specs.Step.{Capacities}
use Rattle.plain.specs.WellFormed.{Weighed, Incident, WellFormed}
use Rattle.plain.proofs.Laws.Booleans.{by_test, true_false, and_left, and_right, and_false, and_true, or_true, or_other, refuted}
use Rattle.plain.specs.Laws.Deleting.{without_all}
use Rattle.plain.proofs.Laws.Deleting.{get_d_set, get_or_snoc, map_set}
use Rattle.plain.proofs.Laws.ListLaws.{map_snoc, member_append, without_absent}
use Rattle.plain.proofs.Laws.Rank.{live_below}
use Rattle.plain.specs.Laws.Directions.{list_at, end_at}
use Rattle.plain.proofs.Laws.Directions.{widened_incident, attached_incident, attached_end, detached_incident, detached_list, elsewhere, redirected_incident, redirected_end, moved_incident, moved_end}

-- ---- both directions at once

pub each_way : (P : TraversalDirection → Type 0) → P Outgoing → P Incoming → (d : TraversalDirection) → P d
each_way P o i Outgoing = o
each_way P o i Incoming = i

pub incident : {caps : Capacities} {p : Plain} → WellFormed caps p → (d : TraversalDirection) → Incident (edge_flags p) (node_bound p) (incidence d p)
incident h Outgoing = h.outgoing
incident h Incoming = h.incoming

-- the flags have the bounds' lengths
pub length_node_flags : (p : Plain) → length (node_flags p) ≡ node_bound p
length_node_flags p = length-map p.nodes (λ (s : NodeSlot). s.live)

pub length_edge_flags : (p : Plain) → length (edge_flags p) ≡ edge_bound p
length_edge_flags p = length-map p.edges (λ (s : EdgeSlot). s.live)

-- one direction changed, with ends that are live
pub with_incident : {caps : Capacities} {p : Plain} → WellFormed caps p → (d : TraversalDirection) (i : Incidence) → Incident (edge_flags p) (node_bound p) i
    → ((e : ℕ) → get_or (edge_flags p) e false ≡ true → get_or (node_flags p) (get_or i.ends e 0) false ≡ true) → WellFormed caps (with_incidence d i p)
with_incident h Outgoing i k l = record {
  nodes_within = h.nodes_within;
  edges_within = h.edges_within;
  outgoing = k;
  incoming = h.incoming;
  ends_live = each_way _ l (h.ends_live Incoming);
  node_payloads = h.node_payloads;
  edge_payloads = h.edge_payloads;
}
with_incident h Incoming i k l = record {
  nodes_within = h.nodes_within;
  edges_within = h.edges_within;
  outgoing = h.outgoing;
  incoming = k;
  ends_live = each_way _ (h.ends_live Outgoing) l;
  node_payloads = h.node_payloads;
  edge_payloads = h.edge_payloads;
}

snoc_length : {A : Type 0} (l : List A) (a : A) → length (l ++ (a ∷ [])) ≡ length l + 1
snoc_length l a = length-append l (a ∷ [])

-- a live slot stays live when one is added
live_snoc : (flags : List Bool) (x : ℕ) → get_or flags x false ≡ true → get_or (flags ++ (true ∷ [])) x false ≡ true
live_snoc flags x h = rw (get_or_snoc flags x true false, h) (by_test (eqb x (length flags)) (λ q. rw q) (λ q. rw q))

-- ---- the operations

empty_direction : Incident [] 0 (record { ends = []; lists = [] })
unfolding member distinct
empty_direction = record {
  ends_length = refl;
  lists_length = refl;
  ends_below = λ e l. absurd (omega arith);
  listed = λ x e. refl;
  once = λ x. refl;
}

-- what stands past the end of a list of edge slots
pub no_payload_weighed : Weighed no_payload
no_payload_weighed = record { in_order = omega arith; fits = lit< tt }

-- a fresh store's lists
pub empty_well_formed : (caps : Capacities) → WellFormed caps empty
empty_well_formed caps = record {
  nodes_within = omega arith;
  edges_within = omega arith;
  outgoing = empty_direction;
  incoming = empty_direction;
  ends_live = λ d e l. absurd (false≢true l);
  node_payloads = λ x. lit< tt;
  edge_payloads = λ e. no_payload_weighed;
}

pub node_added_well_formed : {caps : Capacities} {p : Plain} (v : ℕ) → v < 2 ^ 32 → node_bound p < caps.nodes → WellFormed caps p → WellFormed caps (node_added v p)
unfolding node_added
node_added_well_formed {caps} {p} v fits room h =
    let slot : NodeSlot = record { payload = v; live = true } in
    let live : (x : ℕ) → get_or (node_flags p) x false ≡ true → get_or (map (λ (s : NodeSlot). s.live) (p.nodes ++ (slot ∷ []))) x false ≡ true =
    λ x l. rw (map_snoc (λ (s : NodeSlot). s.live) p.nodes slot) (live_snoc (node_flags p) x l) in
    record {
      nodes_within = rw (snoc_length p.nodes slot) (omega arith);
      edges_within = h.edges_within;
      outgoing = rw (snoc_length p.nodes slot) (widened_incident h.outgoing);
      incoming = rw (snoc_length p.nodes slot) (widened_incident h.incoming);
      ends_live = each_way _ (λ e l. live (end_of Outgoing p e) (h.ends_live Outgoing e l)) (λ e l. live (end_of Incoming p e) (h.ends_live Incoming e l));
      node_payloads = λ x. rw (get_or_snoc p.nodes x slot no_node) (by_test (eqb x (length p.nodes)) (λ q. rw q fits) (λ q. rw q (h.node_payloads x)));
      edge_payloads = h.edge_payloads;
    }

-- a live node is below the bound
pub node_below : (p : Plain) (x : ℕ) → get_or (node_flags p) x false ≡ true → x < node_bound p
node_below p x l = let h = live_below (node_flags p) x l in omega (arith, length_node_flags p)

pub edge_below : (p : Plain) (e : ℕ) → get_or (edge_flags p) e false ≡ true → e < edge_bound p
edge_below p e l = let h = live_below (edge_flags p) e l in omega (arith, length_edge_flags p)

-- one direction of an added edge
module _ (p : Plain) (i : Incidence) (x : ℕ) (live : get_or (node_flags p) x false ≡ true) (h : Incident (edge_flags p) (node_bound p) i) where
  added_incident : Incident (edge_flags p ++ (true ∷ [])) (node_bound p) (attached (edge_bound p) x i)
  added_incident =
      subst (λ (n : ℕ). Incident (edge_flags p ++ (true ∷ [])) (node_bound p) (attached n x i)) (length_edge_flags p)
      (attached_incident x (node_below p x live) h)

  added_live : ((e : ℕ) → get_or (edge_flags p) e false ≡ true → get_or (node_flags p) (get_or i.ends e 0) false ≡ true)
      → (e : ℕ) → get_or (edge_flags p ++ (true ∷ [])) e false ≡ true → get_or (node_flags p) (get_or (i.ends ++ (x ∷ [])) e 0) false ≡ true
  added_live k e l =
      rw (attached_end x (node_below p x live) h e)
      (by_test (eqb e (length (edge_flags p))) (λ q. rw q live)
      (λ q. rw q (k e (rw (get_or_snoc (edge_flags p) e true false, q) at l))))

pub edge_added_well_formed : {caps : Capacities} {p : Plain} (s t : ℕ) (v : EdgePayload) → get_or (node_flags p) s false ≡ true → get_or (node_flags p) t false ≡ true
    → Weighed v → edge_bound p < caps.edges → WellFormed caps p → WellFormed caps (edge_added s t v p)
unfolding edge_added
edge_added_well_formed {caps} {p} s t v live-s live-t weighed room h =
    let slot : EdgeSlot = record { payload = v; live = true } in
    let flags = map_snoc (λ (s : EdgeSlot). s.live) p.edges slot in
    record {
      nodes_within = h.nodes_within;
      edges_within = rw (snoc_length p.edges slot) (omega arith);
      outgoing = rw flags (added_incident p p.outgoing s live-s h.outgoing);
      incoming = rw flags (added_incident p p.incoming t live-t h.incoming);
      ends_live = each_way _ (λ e l. added_live p p.outgoing s live-s h.outgoing (h.ends_live Outgoing) e (rw flags at l))
          (λ e l. added_live p p.incoming t live-t h.incoming (h.ends_live Incoming) e (rw flags at l));
      node_payloads = h.node_payloads;
      edge_payloads = λ e. rw (get_or_snoc p.edges e slot no_edge) (by_test (eqb e (length p.edges)) (λ q. rw q weighed) (λ q. rw q (h.edge_payloads e)));
    }

-- a flag that is set after another was cleared was set before
live_cleared : (flags : List Bool) (e k : ℕ) → e < length flags → get_or (set flags e false) k false ≡ true → get_or flags k false ≡ true
live_cleared flags e k low l =
    let m = rw (get_d_set flags e k false false low) at l in
    by_test (eqb k e) (λ q. absurd (false≢true (rw q at m))) (λ q. rw q at m)

pub edge_removed_flags : (e : ℕ) (p : Plain) → edge_flags (edge_removed e p) ≡ set (edge_flags p) e false
unfolding edge_removed
edge_removed_flags e p = map_set (λ (s : EdgeSlot). s.live) p.edges e (killed_edge (get_or p.edges e no_edge))

pub edge_removed_well_formed : {caps : Capacities} {p : Plain} (e : ℕ) → e < edge_bound p → WellFormed caps p → WellFormed caps (edge_removed e p)
unfolding edge_removed
edge_removed_well_formed {caps} {p} e low h =
    let flags = edge_removed_flags e p in
    let below : e < length (edge_flags p) = rw (length_edge_flags p) low in
    record {
      nodes_within = h.nodes_within;
      edges_within = rw (length-set p.edges e (killed_edge (get_or p.edges e no_edge))) h.edges_within;
      outgoing = rw flags (detached_incident e below h.outgoing);
      incoming = rw flags (detached_incident e below h.incoming);
      ends_live = each_way _ (λ k l. h.ends_live Outgoing k (live_cleared (edge_flags p) e k below (rw flags at l)))
          (λ k l. h.ends_live Incoming k (live_cleared (edge_flags p) e k below (rw flags at l)));
      node_payloads = h.node_payloads;
      edge_payloads = λ k. rw (get_d_set p.edges e k (killed_edge (get_or p.edges e no_edge)) no_edge low)
          (by_test (eqb k e) (λ q. rw q (h.edge_payloads e)) (λ q. rw q (h.edge_payloads k)));
    }

pub edge_removed_bound : (e : ℕ) (p : Plain) → edge_bound (edge_removed e p) ≡ edge_bound p
unfolding edge_removed
edge_removed_bound e p = length-set p.edges e (killed_edge (get_or p.edges e no_edge))

-- ---- several edges removed

-- which edges are live afterwards: those that were, less those removed
pub edges_removed_live : (es : List ℕ) (p : Plain) → ((e : ℕ) → member e es ≡ true → e < edge_bound p) → (k : ℕ)
    → get_or (edge_flags (edges_removed es p)) k false ≡ (get_or (edge_flags p) k false && not (member k es))
unfolding edges_removed member
edges_removed_live [] p h k = sym (and_true (get_or (edge_flags p) k false))
edges_removed_live (e ∷ es) p h k =
    let low : e < edge_bound p = h e (rw (eq-eqb e e refl)) in
    edges_removed_live es (edge_removed e p) (λ y m. rw (edge_removed_bound e p) (h y (rw (m, or_true (eqb y e))))) k
    ∙ rw (edge_removed_flags e p, get_d_set (edge_flags p) e k false false (rw (length_edge_flags p) low))
    (by_test (eqb k e) (λ q. rw (q, and_false (get_or (edge_flags p) k false))) (λ q. rw q))

pub edges_removed_well_formed : {caps : Capacities} (es : List ℕ) {p : Plain} → ((e : ℕ) → member e es ≡ true → e < edge_bound p)
    → WellFormed caps p → WellFormed caps (edges_removed es p)
unfolding edges_removed member
edges_removed_well_formed [] h w = w
edges_removed_well_formed (e ∷ es) {p} h w =
    edges_removed_well_formed es (λ y m. rw (edge_removed_bound e p) (h y (rw (m, or_true (eqb y e)))))
    (edge_removed_well_formed e (h e (rw (eq-eqb e e refl))) w)

-- a removed edge is deleted from every list, its end's and, where it does not stand, any other's
pub edge_removed_list : {caps : Capacities} {p : Plain} (e : ℕ) → e < edge_bound p → WellFormed caps p → (d : TraversalDirection) (x : ℕ)
    → list_of d (edge_removed e p) x ≡ without e (list_of d p x)
unfolding edge_removed
edge_removed_list {p = p} e low h d x = direction d
  where
    lists : (i : Incidence) → Incident (edge_flags p) (node_bound p) i → list_at (detached e i) x ≡ without e (list_at i x)
    lists i k =
        let below : e < length (edge_flags p) = rw (length_edge_flags p) low in
        detached_list e below k x
        ∙ by_test (eqb x (end_at i e)) (λ q. rw (q, eqb-true x (end_at i e) q)) (λ q. rw (q, without_absent e (list_at i x) (elsewhere e below k x q)))

    direction : (d : TraversalDirection) → list_of d (edge_removed e p) x ≡ without e (list_of d p x)
    direction Outgoing = lists p.outgoing h.outgoing
    direction Incoming = lists p.incoming h.incoming

-- what several removals leave of each list
pub edges_removed_list : {caps : Capacities} (es : List ℕ) {p : Plain} → ((e : ℕ) → member e es ≡ true → e < edge_bound p) → WellFormed caps p
    → (d : TraversalDirection) (x : ℕ) → list_of d (edges_removed es p) x ≡ without_all es (list_of d p x)
unfolding edges_removed without_all member
edges_removed_list [] h w d x = refl
edges_removed_list (e ∷ es) {p} h w d x =
    let low : e < edge_bound p = h e (rw (eq-eqb e e refl)) in
    edges_removed_list es (λ y m. rw (edge_removed_bound e p) (h y (rw (m, or_true (eqb y e))))) (edge_removed_well_formed e low w) d x
    ∙ ap (without_all es) (edge_removed_list e low w d x)

-- nodes and ends stay
pub edges_removed_nodes : (es : List ℕ) (p : Plain) → (edges_removed es p).nodes ≡ p.nodes
unfolding edges_removed edge_removed
edges_removed_nodes [] p = refl
edges_removed_nodes (e ∷ es) p = edges_removed_nodes es (edge_removed e p)

pub edges_removed_ends : (es : List ℕ) (p : Plain) (d : TraversalDirection) → (incidence d (edges_removed es p)).ends ≡ (incidence d p).ends
unfolding edges_removed edge_removed
edges_removed_ends [] p d = refl
edges_removed_ends (e ∷ es) p Outgoing = edges_removed_ends es (edge_removed e p) Outgoing
edges_removed_ends (e ∷ es) p Incoming = edges_removed_ends es (edge_removed e p) Incoming

-- ---- a node removed

-- a node whose edges are all removed
node_killed_well_formed : {caps : Capacities} {p : Plain} (x : ℕ) → x < node_bound p
    → ((d : TraversalDirection) (e : ℕ) → get_or (edge_flags p) e false ≡ true → eqb (end_of d p e) x ≡ false) → WellFormed caps p
    → WellFormed caps (record { nodes = set p.nodes x (killed_node (get_or p.nodes x no_node)); edges = p.edges; outgoing = p.outgoing; incoming = p.incoming })
node_killed_well_formed {caps} {p} x low apart h =
    let slot : NodeSlot = killed_node (get_or p.nodes x no_node) in
    let live : (d : TraversalDirection) (e : ℕ) → get_or (edge_flags p) e false ≡ true → get_or (map (λ (s : NodeSlot). s.live) (set p.nodes x slot)) (end_of d p e) false ≡ true =
    λ d e l. rw (
      map_set (λ (s : NodeSlot). s.live) p.nodes x slot,
      get_d_set (node_flags p) x (end_of d p e) false false (rw (length_node_flags p) low),
      apart d e l,
    ) (h.ends_live d e l) in
    record {
      nodes_within = rw (length-set p.nodes x slot) h.nodes_within;
      edges_within = h.edges_within;
      outgoing = rw (length-set p.nodes x slot) h.outgoing;
      incoming = rw (length-set p.nodes x slot) h.incoming;
      ends_live = each_way _ (live Outgoing) (live Incoming);
      node_payloads = λ k. rw (get_d_set p.nodes x k slot no_node low) (by_test (eqb k x) (λ q. rw q (h.node_payloads x)) (λ q. rw q (h.node_payloads k)));
      edge_payloads = h.edge_payloads;
    }

module _ {caps : Capacities} {p : Plain} (x : ℕ) (live : get_or (node_flags p) x false ≡ true) (h : WellFormed caps p) where
  both_lists : List ℕ
  both_lists = list_of Outgoing p x ++ list_of Incoming p x

  -- an edge in a list of the node is in both lists joined
  in_both : (d : TraversalDirection) (e : ℕ) → member e (list_of d p x) ≡ true → member e both_lists ≡ true
  unfolding both_lists
  in_both Outgoing e m = rw (member_append e (list_of Outgoing p x) (list_of Incoming p x), m)
  in_both Incoming e m = rw (member_append e (list_of Outgoing p x) (list_of Incoming p x), m, or_true (member e (list_of Outgoing p x)))

  listed_below : (d : TraversalDirection) (e : ℕ) → member e (list_of d p x) ≡ true → e < edge_bound p
  listed_below d e m = edge_below p e (and_left (get_or (edge_flags p) e false) (eqb (end_of d p e) x) (sym ((incident h d).listed x e) ∙ m))

  both_below : (e : ℕ) → member e both_lists ≡ true → e < edge_bound p
  unfolding both_lists
  both_below e m =
      let k = rw (member_append e (list_of Outgoing p x) (list_of Incoming p x)) at m in
      by_test (member e (list_of Outgoing p x)) (λ q. listed_below Outgoing e q) (λ q. listed_below Incoming e (or_other k q))

  -- no edge that is left has the node for an end
  end_elsewhere : (d : TraversalDirection) (e : ℕ) → get_or (edge_flags (edges_removed both_lists p)) e false ≡ true
      → eqb (end_of d p e) x ≡ false
  end_elsewhere d e l =
      let k = sym (edges_removed_live both_lists p both_below e) ∙ l in
      let was : get_or (edge_flags p) e false ≡ true = and_left (get_or (edge_flags p) e false) (not (member e both_lists)) k in
      let gone : member e both_lists ≡ false = not-true (member e both_lists) (and_right (get_or (edge_flags p) e false) (not (member e both_lists)) k) in
      refuted (eqb (end_of d p e) x) (λ q. true_false (in_both d e (rw ((incident h d).listed x e, was) q)) gone)

  pub node_removed_well_formed : WellFormed caps (node_removed x p)
  unfolding node_removed both_lists
  node_removed_well_formed =
      node_killed_well_formed x (rw (edges_removed_nodes both_lists p) (node_below p x live))
      (λ d e l. rw (edges_removed_ends both_lists p d) (end_elsewhere d e l)) (edges_removed_well_formed both_lists both_below h)

-- ---- the rest

pub payload_set_well_formed : {caps : Capacities} {p : Plain} (e : ℕ) (v : EdgePayload) → e < edge_bound p → Weighed v → WellFormed caps p
    → WellFormed caps (payload_set e v p)
unfolding payload_set
payload_set_well_formed {caps} {p} e v low weighed h =
    let slot : EdgeSlot = record { payload = v; live = (get_or p.edges e no_edge).live } in
    let flags : map (λ (s : EdgeSlot). s.live) (set p.edges e slot) ≡ edge_flags p = map-set_same (λ (s : EdgeSlot). s.live) p.edges e slot no_edge refl in
    record {
      nodes_within = h.nodes_within;
      edges_within = rw (length-set p.edges e slot) h.edges_within;
      outgoing = rw flags h.outgoing;
      incoming = rw flags h.incoming;
      ends_live = each_way _ (λ k l. h.ends_live Outgoing k (rw flags at l)) (λ k l. h.ends_live Incoming k (rw flags at l));
      node_payloads = h.node_payloads;
      edge_payloads = λ k. rw (get_d_set p.edges e k slot no_edge low) (by_test (eqb k e) (λ q. rw q weighed) (λ q. rw q (h.edge_payloads k)));
    }

pub redirected_well_formed : {caps : Capacities} {p : Plain} (d : TraversalDirection) (e x : ℕ) → get_or (edge_flags p) e false ≡ true
    → get_or (node_flags p) x false ≡ true → (end_of d p e ≡ x → ⊥) → WellFormed caps p → WellFormed caps (with_incidence d (redirected e x (incidence d p)) p)
redirected_well_formed {p = p} d e x live-e live-x other h =
    let apart : eqb x (end_of d p e) ≡ false = ne_eqb x (end_of d p e) (λ q. other (sym q)) in
    with_incident h d (redirected e x (incidence d p)) (redirected_incident e x live-e (node_below p x live-x) (incident h d) apart)
    (λ k l. rw (redirected_end e x live-e (node_below p x live-x) (incident h d) apart k)
    (by_test (eqb k e) (λ q. rw q live-x) (λ q. rw q (h.ends_live d k l))))

pub moved_well_formed : {caps : Capacities} {p : Plain} (d : TraversalDirection) (old new : ℕ) → (old ≡ new → ⊥) → old < node_bound p
    → get_or (node_flags p) new false ≡ true → WellFormed caps p → WellFormed caps (with_incidence d (moved old new (incidence d p)) p)
moved_well_formed {p = p} d old new other low live-new h =
    let apart : eqb new old ≡ false = ne_eqb new old (λ q. other (sym q)) in
    with_incident h d (moved old new (incidence d p)) (moved_incident old new low (node_below p new live-new) (incident h d) apart)
    (λ k l. rw (moved_end old new low (node_below p new live-new) (incident h d) apart k)
    (by_test (member k (list_of d p old)) (λ q. rw q live-new) (λ q. rw q (h.ends_live d k l))))
