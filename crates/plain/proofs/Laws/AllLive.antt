-- Lists in which every slot is live: compaction leaves them as they are, and their image read gives them back. So are the lists of every compact store.
use Rattle.std.specs.Prelude.{ℕ, ◌≤◌, ◌<◌, ◌≡◌, Bool, true, false, List, [], length, get_or, replicate, eqb}
use Rattle.plain.specs.Library.{sym, ap, ◌∙◌, get_or-map, ext_get_or, arith, lt-ltb}
use Rattle.plain.specs.declared.TraversalDirection.{TraversalDirection}
use Rattle.plain.specs.declared.TraversalDirection.TheVariants.{Outgoing, Incoming}
use Rattle.plain.specs.Numbers.{LIMIT}
use Rattle.plain.specs.Lists.{member}
use Rattle.plain.specs.Plain.{Plain, NodeSlot, EdgeSlot, incidence, no_node, no_edge, node_bound, edge_bound, node_flags, edge_flags, list_of, end_of}
use Rattle.plain.specs.Step.{Capacities}
use Rattle.plain.specs.Compaction.{survivors, of_survivors, compacted, rank}
use Rattle.plain.specs.Image.{image, parsed}
use Rattle.plain.specs.WellFormed.{WellFormed}
use Rattle.plain.proofs.Laws.Booleans.{and_left}
use Rattle.plain.proofs.Laws.ListLaws.{map_unchanged}
use Rattle.plain.proofs.Laws.Rank.{rank_all_live, live_all_live, live_count_all_live}
use Rattle.plain.proofs.Laws.Operating.{incident, edge_below, length_edge_flags}
use Rattle.plain.proofs.Laws.Compacting.{survivors_sound, compacted_well_formed, compacted_nodes_live, compacted_edges_live, compacted_node_bound, compacted_edge_bound, compacted_list, compacted_end, compacted_node_payload, compacted_edge_payload}
use Rattle.plain.proofs.Laws.ImageLaws.{read_back}
use Rattle.plain.specs.Laws.AllLive.{AllLive}

-- flags that are all live: each slot below the length is, and its rank is itself
pub live_slot : (flags : List Bool) (n x : ℕ) → flags ≡ replicate n true → x < n → get_or flags x false ≡ true
live_slot flags n x e l = rw (e, live_all_live n x) (lt-ltb x n l)

pub own_rank : (flags : List Bool) (n x : ℕ) → flags ≡ replicate n true → x < n → rank flags x ≡ x
own_rank flags n x e l = rw e (rank_all_live n x (omega arith))

-- two slots are equal whose payloads and flags are
node_ext : {a b : NodeSlot} → a.payload ≡ b.payload → a.live ≡ b.live → a ≡ b
node_ext p l = λ i. record { payload = p i; live = l i }

edge_ext : {a b : EdgeSlot} → a.payload ≡ b.payload → a.live ≡ b.live → a ≡ b
edge_ext p l = λ i. record { payload = p i; live = l i }

module _ (caps : Capacities) (p : Plain) (w : WellFormed caps p) (all : AllLive p) (few_nodes : caps.nodes ≤ LIMIT) (few_edges : caps.edges ≤ LIMIT) where
  same_node_bound : node_bound (compacted p) ≡ node_bound p
  same_node_bound = compacted_node_bound p ∙ rw all.nodes (live_count_all_live (node_bound p))

  same_edge_bound : edge_bound (compacted p) ≡ edge_bound p
  same_edge_bound = compacted_edge_bound p ∙ rw all.edges (live_count_all_live (edge_bound p))

  same_node_flags : node_flags (compacted p) ≡ node_flags p
  same_node_flags =
      compacted_nodes_live p ∙ ap (λ (n : ℕ). replicate n true) (sym (compacted_node_bound p) ∙ same_node_bound) ∙ sym all.nodes

  same_edge_flags : edge_flags (compacted p) ≡ edge_flags p
  same_edge_flags =
      compacted_edges_live p ∙ ap (λ (n : ℕ). replicate n true) (sym (compacted_edge_bound p) ∙ same_edge_bound) ∙ sym all.edges

  same_nodes : (compacted p).nodes ≡ p.nodes
  same_nodes =
      ext_get_or no_node (compacted p).nodes p.nodes same_node_bound
      (λ x l. let low : x < node_bound p = rw same_node_bound at l in
      node_ext
      (rw (own_rank (node_flags p) (node_bound p) x all.nodes low) at (compacted_node_payload p x (live_slot (node_flags p) (node_bound p) x all.nodes low)))
      (sym (get_or-map (λ (s : NodeSlot). s.live) (compacted p).nodes x no_node) ∙ ap (λ (f : List Bool). get_or f x false) same_node_flags
      ∙ get_or-map (λ (s : NodeSlot). s.live) p.nodes x no_node))

  same_edges : (compacted p).edges ≡ p.edges
  same_edges =
      ext_get_or no_edge (compacted p).edges p.edges same_edge_bound
      (λ e l. let low : e < edge_bound p = rw same_edge_bound at l in
      edge_ext
      (rw (own_rank (edge_flags p) (edge_bound p) e all.edges low) at (compacted_edge_payload p e (live_slot (edge_flags p) (edge_bound p) e all.edges low)))
      (sym (get_or-map (λ (s : EdgeSlot). s.live) (compacted p).edges e no_edge) ∙ ap (λ (f : List Bool). get_or f e false) same_edge_flags
      ∙ get_or-map (λ (s : EdgeSlot). s.live) p.edges e no_edge))

  -- an edge in a list is below the bound, and keeps its number
  listed_rank : (d : TraversalDirection) (x e : ℕ) → member e (list_of d p x) ≡ true → rank (edge_flags p) e ≡ e
  listed_rank d x e m =
      own_rank (edge_flags p) (edge_bound p) e all.edges
      (edge_below p e (and_left (get_or (edge_flags p) e false) (eqb (end_of d p e) x) (sym ((incident w d).listed x e) ∙ m)))

  same_incidence : (d : TraversalDirection) → incidence d (compacted p) ≡ incidence d p
  same_incidence d =
      let i = incidence d p in
      let j = incidence d (compacted p) in
      let t = incident w d in
      let u = incident (compacted_well_formed caps p w few_nodes few_edges) d in
      let ends : j.ends ≡ i.ends =
      ext_get_or 0 j.ends i.ends (u.ends_length ∙ ap length same_edge_flags ∙ sym t.ends_length)
      (λ e l. let low : e < edge_bound p = omega (arith, u.ends_length, length_edge_flags (compacted p), same_edge_bound) in
      let there : end_of d p e < node_bound p = t.ends_below e (omega (arith, length_edge_flags p)) in
      rw (own_rank (edge_flags p) (edge_bound p) e all.edges low, own_rank (node_flags p) (node_bound p) (end_of d p e) all.nodes there) at
      (compacted_end p d e (live_slot (edge_flags p) (edge_bound p) e all.edges low))) in
      let lists : j.lists ≡ i.lists =
      ext_get_or [] j.lists i.lists (u.lists_length ∙ same_node_bound ∙ sym t.lists_length)
      (λ x l. let low : x < node_bound p = omega (arith, u.lists_length, same_node_bound) in
      (rw (own_rank (node_flags p) (node_bound p) x all.nodes low) at (compacted_list p d x (live_slot (node_flags p) (node_bound p) x all.nodes low)))
      ∙ map_unchanged (rank (edge_flags p)) (list_of d p x) (listed_rank d x)) in
      λ k. record { ends = ends k; lists = lists k }

  -- compaction leaves lists in which every slot is live
  pub compacted_same : compacted p ≡ p
  compacted_same = λ k. record {
    nodes = same_nodes k;
    edges = same_edges k;
    outgoing = same_incidence Outgoing k;
    incoming = same_incidence Incoming k;
  }

  -- reading the image that was written of them gives the lists back
  pub lists_read_back : of_survivors (parsed (image (survivors p))) ≡ p
  unfolding compacted
  lists_read_back = ap of_survivors (read_back (survivors p) (survivors_sound caps p w few_nodes few_edges)) ∙ compacted_same
