-- The lists that compaction takes over, of a whole store: they are the plain lists of its live nodes; and where the store is checked they can be written to a
-- slice with room for its live edges.
use Rattle.std.specs.Prelude.{ℕ, ◌<◌, ◌≤◌, ◌≡◌, refl, Bool, false, true, List, [], ◌++◌, ◌∷◌, map, get_or, length, eqb}
use Rattle.plain.specs.Library.{◌∙◌, ap, sym, length-map, arith}
use Rattle.std.proofs.lemmas.List.{map-append}
use Rattle.plain.specs.declared.TraversalDirection.{TraversalDirection}
use Rattle.plain.specs.declared.TraversalDirection.TheVariants.{Incoming, Outgoing}
use Rattle.plain.specs.Compaction.{rank, source_of, surviving_list, survivors, target_of}
use Rattle.plain.proofs.Laws.Booleans.{and_left}
use Rattle.plain.proofs.Laws.Compacting.{length_surviving_edges, survivors_sound}
use Rattle.plain.proofs.Laws.ImageLaws.{fitted_joined}
use Rattle.plain.proofs.Laws.ListLaws.{joined_member, map_same, member_get_or_map}
use Rattle.plain.proofs.Laws.Operating.{incident}
use Rattle.plain.proofs.Laws.Rank.{live_below, member_live_slots}
use Rattle.plain.specs.Lists.{joined, member}
use Rattle.plain.specs.Numbers.{LIMIT}
use Rattle.plain.specs.Plain.{Plain, edge_flags, end_of, list_of, node_flags}
use Rattle.plain.specs.Reads.{live_count, live_slots}
use Rattle.plain.specs.Step.{Capacities}
use Rattle.plain.specs.WellFormed.{WellFormed}
use Rattle.liveness.specs.Laws.Flags.{length_flags}
use Rattle.shape.specs.Chains.{In}
use Rattle.shape.specs.Checked.{Checked}
use Rattle.shape.proofs.Laws.Reading.{plain_edge_flags, plain_node_flags}
use Rattle.shape.specs.Shape.{Words, axis_words, edge_capacity, edge_live, lists, node_capacity, node_live}
use Rattle.adjacency.specs.Laws.StoreWalks.{checked_walkable, list_is_walk}
use Rattle.adjacency.specs.Walk.{walk_in}
use Rattle.survivors.specs.Lists.{ListsFit, live_walks, walks_in}

-- ---- the lists of the live nodes of well-formed plain lists

-- each list mapped, joined, is all of them joined, mapped
joined_mapped : (f : ℕ → ℕ) (list : ℕ → List ℕ) (xs : List ℕ) → map f (joined (map list xs)) ≡ joined (map (λ x. map f (list x)) xs)
unfolding joined
joined_mapped f list [] = refl
joined_mapped f list (x ∷ xs) = map-append f (list x) (joined (map list xs)) ∙ ap (λ (l : List ℕ). map f (list x) ++ l) (joined_mapped f list xs)

module _ (p : Plain) (d : TraversalDirection) where
  abbrev live_lists : List ℕ
  live_lists = joined (map (list_of d p) (live_slots (node_flags p)))

  -- the lists of the live nodes by new numbers are those that survive
  renumbered_lists : map (rank (edge_flags p)) live_lists ≡ joined (map (surviving_list d p) (live_slots (node_flags p)))
  renumbered_lists = joined_mapped (rank (edge_flags p)) (list_of d p) (live_slots (node_flags p))

  renumbered_size : length live_lists ≡ length (joined (map (surviving_list d p) (live_slots (node_flags p))))
  renumbered_size = sym (length-map live_lists (rank (edge_flags p))) ∙ ap length renumbered_lists

  -- and only live edges are in them
  live_entries : {caps : Capacities} → WellFormed caps p → (e : ℕ) → In e live_lists → get_or (edge_flags p) e false ≡ true
  live_entries h e m =
      let slots = live_slots (node_flags p) in
      let found = joined_member e (map (list_of d p) slots) m in
      let x = get_or slots found.0 0 in
      and_left (get_or (edge_flags p) e false) (eqb (end_of d p e) x)
      (sym ((incident h d).listed x e) ∙ (member_get_or_map (list_of d p) slots found.0 e found.1).1)

-- they have an entry a live edge
well_formed_total : {caps : Capacities} {p : Plain} → WellFormed caps p → caps.nodes ≤ LIMIT → caps.edges ≤ LIMIT → (d : TraversalDirection)
    → length (joined (map (list_of d p) (live_slots (node_flags p)))) ≡ live_count (edge_flags p)
unfolding survivors
well_formed_total {caps} {p} h few_nodes few_edges Outgoing =
    renumbered_size p Outgoing ∙ fitted_joined (survivors_sound caps p h few_nodes few_edges).outs
    ∙ length-map (survivors p).edges source_of ∙ length_surviving_edges p
well_formed_total {caps} {p} h few_nodes few_edges Incoming =
    renumbered_size p Incoming ∙ fitted_joined (survivors_sound caps p h few_nodes few_edges).ins
    ∙ length-map (survivors p).edges target_of ∙ length_surviving_edges p

-- ---- a checked store

-- the walks written are the lists of the live nodes
walks_are : (w : Words) (d : TraversalDirection)
    → walks_in d w ≡ joined (map (list_of d (lists w)) (live_slots (node_live w)))
unfolding live_walks
walks_are w d = ap joined (map_same
    (λ x. walk_in (axis_words d w) (edge_capacity w) (node_capacity w) w.counts w.live_edges x true) (list_of d (lists w))
    (live_slots (node_live w)) each)
  where
    each : (x : ℕ) → member x (live_slots (node_live w)) ≡ true
        → walk_in (axis_words d w) (edge_capacity w) (node_capacity w) w.counts w.live_edges x true ≡ list_of d (lists w) x
    each x m =
        let live : get_or (node_live w) x false ≡ true = sym (member_live_slots (node_live w) x) ∙ m in
        let node : x < w.counts.nodes.bound = rw (length_flags w.live_nodes w.counts.nodes.bound) at (live_below (node_live w) x live) in
        sym (list_is_walk w d x node ∙ rw live)

module _ {w : Words} (k : Checked w) (d : TraversalDirection) where
  abbrev walks : List ℕ
  walks = walks_in d w

  -- by new numbers they are those that survive
  pub lists_renumbered : map (rank (edge_live w)) walks ≡ joined (map (surviving_list d (lists w)) (live_slots (node_live w)))
  lists_renumbered =
      rw (walks_are w d)
      (rw (plain_node_flags w, plain_edge_flags w) at (renumbered_lists (lists w) d))

  -- they hold only live edges
  pub lists_live : (e : ℕ) → In e walks → get_or (edge_live w) e false ≡ true
  lists_live e m =
      rw (plain_edge_flags w) at
      (live_entries (lists w) d k.walks e
      (ap (λ (flags : List Bool). member e (joined (map (list_of d (lists w)) (live_slots flags)))) (plain_node_flags w)
      ∙ ap (member e) (sym (walks_are w d)) ∙ m))

  -- they have an entry a live edge
  pub lists_total : length walks ≡ live_count (edge_live w)
  lists_total =
      let total = well_formed_total k.walks (k.axis d).sized.nodes_within (k.axis d).sized.edges_within d in
      ap length (walks_are w d) ∙ rw (plain_node_flags w, plain_edge_flags w) at total

  -- so they can be written where there is room for the live edges
  pub checked_writable : {out : List ℕ} → live_count (edge_live w) ≤ length out → ListsFit d w out
  checked_writable room = record {
    walkable = λ x node. checked_walkable k d x node;
    live_long = let long = k.nodes.live_long in let bounded = k.nodes.bounded in omega arith;
    counted = lists_total ∙ sym k.edges.live.live_right;
    fits = let right = k.edges.live.live_right in omega arith;
  }
