-- What is left of a checked store, read from its words: the payloads of its survivors, and their ends by a node map. For compaction, which moves them down in place, and for
-- joining, which copies them to another memory.
use Rattle.std.specs.Prelude.{ℕ, ◌+◌, ◌<◌, ◌≡◌, refl, Bool, false, true, List, map, get_or, length}
use Rattle.plain.specs.Library.{◌∙◌, ap, ap₂, sym, map-map, arith}
use Rattle.plain.specs.declared.EdgePayload.{EdgePayload}
use Rattle.plain.specs.declared.TraversalDirection.{TraversalDirection}
use Rattle.plain.specs.declared.TraversalDirection.TheVariants.{Incoming, Outgoing}
use Rattle.plain.specs.Compaction.{EdgeRecord, Survivors, rank, source_of, surviving_edge, survivors, target_of}
use Rattle.plain.specs.Joining.{raised}
use Rattle.plain.specs.Plain.{edge_flags, end_of, high_of, low_of, no_edge, no_node, node_flags}
use Rattle.plain.specs.Reads.{live_count, live_slots}
use Rattle.plain.specs.WellFormed.{Sound}
use Rattle.plain.proofs.Laws.Compacting.{length_surviving_edges, length_surviving_nodes, survivors_sound}
use Rattle.plain.specs.Laws.ImageBits.{record_high, record_low}
use Rattle.plain.proofs.Laws.ListLaws.{map_same}
use Rattle.plain.proofs.Laws.Rank.{live_below, member_live_slots}
use Rattle.liveness.specs.Laws.Flags.{length_flags}
use Rattle.liveness.specs.Flags.{live_flags}
use Rattle.shape.specs.Checked.{Checked}
use Rattle.shape.specs.Columns.{end_at}
use Rattle.shape.specs.Shape.{Words, axis_words, capacities, edge_live, lists, node_live, plain_of, shape_of, edge_payload_at}
use Rattle.shape.proofs.Laws.Ends.{checked_end}
use Rattle.survivors.specs.Slots.{live_words_of}
use Rattle.shape.proofs.Laws.Reading.{edge_at, node_at, plain_edge_flags, plain_end, plain_node_flags}
use Rattle.survivors.specs.Laws.Left.{end_in}

-- a live slot is below its bound
pub slot_low : (live : List ℕ) (bound x : ℕ) → get_or (live_flags live bound) x false ≡ true → x < bound
slot_low live bound x l = let low = live_below (live_flags live bound) x l in omega (arith, length_flags live bound)

-- functions that agree on the live slots
live_same : {A : Type 0} (f g : ℕ → A) (flags : List Bool) → ((x : ℕ) → get_or flags x false ≡ true → f x ≡ g x) → map f (live_slots flags) ≡ map g (live_slots flags)
live_same f g flags each = map_same f g (live_slots flags) (λ x m. each x (sym (member_live_slots flags x) ∙ m))

-- the ends of the survivors are the new ends of the live edges
ends_survive : (w : Words) (d : TraversalDirection)
    → map (λ e. rank (node_flags (lists w)) (end_of d (lists w) e)) (live_slots (edge_flags (lists w))) ≡ map (end_in d) (survivors (lists w)).edges
unfolding survivors
ends_survive w Outgoing = sym (map-map source_of (surviving_edge (lists w)) (live_slots (edge_flags (lists w))))
ends_survive w Incoming = sym (map-map target_of (surviving_edge (lists w)) (live_slots (edge_flags (lists w))))

module _ {w : Words} (k : Checked w) where
  abbrev left : Survivors
  left = survivors (lists w)

  pub left_sound : Sound left
  left_sound = survivors_sound (capacities w) (lists w) k.walks (k.axis Outgoing).sized.nodes_within (k.axis Outgoing).sized.edges_within

  pub left_nodes : length left.nodes ≡ w.counts.nodes.live
  left_nodes = length_surviving_nodes (lists w) ∙ ap live_count (plain_node_flags w) ∙ sym k.nodes.live.live_right

  pub left_edges : length left.edges ≡ w.counts.edges.live
  left_edges = length_surviving_edges (lists w) ∙ ap live_count (plain_edge_flags w) ∙ sym k.edges.live.live_right

  -- ---- payloads

  pub nodes_left : live_words_of w.nodes (node_live w) ≡ left.nodes
  unfolding plain_of survivors
  nodes_left =
      live_same (λ x. get_or w.nodes x 0) (λ x. (get_or (shape_of w).nodes x no_node).payload) (node_live w)
      (λ x l. sym (node_at w x (slot_low w.live_nodes w.counts.nodes.bound x l)))
      ∙ ap (λ (f : List Bool). map (λ x. (get_or (shape_of w).nodes x no_node).payload) (live_slots f)) (sym (plain_node_flags w))

  -- a column that has a weight of each edge
  weights_left : (words : List ℕ) (weight : EdgePayload → ℕ) → ((e : ℕ) → get_or words e 0 ≡ weight (edge_payload_at w e))
      → live_words_of words (edge_live w) ≡ map (λ (r : EdgeRecord). weight r.payload) left.edges
  unfolding plain_of survivors
  weights_left words weight is =
      live_same (λ e. get_or words e 0) (λ e. weight (get_or (shape_of w).edges e no_edge).payload) (edge_live w)
      (λ e l. is e ∙ ap weight (sym (edge_at w e (slot_low w.live_edges w.counts.edges.bound e l))))
      ∙ ap (λ (f : List Bool). map (λ e. weight (get_or (shape_of w).edges e no_edge).payload) (live_slots f)) (sym (plain_edge_flags w))
      ∙ sym (map-map (λ (r : EdgeRecord). weight r.payload) (surviving_edge (lists w)) (live_slots (edge_flags (lists w))))

  pub lows_left : live_words_of w.lows (edge_live w) ≡ map record_low left.edges
  lows_left = weights_left w.lows low_of (λ e. refl)

  pub highs_left : live_words_of w.highs (edge_live w) ≡ map record_high left.edges
  highs_left = weights_left w.highs high_of (λ e. refl)

  -- ---- ends, by a node map that counts the live nodes from a number on

  pub ends_left : (from : ℕ) (node_map : List ℕ) → ((x : ℕ) → get_or (node_live w) x false ≡ true → get_or node_map x 0 ≡ from + rank (node_live w) x) → (d : TraversalDirection)
      → map (λ e. get_or node_map (end_at (axis_words d w) e) 0) (live_slots (edge_live w)) ≡ raised from (map (end_in d) left.edges)
  ends_left from node_map mapped d =
      live_same (λ e. get_or node_map (end_at (axis_words d w) e) 0) (λ e. from + rank (node_flags (lists w)) (end_of d (lists w) e)) (edge_live w)
      (λ e l. mapped (end_at (axis_words d w) e) (checked_end k d e l)
      ∙ ap₂ (λ (f : List Bool) (x : ℕ). from + rank f x) (sym (plain_node_flags w)) (sym (plain_end w d e (slot_low w.live_edges w.counts.edges.bound e l))))
      ∙ ap (λ (f : List Bool). map (λ e. from + rank (node_flags (lists w)) (end_of d (lists w) e)) (live_slots f)) (sym (plain_edge_flags w))
      ∙ sym (map-map (λ x. from + x) (λ e. rank (node_flags (lists w)) (end_of d (lists w) e)) (live_slots (edge_flags (lists w))))
      ∙ ap (raised from) (ends_survive w d)
