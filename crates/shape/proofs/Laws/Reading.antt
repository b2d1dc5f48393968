-- What the shape of a store's words holds: flags, bounds, ends and adjacencies, each by the words that it is read from.
use Rattle.std.specs.Prelude.{ℕ, ◌<◌, ◌≡◌, refl, Bool, false, List, map, length, get_or}
use Rattle.plain.specs.Library.{sym, ap, ◌∙◌, map-map, length-map, zero-add, ltb-true}
use Rattle.plain.specs.declared.TraversalDirection.{TraversalDirection}
use Rattle.plain.specs.declared.TraversalDirection.TheVariants.{Outgoing, Incoming}
use Rattle.plain.specs.declared.Counts.{Counts}
use Rattle.plain.specs.Lists.{from}
use Rattle.plain.specs.Plain.{NodeSlot, EdgeSlot, incidence, end_of, node_bound, edge_bound, node_flags, edge_flags, no_node, no_edge}
use Rattle.plain.proofs.Laws.ListLaws.{get_d_map, get_or_from, length_from, map_get_or, map_same, member_below}
use Rattle.liveness.specs.Flags.{live_flags}
use Rattle.liveness.specs.Laws.Flags.{length_flags}
use Rattle.shape.specs.Columns.{end_at}
use Rattle.shape.proofs.Laws.Refining.{ends_of}
use Rattle.shape.specs.Shape.{Axis, node_capacity, edge_capacity, plain_of, adjacency_of, Words, node_live, edge_live, node_slot_at, edge_payload_at, edge_slot_at, axis_words, adjacency_in, axis_of, shape_of, axis_in, no_adjacency, node_flags_of, edge_flags_of}

-- a list made of the slots below n: its length, and an entry
module _ {A : Type 0} (f : ℕ → A) (n : ℕ) where
  pub made_length : length (map f (from 0 n)) ≡ n
  made_length = length-map (from 0 n) f ∙ length_from 0 n

  pub made_at : (x : ℕ) (d : A) → x < n → get_or (map f (from 0 n)) x d ≡ f x
  made_at x d l = get_d_map f (from 0 n) x 0 d (rw (length_from 0 n) l) ∙ ap f (get_or_from 0 n x 0 l ∙ zero-add x)

-- made by functions that agree there
pub made_same : {A : Type 0} (f g : ℕ → A) (n : ℕ) → ((x : ℕ) → x < n → g x ≡ f x) → map g (from 0 n) ≡ map f (from 0 n)
made_same f g n same = map_same g f (from 0 n) (λ x m. same x (ltb-true x n (sym (member_below x n) ∙ m)))

-- flags that are those of live words
made_flags : {A : Type 0} (slot : ℕ → A) (live_of_lem : A → Bool) (words : List ℕ) (n : ℕ) → ((x : ℕ) → live_of_lem (slot x) ≡ get_or (live_flags words n) x false)
    → map live_of_lem (map slot (from 0 n)) ≡ live_flags words n
made_flags slot live_of_lem words n are =
    map-map live_of_lem slot (from 0 n) ∙ map_same (λ x. live_of_lem (slot x)) (λ x. get_or (live_flags words n) x false) (from 0 n) (λ x m. are x)
    ∙ ap (λ (k : ℕ). map (λ x. get_or (live_flags words n) x false) (from 0 k)) (sym (length_flags words n)) ∙ map_get_or (live_flags words n) false

module _ (w : Words) where
  pub node_bound_is : length (shape_of w).nodes ≡ w.counts.nodes.bound
  unfolding shape_of
  node_bound_is = made_length (node_slot_at w) w.counts.nodes.bound

  pub edge_bound_is : length (shape_of w).edges ≡ w.counts.edges.bound
  unfolding shape_of
  edge_bound_is = made_length (edge_slot_at w) w.counts.edges.bound

  -- payloads
  pub node_at : (x : ℕ) → x < w.counts.nodes.bound → (get_or (shape_of w).nodes x no_node).payload ≡ get_or w.nodes x 0
  unfolding shape_of
  node_at x l = ap (λ (s : NodeSlot). s.payload) (made_at (node_slot_at w) w.counts.nodes.bound x no_node l)

  pub edge_at : (e : ℕ) → e < w.counts.edges.bound → (get_or (shape_of w).edges e no_edge).payload ≡ edge_payload_at w e
  unfolding shape_of
  edge_at e l = ap (λ (s : EdgeSlot). s.payload) (made_at (edge_slot_at w) w.counts.edges.bound e no_edge l)

  pub node_flags_are : node_flags_of (shape_of w) ≡ node_live w
  unfolding shape_of
  node_flags_are = made_flags (node_slot_at w) (λ (s : NodeSlot). s.live) w.live_nodes w.counts.nodes.bound (λ x. refl)

  pub edge_flags_are : edge_flags_of (shape_of w) ≡ edge_live w
  unfolding shape_of
  edge_flags_are = made_flags (edge_slot_at w) (λ (s : EdgeSlot). s.live) w.live_edges w.counts.edges.bound (λ e. refl)

  -- one direction
  pub axis_is : (d : TraversalDirection) → axis_in d (shape_of w) ≡ axis_of (axis_words d w) (edge_capacity w) (node_capacity w) w.counts
  unfolding shape_of
  axis_is Outgoing = refl
  axis_is Incoming = refl

-- the words of one axis
module _ (ws : List ℕ) (ce cn : ℕ) (counts : Counts) where
  pub axis_ends : length (axis_of ws ce cn counts).ends ≡ counts.edges.bound
  unfolding axis_of
  axis_ends = made_length (λ e. get_or ws e 0) counts.edges.bound

  pub axis_end : (e : ℕ) → e < counts.edges.bound → get_or (axis_of ws ce cn counts).ends e 0 ≡ end_at ws e
  unfolding axis_of
  axis_end e l = made_at (λ e. get_or ws e 0) counts.edges.bound e 0 l

  pub axis_nodes : length (axis_of ws ce cn counts).nodes ≡ counts.nodes.bound
  unfolding axis_of
  axis_nodes = made_length (adjacency_in ws ce cn counts) counts.nodes.bound

  pub axis_adjacency : (x : ℕ) → x < counts.nodes.bound → get_or (axis_of ws ce cn counts).nodes x no_adjacency ≡ adjacency_in ws ce cn counts x
  unfolding axis_of
  axis_adjacency x l = made_at (adjacency_in ws ce cn counts) counts.nodes.bound x no_adjacency l

module _ (w : Words) where
  -- a node's adjacency in the shape is the one that the words of its axis have
  pub shape_adjacency : (d : TraversalDirection) (x : ℕ) → x < w.counts.nodes.bound
      → adjacency_of d (shape_of w) x ≡ adjacency_in (axis_words d w) (edge_capacity w) (node_capacity w) w.counts x
  shape_adjacency d x l =
      ap (λ (a : Axis). get_or a.nodes x no_adjacency) (axis_is w d) ∙ axis_adjacency (axis_words d w) (edge_capacity w) (node_capacity w) w.counts x l

  -- bounds and flags of the plain lists are the store's
  pub plain_node_bound : node_bound (plain_of (shape_of w)) ≡ w.counts.nodes.bound
  unfolding plain_of
  plain_node_bound = node_bound_is w

  pub plain_edge_bound : edge_bound (plain_of (shape_of w)) ≡ w.counts.edges.bound
  unfolding plain_of
  plain_edge_bound = edge_bound_is w

  pub plain_node_flags : node_flags (plain_of (shape_of w)) ≡ node_live w
  unfolding plain_of
  plain_node_flags = node_flags_are w

  pub plain_edge_flags : edge_flags (plain_of (shape_of w)) ≡ edge_live w
  unfolding plain_of
  plain_edge_flags = edge_flags_are w

  -- the ends in the plain lists are those that the words of the axis have
  pub plain_ends : (d : TraversalDirection) → (incidence d (plain_of (shape_of w))).ends ≡ (axis_of (axis_words d w) (edge_capacity w) (node_capacity w) w.counts).ends
  plain_ends d = ends_of (shape_of w) d ∙ ap (λ (a : Axis). a.ends) (axis_is w d)

  pub plain_end : (d : TraversalDirection) (e : ℕ) → e < w.counts.edges.bound → end_of d (plain_of (shape_of w)) e ≡ end_at (axis_words d w) e
  plain_end d e l =
      ap (λ (k : List ℕ). get_or k e 0) (plain_ends d) ∙ axis_end (axis_words d w) (edge_capacity w) (node_capacity w) w.counts e l
