-- A node's degree and total by the walk of its words are those of the plain lists.
use Rattle.std.specs.Prelude.{ℕ, ◌<◌, ◌≡◌, Bool, false, map, length, get_or}
use Rattle.plain.specs.Library.{arith, sym, ap, ◌∙◌, map-map}
use Rattle.plain.specs.declared.TraversalDirection.{TraversalDirection}
use Rattle.plain.specs.declared.EdgePayload.{EdgePayload}
use Rattle.plain.specs.Plain.{low_of, high_of, no_edge, list_of}
use Rattle.plain.specs.Reads.{payloads_of}
use Rattle.plain.proofs.Laws.ListLaws.{map_same}
use Rattle.plain.proofs.Laws.Totals.{list_within}
use Rattle.shape.specs.Chains.{In}
use Rattle.shape.specs.Shape.{Words, node_capacity, edge_capacity, node_live, edge_payload_at, axis_words, plain_of, lists}
use Rattle.shape.specs.Checked.{Checked}
use Rattle.shape.proofs.Laws.Reading.{edge_at}
use Rattle.plain.specs.declared.Sums.{Sums}
use Rattle.cursor.specs.Summing.{sums_of}
use Rattle.adjacency.specs.Walk.{walk_in, WalkSummable}
use Rattle.adjacency.specs.Laws.Walk.{walk_below}
use Rattle.adjacency.specs.Laws.StoreWalks.{checked_walkable, list_is_walk}
use Rattle.adjacency.specs.Reads.{sums_in}

module _ {w : Words} (checked : Checked w) where
  -- the degree of a node, by the walk of its words
  pub degree_read : (d : TraversalDirection) (x : ℕ) → x < w.counts.nodes.bound → {live : Bool} → live ≡ get_or (node_live w) x false → {answer : ℕ}
      → answer ≡ length (walk_in (axis_words d w) (edge_capacity w) (node_capacity w) w.counts w.live_edges x live)
      → answer ≡ length (list_of d (lists w) x)
  degree_read d x below is walked =
      walked ∙ ap (λ (b : Bool). length (walk_in (axis_words d w) (edge_capacity w) (node_capacity w) w.counts w.live_edges x b)) is
      ∙ sym (ap length (list_is_walk w d x below))

  -- a payload of the plain lists, by both its words
  payload_read : (e : ℕ) → e < w.counts.edges.bound → (get_or (lists w).edges e no_edge).payload ≡ edge_payload_at w e
  unfolding plain_of
  payload_read e below = edge_at w e below

  module _ (d : TraversalDirection) (x : ℕ) (below : x < w.counts.nodes.bound) {live : Bool} (is : live ≡ get_or (node_live w) x false) where
    -- the walk of the words is the list
    walk_read : walk_in (axis_words d w) (edge_capacity w) (node_capacity w) w.counts w.live_edges x live ≡ list_of d (lists w) x
    walk_read = rw is (sym (list_is_walk w d x below))

    -- it can be summed over
    pub checked_summable : WalkSummable (axis_words d w) (edge_capacity w) (node_capacity w) w.counts w.live_edges x live w.lows w.highs
    checked_summable = record {
      walkable = checked_walkable checked d x below;
      few = rw walk_read (omega (arith, list_within checked.walks d x, checked.walks.edges_within, (checked.axis d).sized.edges_within));
      lows_long = omega arith;
      highs_long = checked.highs_long;
    }

    -- the total of a node, by the walk of its words
    pub total_read : {answer : Sums} → answer ≡ sums_of w.lows w.highs (walk_in (axis_words d w) (edge_capacity w) (node_capacity w) w.counts w.live_edges x live)
        → answer ≡ sums_in d (lists w) x
    total_read summed = summed ∙ rw (walk_read, same low_of, same high_of)
      where
        entry_below : (e : ℕ) → In e (list_of d (lists w) x) → e < w.counts.edges.bound
        entry_below e m = walk_below (checked_walkable checked d x below) live e (rw walk_read m)

        same : (f : EdgePayload → ℕ) → map f (payloads_of d (lists w) x) ≡ map (λ e. f (edge_payload_at w e)) (list_of d (lists w) x)
        same f =
            map-map f (λ e. (get_or (lists w).edges e no_edge).payload) (list_of d (lists w) x)
            ∙ map_same (λ e. f (get_or (lists w).edges e no_edge).payload) (λ e. f (edge_payload_at w e)) (list_of d (lists w) x)
            (λ e m. ap f (payload_read e (entry_below e m)))
