-- The shape of a checked store is proper: its entries are edges of the store, and its walks are well formed. So every operation on it is document 01's.
use Rattle.std.specs.Prelude.{ℕ, ◌+◌, ◌-◌, ◌≤◌, ◌<◌, List, length, eqb, leb, ltb}
use Rattle.plain.specs.Library.{sym, ap, ◌∙◌, ⊎_elim, get_or-eq_default, arith, ltb-true}
use Rattle.plain.specs.declared.TraversalDirection.{TraversalDirection}
use Rattle.plain.specs.declared.Counts.{Counts}
use Rattle.plain.specs.Lists.{member, from}
use Rattle.plain.proofs.Laws.Booleans.{by_test, below_or_not, and_right}
use Rattle.plain.proofs.Laws.ListLaws.{member_source, member_from}
use Rattle.shape.specs.Columns.{cell, mark_at}
use Rattle.shape.specs.Chains.{In}
use Rattle.shape.specs.Shape.{node_capacity, edge_capacity, axis_in, adjacency_in, part, Words, Adjacency, capacities, axis_words, base_of, run_of, ring_of, raw, no_adjacency, adjacency_of, shape_of}
use Rattle.shape.specs.Checked.{Runs, Rings, Index, Checked}
use Rattle.shape.proofs.Laws.Chains.{in_none, ring_below}
use Rattle.shape.proofs.Laws.Frames.{run_list_below}
use Rattle.shape.specs.Laws.NewBase.{base_start, base_end}
use Rattle.shape.proofs.Laws.NewBase.{base_between, base_range}
use Rattle.shape.proofs.Laws.Keeping.{in_either}
use Rattle.shape.specs.Laws.Refining.{Proper}
use Rattle.shape.specs.Laws.Compactness.{Based}
use Rattle.shape.proofs.Laws.Reading.{shape_adjacency, node_bound_is, edge_bound_is, axis_is, axis_nodes}

-- entries of the compressed index are base edges
base_below : (ws : List ℕ) (ce cn bn be : ℕ) → Index ws ce cn bn be → (x e : ℕ) → In e (base_of ws ce cn bn x) → e < be
base_below ws ce cn bn be index x e m =
    let a = base_start ws ce cn bn x in
    let b = base_end ws ce cn bn x in
    let source = member_source (cell ws ce) e (from a (b - a)) (ap (member e) (sym (base_between ws ce cn bn x)) ∙ m) in
    let k = sym (member_from source.0 a (b - a)) ∙ source.1 in
    let low : source.0 < a + (b - a) = ltb-true source.0 (a + (b - a)) (and_right (leb a source.0) (ltb source.0 (a + (b - a))) k) in
    let range = base_range ws ce cn bn index x in
    let here : source.0 < be = omega arith in
    ⊎_elim (λ w. absurd (omega (arith, w.1))) (λ w. let l = w.entries source.0 here in rw (← source.2) l) index

-- the entries of a node's run or base part are edges of the store, and so are those of its ring
module _ (ws : List ℕ) (ce cn : ℕ) (counts : Counts) (within : counts.edges.base ≤ counts.edges.bound)
    (index : Index ws ce cn counts.nodes.base counts.edges.base) (runs : Runs ws ce cn counts.nodes.bound counts.edges.bound)
    (x : ℕ) (node : x < counts.nodes.bound) where
  pub part_below : (e : ℕ) → In e (part (adjacency_in ws ce cn counts x)) → e < counts.edges.bound
  unfolding run_of
  part_below e =
      by_test (eqb (mark_at ws ce cn x) 0)
      (λ q. rw q (λ m. let k = base_below ws ce cn counts.nodes.base counts.edges.base index x e m in omega arith))
      (λ q. rw q (λ m. run_list_below runs x e node m))

  pub raw_below : Rings ws ce counts.nodes.bound counts.edges.base counts.edges.bound → (e : ℕ) → In e (raw (adjacency_in ws ce cn counts x))
      → e < counts.edges.bound
  raw_below rings e m =
      in_either e (part (adjacency_in ws ce cn counts x)) (ring_of ws ce counts.edges.base counts.edges.bound x) m (part_below e)
      (ring_below (rings.ring x node) e)

module _ (w : Words) (c : Checked w) where
  -- every entry of every adjacency is an edge of the store
  entries_low : (d : TraversalDirection) (x e : ℕ) → In e (raw (adjacency_of d (shape_of w) x)) → e < length (shape_of w).edges
  unfolding member
  entries_low d x e m =
      let ce = edge_capacity w in
      let cn = node_capacity w in
      let ws = axis_words d w in
      let axis = c.axis d in
      rw (edge_bound_is w)
      (⊎_elim
      (λ l. raw_below ws ce cn w.counts c.edges.bounded.base_within axis.index axis.runs x l axis.rings e
      (ap (λ (a : Adjacency). member e (raw a)) (sym (shape_adjacency w d x l)) ∙ m))
      (λ l. let past = get_or-eq_default (axis_in d (shape_of w)).nodes no_adjacency (rw (axis_is w d, axis_nodes ws ce cn w.counts) l) in
      in_none e (ap (λ (a : Adjacency). member e (raw a)) (sym past) ∙ m))
      (below_or_not x w.counts.nodes.bound))

  -- the shape of a checked store is proper
  pub checked_proper : Proper (capacities w) (shape_of w)
  checked_proper = record { walks = c.walks; entries_below = entries_low }

  -- its base is within its bounds
  pub checked_based : Based (shape_of w)
  unfolding shape_of
  checked_based = record {
    nodes_within = rw (node_bound_is w) c.nodes.bounded.base_within;
    edges_within = rw (edge_bound_is w) c.edges.bounded.base_within;
  }
