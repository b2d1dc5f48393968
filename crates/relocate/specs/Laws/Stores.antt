-- Redirections and moves of a checked store: what the functions over one axis ask holds of every checked store, dead edges in foreign places included. A live edge
-- in a run is in the walk of the run's node, so it ends there by rule 7; a removed node's run has no live edge.
use Rattle.std.specs.Prelude.{ℕ, zero, suc, ◌<◌, ◌≡◌, refl, Bool, true, false, ◌≢◌, List, [], ◌∷◌, length, get_or, eqb}
use Rattle.plain.specs.Library.{sym, ap, ◌∙◌, subst, Option, none, some, arith, eqb-true}
use Rattle.std.proofs.Common.{not-suc-le-zero, le_of_suc-le-suc}
use Rattle.plain.specs.declared.TraversalDirection.{TraversalDirection}
use Rattle.plain.specs.Lists.{distinct, count}
use Rattle.plain.specs.Reads.{live_count}
use Rattle.plain.specs.Plain.{list_of, end_of, node_flags, edge_flags}
use Rattle.plain.proofs.Laws.Booleans.{by_test, true_false, and_right, both_true}
use Rattle.plain.proofs.Laws.ListLaws.{member_keep, count_length}
use Rattle.plain.proofs.Laws.Rank.{live_below}
use Rattle.plain.proofs.Laws.Operating.{incident}
use Rattle.liveness.specs.Laws.Flags.{length_flags}
use Rattle.shape.specs.Columns.{end_at}
use Rattle.shape.specs.Chains.{In}
use Rattle.shape.specs.Shape.{Words, Adjacency, node_capacity, edge_capacity, adjacency_in, adjacency_of, hiding, raw, live_in, node_live, edge_live, axis_words, shape_of, plain_of, node_flags_of, walk_of, run_list}
use Rattle.shape.specs.Steps.{live_entries}
use Rattle.shape.specs.Checked.{Checked}
use Rattle.shape.proofs.Laws.Chains.{in_none, in_front}
use Rattle.shape.proofs.Laws.Ends.{checked_end}
use Rattle.shape.proofs.Laws.Refining.{list_is_walk}
use Rattle.shape.proofs.Laws.Reading.{edge_flags_are, node_flags_are, shape_adjacency, plain_end}
use Rattle.runs.specs.Laws.Runs.{entries_are, entries_of, alive_below}
use Rattle.relocate.specs.Redirects.{Linked, Relocatable, Placed, Redirectable}
use Rattle.relocate.specs.Moves.{Movable}

-- an entry of a run is read in place of the base part
in_hiding : (run : Option (List ℕ)) (base : List ℕ) (e : ℕ) → In e (entries_of run) → In e (hiding run base)
in_hiding none base e m = in_none e m
in_hiding (some run) base e m = m

-- the flags of the plain lists are those of the words
plain_node_flags : (w : Words) → node_flags (plain_of (shape_of w)) ≡ node_live w
unfolding plain_of
plain_node_flags w = node_flags_are w

plain_edge_flags : (w : Words) → edge_flags (plain_of (shape_of w)) ≡ edge_live w
unfolding plain_of
plain_edge_flags w = edge_flags_are w

-- where as many flags are set as there are, each is
all_counted : (flags : List Bool) → live_count flags ≡ length flags → (x : ℕ) → x < length flags → get_or flags x false ≡ true
unfolding count
all_counted [] q x h = absurd (not-suc-le-zero h)
all_counted (true ∷ flags) q zero h = refl
all_counted (true ∷ flags) q (suc x) h = all_counted flags (omega arith) x (le_of_suc-le-suc h)
all_counted (false ∷ flags) q x h = absurd (let few = count_length (λ (f : Bool). f) flags in omega arith)

module _ {w : Words} (k : Checked w) (d : TraversalDirection) where
  -- the words of the direction and the capacities
  abbrev ws : List ℕ
  ws = axis_words d w

  abbrev ce : ℕ
  ce = edge_capacity w

  abbrev cn : ℕ
  cn = node_capacity w

  -- the rules of one axis
  pub checked_linked : Linked ws ce cn w.counts
  checked_linked =
      let axis = k.axis d in
      record {
        sized = axis.sized;
        index = axis.index;
        rings = axis.rings;
        runs = axis.runs;
        nodes_within = k.nodes.bounded.bound_within;
        edges_within = k.edges.bounded.bound_within;
        nodes_based = k.nodes.bounded.base_within;
        edges_based = k.edges.bounded.base_within;
      }

  -- the list of a live node is its live entries
  walked : (x : ℕ) → x < w.counts.nodes.bound → get_or (node_live w) x false ≡ true
      → list_of d (plain_of (shape_of w)) x ≡ live_entries (edge_live w) (raw (adjacency_in ws ce cn w.counts x))
  walked x h alive =
      list_is_walk (shape_of w) d x
      ∙ ap (λ (f : List Bool). walk_of f (get_or (node_flags_of (shape_of w)) x false) (adjacency_of d (shape_of w) x)) (edge_flags_are w)
      ∙ ap (λ (b : Bool). walk_of (edge_live w) b (adjacency_of d (shape_of w) x)) (ap (λ (f : List Bool). get_or f x false) (node_flags_are w) ∙ alive)
      ∙ ap (λ (a : Adjacency). live_entries (edge_live w) (raw a)) (shape_adjacency w d x h)

  -- rule 7 for a live node
  pub checked_placed : (x : ℕ) → x < w.counts.nodes.bound → get_or (node_live w) x false ≡ true → Placed ws ce cn w.counts w.live_edges x
  checked_placed x h alive =
      record {
        below = h;
        own = own;
        once = subst (λ (l : List ℕ). distinct l ≡ true) (walked x h alive) ((incident k.walks d).once x);
      }
    where
      own : (e : ℕ) → live_in (edge_live w) e ≡ true → In e (raw (adjacency_in ws ce cn w.counts x)) → end_at ws e ≡ x
      own e live m =
          let listed : In e (list_of d (plain_of (shape_of w)) x)
          = subst (λ (l : List ℕ). In e l) (sym (walked x h alive))
          (member_keep (live_in (edge_live w)) e (raw (adjacency_in ws ce cn w.counts x)) ∙ both_true m live) in
          sym (plain_end w d e (alive_below w.live_edges w.counts e live))
          ∙ eqb-true (end_of d (plain_of (shape_of w)) e) x
          (and_right (get_or (edge_flags (plain_of (shape_of w))) e false) (eqb (end_of d (plain_of (shape_of w)) e) x)
          (sym ((incident k.walks d).listed x e) ∙ listed))

  -- a live node is below the bound
  live_node : (x : ℕ) → get_or (node_live w) x false ≡ true → x < w.counts.nodes.bound
  live_node x alive = rw length_flags at (live_below (node_live w) x alive)

  -- an entry of a run is one of its node
  in_run : (x e : ℕ) → In e (run_list ws ce cn x) → In e (raw (adjacency_in ws ce cn w.counts x))
  in_run x e m =
      let a = adjacency_in ws ce cn w.counts x in
      in_front e (hiding a.run a.base) a.ring
      (in_hiding a.run a.base e (subst (λ (l : List ℕ). In e l) (sym (entries_are ws ce cn x)) m))

  -- every checked store can be relocated
  pub checked_relocatable : Relocatable ws ce cn w.counts w.live_edges
  checked_relocatable =
      let long = k.edges.live_long in
      let bounded = k.edges.bounded in
      record { linked = checked_linked; live_long = omega arith; run_ends = run_ends }
    where
      run_ends : (x e : ℕ) → x < w.counts.nodes.bound → live_in (edge_live w) e ≡ true → In e (run_list ws ce cn x) → end_at ws e ≡ x
      run_ends x e h live m =
          by_test (get_or (node_live w) x false) (λ t. (checked_placed x h t).own e live (in_run x e m)) (λ t. true_false live ((k.axis d).removed_runs x e h t m))

  -- a live edge can be redirected to a live node
  pub checked_redirectable : (tombstoned : Bool) → (tombstoned ≡ false → (f : ℕ) → f < w.counts.edges.bound → live_in (edge_live w) f ≡ true) → (e new : ℕ)
      → live_in (edge_live w) e ≡ true → get_or (node_live w) new false ≡ true
      → Redirectable ws ce cn w.counts w.live_edges tombstoned e new
  checked_redirectable tombstoned all_live e new live new_live =
      let low = alive_below w.live_edges w.counts e live in
      record {
        axis = checked_relocatable;
        old_placed = checked_placed (end_at ws e) ((k.axis d).ends_below e low) (checked_end k d e live);
        new_placed = checked_placed new (live_node new new_live) new_live;
        edge_below = low;
        edge_live = live;
        all_live = all_live;
      }

  -- the edges of a live node can be moved to another
  pub checked_movable : (tombstoned : Bool) → (tombstoned ≡ false → (f : ℕ) → f < w.counts.edges.bound → live_in (edge_live w) f ≡ true) → (old new : ℕ)
      → old ≢ new → get_or (node_live w) old false ≡ true → get_or (node_live w) new false ≡ true
      → Movable ws ce cn w.counts w.live_edges tombstoned old new
  checked_movable tombstoned all_live old new apart old_live new_live =
      record {
        axis = checked_relocatable;
        old_placed = checked_placed old (live_node old old_live) old_live;
        new_placed = checked_placed new (live_node new new_live) new_live;
        apart = apart;
        all_live = all_live;
      }

  -- where as many edges are live as there are, none is removed
  pub checked_all_live : w.counts.edges.live ≡ w.counts.edges.bound → (f : ℕ) → f < w.counts.edges.bound → live_in (edge_live w) f ≡ true
  checked_all_live full f h =
      all_counted (edge_live w) (sym k.edges.live.live_right ∙ full ∙ sym (length_flags w.live_edges w.counts.edges.bound)) f (rw length_flags h)
