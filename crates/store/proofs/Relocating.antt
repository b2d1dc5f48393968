-- A store whose edges are relocated on one axis: a checked store has what crate `relocate` asks of the axis, and is checked afterwards.
use Rattle.std.specs.Prelude.{ℕ, ◌<◌, ◌≡◌, refl, Bool, true, false, not, ◌≢◌, List, length, get_or, eqb}
use Rattle.plain.specs.Library.{sym, ap, subst, ◌∙◌, inl, inr, arith, eqb-true, ne_eqb}
use Rattle.plain.specs.declared.TraversalDirection.{TraversalDirection}
use Rattle.plain.specs.declared.TraversalDirection.TheVariants.{Outgoing, Incoming}
use Rattle.plain.specs.declared.Operation.{Operation}
use Rattle.plain.specs.declared.Operation.TheVariants.{Redirect, Move}
use Rattle.plain.specs.Plain.{list_of, end_of}
use Rattle.plain.specs.Step.{Outcome, step}
use Rattle.plain.proofs.Laws.Booleans.{by_test, true_false}
use Rattle.plain.specs.Laws.Cases.{redirect, move}
use Rattle.plain.proofs.Laws.Cases.{comes_to}
use Rattle.plain.proofs.Laws.ListLaws.{no_entries}
use Rattle.plain.proofs.Laws.Rank.{live_below}
use Rattle.plain.specs.Laws.Stepping.{Fitting}
use Rattle.liveness.specs.Laws.Flags.{length_flags}
use Rattle.shape.specs.Columns.{end_at}
use Rattle.shape.specs.Chains.{In}
use Rattle.shape.specs.Shape.{Words, Axis, store, node_capacity, edge_capacity, capacities, node_live, edge_live, axis_words, axis_of, axis_in, edge_flags_of, live_in, raw, walk_of, adjacency_in, shape_of, plain_of, lists, adjacency_of}
use Rattle.shape.specs.Checked.{AxisChecked, Checked}
use Rattle.shape.specs.Kept.{SameLengths, AxisKept, Kept, each_length, past_none, axis_kept_none}
use Rattle.shape.specs.Writes.{Only, WritesAxis, Writes}
use Rattle.shape.specs.Steps.{live_entries, acted, acts, with_axis, redirected_axis, moved_axis, LiveRun, EditedLive}
use Rattle.shape.proofs.Laws.Reading.{node_bound_is, node_flags_are, edge_flags_are, plain_end, axis_is, axis_end, shape_adjacency}
use Rattle.shape.proofs.Laws.Taking.{live_taken}
use Rattle.shape.proofs.Laws.Shapes.{shape_ext}
use Rattle.adjacency.specs.Walk.{tombstoned_in}
use Rattle.adjacency.specs.Laws.StoreWalks.{list_is_walk}
use Rattle.runs.specs.Laws.Runs.{alive_below}
use Rattle.relocate.specs.Redirects.{Redirectable, Redirected}
use Rattle.relocate.specs.Moves.{Movable, Moved}
use Rattle.shape.proofs.Laws.Ends.{checked_end}
use Rattle.relocate.specs.Laws.Stores.{checked_redirectable, checked_movable, checked_all_live}
use Rattle.store.specs.Operations.{Acted, RedirectedEdge, MovedEdges, EdgeRedirectable, EdgesMovable}
use Rattle.store.proofs.Acting.{acted_walks}

-- ---- what crate `relocate` asks

-- where no edge is counted as removed, all are live
all_live : {w : Words} → Checked w → TraversalDirection → tombstoned_in w.counts ≡ false → (e : ℕ) → e < w.counts.edges.bound → live_in (edge_live w) e ≡ true
all_live {w} k d none =
    by_test (eqb w.counts.edges.live w.counts.edges.bound)
    (λ q. checked_all_live k d (eqb-true w.counts.edges.live w.counts.edges.bound q)) (λ q. true_false (ap not q) none)

pub redirectable : {w : Words} {edge new : ℕ} → EdgeRedirectable w edge new → (d : TraversalDirection)
    → Redirectable (axis_words d w) (edge_capacity w) (node_capacity w) w.counts w.live_edges (tombstoned_in w.counts) edge new
redirectable {w} {edge} {new} pre d =
    checked_redirectable pre.checked d (tombstoned_in w.counts) (all_live pre.checked d) edge new pre.alive pre.new_live

pub movable : {d : TraversalDirection} {w : Words} {old new : ℕ} → EdgesMovable d w old new
    → Movable (axis_words d w) (edge_capacity w) (node_capacity w) w.counts w.live_edges (tombstoned_in w.counts) old new
movable {d} {w} {old} {new} pre =
    checked_movable pre.checked d (tombstoned_in w.counts) (all_live pre.checked d) old new pre.apart pre.old_live pre.new_live

-- once the direction is told
pub told_movable : {d told : TraversalDirection} {w : Words} {old new : ℕ} → d ≡ told → EdgesMovable d w old new → EdgesMovable told w old new
told_movable {w = w} {old = old} {new = new} is pre = subst (λ (d : TraversalDirection). EdgesMovable d w old new) is pre

-- ---- the store afterwards

-- a store with other words of one axis, and what holds of both of its axes
abbrev axis_with : TraversalDirection → List ℕ → Words → TraversalDirection → List ℕ
axis_with Outgoing vs w Outgoing = vs
axis_with Outgoing vs w Incoming = w.incoming
axis_with Incoming vs w Outgoing = w.outgoing
axis_with Incoming vs w Incoming = vs

abbrev pub with_axis_words : TraversalDirection → List ℕ → Words → Words
with_axis_words d vs w =
    store w.counts w.nodes w.lows w.highs w.live_nodes w.live_edges (axis_with d vs w Outgoing) (axis_with d vs w Incoming)

both : (w : Words) (vs : List ℕ) (P : TraversalDirection → List ℕ → Type 0) (d : TraversalDirection) → P d vs → ((e : TraversalDirection) → P e (axis_words e w))
    → (e : TraversalDirection) → P e (axis_words e (with_axis_words d vs w))
both w vs P Outgoing one rest Outgoing = one
both w vs P Outgoing one rest Incoming = rest Incoming
both w vs P Incoming one rest Outgoing = rest Outgoing
both w vs P Incoming one rest Incoming = one

axis_lengths : (w : Words) (d : TraversalDirection) (vs : List ℕ) → length vs ≡ length (axis_words d w) → SameLengths w (with_axis_words d vs w)
axis_lengths w d vs long =
    let axes = both w vs (λ e us. length us ≡ length (axis_words e w)) d long (λ e. refl) in
    each_length refl refl refl refl refl (axes Outgoing) (axes Incoming)

-- the words that an operation leaves
axis_kept : (w : Words) (d : TraversalDirection) (vs : List ℕ)
    → AxisKept (axis_words d w) vs (edge_capacity w) (node_capacity w) w.counts.nodes.bound w.counts.nodes.bound w.counts.edges.bound → Kept w (with_axis_words d vs w)
axis_kept w d vs frame = record {
  nodes_grow = omega arith;
  edges_grow = omega arith;
  nodes = past_none w.nodes w.live_nodes w.counts.nodes.bound;
  edges = past_none w.lows w.live_edges w.counts.edges.bound;
  highs = λ i h. refl;
  axis = both w vs
      (λ e us. AxisKept (axis_words e w) us (edge_capacity w) (node_capacity w) w.counts.nodes.bound w.counts.nodes.bound w.counts.edges.bound) d frame
      (λ e. axis_kept_none (axis_words e w) (edge_capacity w) (node_capacity w) w.counts.nodes.bound w.counts.edges.bound);
}

axis_writes : (w : Words) (d : TraversalDirection) (vs : List ℕ) (operation : Operation) → Only (WritesAxis operation w d) (axis_words d w) vs
    → Writes operation w (with_axis_words d vs w)
axis_writes w d vs operation words = record {
  nodes = λ x off. refl;
  lows = λ e off. refl;
  highs = λ e off. refl;
  live_nodes = λ i off. refl;
  live_edges = λ i off. refl;
  axis = both w vs (λ e us. Only (WritesAxis operation w e) (axis_words e w) us) d words (λ e i off. refl);
}

-- where the axis is what an edit makes of it, the shape is the one with the edited axis
axis_shape : (w : Words) (d : TraversalDirection) (vs : List ℕ) (edit : List Bool → Axis → Axis) → axis_of vs (edge_capacity w) (node_capacity w) w.counts
    ≡ edit (edge_live w) (axis_of (axis_words d w) (edge_capacity w) (node_capacity w) w.counts)
    → shape_of (with_axis_words d vs w) ≡ with_axis d (edit (edge_flags_of (shape_of w)) (axis_in d (shape_of w))) (shape_of w)
unfolding shape_of
axis_shape w Outgoing vs edit is =
    let old = axis_of w.outgoing (edge_capacity w) (node_capacity w) w.counts in
    shape_ext refl refl refl refl (is ∙ ap (λ (f : List Bool). edit f old) (sym (edge_flags_are w))) refl
axis_shape w Incoming vs edit is =
    let old = axis_of w.incoming (edge_capacity w) (node_capacity w) w.counts in
    shape_ext refl refl refl refl refl (is ∙ ap (λ (f : List Bool). edit f old) (sym (edge_flags_are w)))

-- a run of live edges on the axis is one of the shape
live_run : (w : Words) (d : TraversalDirection) (vs : List ℕ) (x : ℕ) → x < w.counts.nodes.bound
    → LiveRun (edge_live w) (adjacency_in vs (edge_capacity w) (node_capacity w) w.counts x)
    → LiveRun (edge_flags_of (shape_of (with_axis_words d vs w))) (adjacency_of d (shape_of (with_axis_words d vs w)) x)
live_run w d vs x h r = by d
  where
    of : (v : Words) (d : TraversalDirection) → x < v.counts.nodes.bound
        → LiveRun (edge_live v) (adjacency_in (axis_words d v) (edge_capacity v) (node_capacity v) v.counts x)
        → LiveRun (edge_flags_of (shape_of v)) (adjacency_of d (shape_of v) x)
    of v d low live = rw (edge_flags_are v, shape_adjacency v d x low) live

    by : (d : TraversalDirection) → LiveRun (edge_flags_of (shape_of (with_axis_words d vs w))) (adjacency_of d (shape_of (with_axis_words d vs w)) x)
    by Outgoing = of (with_axis_words Outgoing vs w) Outgoing h r
    by Incoming = of (with_axis_words Incoming vs w) Incoming h r

-- an operation that edits one axis was done
relocated_acted : {w : Words} → Checked w → (d : TraversalDirection) (vs : List ℕ) (operation : Operation) {o : Outcome}
    → step (capacities w) (lists w) operation ≡ o → acts operation o ≡ true → Fitting operation → length vs ≡ length (axis_words d w)
    → shape_of (with_axis_words d vs w) ≡ acted operation (shape_of w) → EditedLive operation (shape_of w) (shape_of (with_axis_words d vs w))
    → AxisChecked vs (edge_capacity w) (node_capacity w) w.counts (node_live w) (edge_live w)
    → AxisKept (axis_words d w) vs (edge_capacity w) (node_capacity w) w.counts.nodes.bound w.counts.nodes.bound w.counts.edges.bound
    → Only (WritesAxis operation w d) (axis_words d w) vs → Acted operation w (with_axis_words d vs w)
relocated_acted {w} k d vs operation comes acting fits long shape live axis frame words = record {
  shape = shape;
  live_only = live;
  checked = record {
    nodes = k.nodes;
    edges = k.edges;
    highs_long = k.highs_long;
    axis = both w vs (λ e us. AxisChecked us (edge_capacity w) (node_capacity w) w.counts (node_live w) (edge_live w)) d axis k.axis;
    walks = acted_walks k operation comes acting (with_axis_words d vs w) fits (axis_lengths w d vs long) shape;
  };
  lengths = axis_lengths w d vs long;
  kept = axis_kept w d vs frame;
  writes = axis_writes w d vs operation words;
}

same_words : (w : Words) (d : TraversalDirection) (vs : List ℕ) → vs ≡ axis_words d w → with_axis_words d vs w ≡ w
same_words w Outgoing vs same = ap (λ (l : List ℕ). with_axis_words Outgoing l w) same
same_words w Incoming vs same = ap (λ (l : List ℕ). with_axis_words Incoming l w) same

-- a live node is below the bound
node_below : (w : Words) (x : ℕ) → get_or (node_live w) x false ≡ true → x < w.counts.nodes.bound
node_below w x live = rw (← length_flags w.live_nodes w.counts.nodes.bound) (live_below (node_live w) x live)

-- the edge was redirected
pub redirecting : {w : Words} {edge new : ℕ} (pre : EdgeRedirectable w edge new) (d : TraversalDirection) (vs : List ℕ) {answer : ℕ}
    → Redirected (axis_words d w) vs (edge_capacity w) (node_capacity w) w.counts w.live_edges edge new answer → length vs ≡ length (axis_words d w)
    → RedirectedEdge d edge new w answer (with_axis_words d vs w)
unfolding acted plain_of
redirecting {w} {edge} {new} pre d vs done long =
    let k = pre.checked in
    let low = alive_below w.live_edges w.counts edge pre.alive in
    let ended : get_or (axis_in d (shape_of w)).ends edge 0 ≡ end_at (axis_words d w) edge =
    ap (λ (a : Axis). get_or a.ends edge 0) (axis_is w d) ∙ axis_end (axis_words d w) (edge_capacity w) (node_capacity w) w.counts edge low in
    record {
      previous = done.previous;
      acts = λ other. let moved : end_at (axis_words d w) edge ≢ new = λ q. other (done.previous ∙ q) in
          let away : end_of d (lists w) edge ≢ new = λ q. moved (sym (plain_end w d edge low) ∙ q) in
          relocated_acted k d vs (Redirect d edge new) (comes_to (redirect (rw (edge_flags_are w) pre.alive) (rw (node_flags_are w) pre.new_live) away))
          (rw (ne_eqb (end_of d (lists w) edge) new away)) tt long (axis_shape w d vs (λ f a. redirected_axis f edge new a) (done.changed moved)) (
            subst (λ (x : ℕ). LiveRun (edge_flags_of (shape_of (with_axis_words d vs w))) (adjacency_of d (shape_of (with_axis_words d vs w)) x)) (sym ended)
                (live_run w d vs (end_at (axis_words d w) edge) ((k.axis d).ends_below edge low) (done.live_only moved).0),
            live_run w d vs new (node_below w new pre.new_live) (done.live_only moved).1,
          )
          (done.checked (node_live w) (checked_end k d edge pre.alive) pre.new_live (k.axis d)) done.frame
          (λ i off. done.writes i (λ q. off (refl, inl q)) (λ l. off (refl, inr (inl (inl l)))) (λ l. off (refl, inr (inr (inl l))))
          (λ o. off (refl, inr (inl (inr o)))) (λ n. off (refl, inr (inr (inr n)))));
      keeps = λ same. same_words w d vs (done.unchanged (sym done.previous ∙ same));
    }

-- the edges were moved
pub moving : {w : Words} {old new : ℕ} (d : TraversalDirection) (pre : EdgesMovable d w old new) (vs : List ℕ) {answer : ℕ}
    → Moved (axis_words d w) vs (edge_capacity w) (node_capacity w) w.counts w.live_edges old new answer → length vs ≡ length (axis_words d w)
    → MovedEdges d old new w answer (with_axis_words d vs w)
unfolding acted plain_of
moving {w} {old} {new} d pre vs done long =
    let k = pre.checked in
    let adjacency = adjacency_in (axis_words d w) (edge_capacity w) (node_capacity w) w.counts old in
    let old_below = node_below w old pre.old_live in
    let walked : list_of d (lists w) old ≡ live_entries (edge_live w) (raw adjacency) =
    list_is_walk w d old old_below ∙ ap (λ (b : Bool). walk_of (edge_live w) b adjacency) pre.old_live in
    record {
      counted = done.counted ∙ ap length (live_taken (edge_live w) adjacency ∙ sym walked);
      acts = relocated_acted k d vs (Move d old new) (comes_to (move pre.apart (rw (node_bound_is w) old_below) pre.some (rw (node_flags_are w) pre.new_live)))
          (rw (ne_eqb (length (list_of d (lists w) old)) 0 (λ q. pre.some (no_entries (list_of d (lists w) old) q)))) tt long
          (axis_shape w d vs (λ f a. moved_axis f old new a) done.axis)
          (live_run w d vs old old_below done.live_only.0, live_run w d vs new (node_below w new pre.new_live) done.live_only.1) (done.checked (node_live w) pre.old_live pre.new_live (k.axis d))
          done.frame
          (λ i off. done.writes i (λ q. off (refl, inl (subst (λ (l : List ℕ). In i l) (sym walked) q))) (λ l. off (refl, inr (inl (inl l))))
          (λ l. off (refl, inr (inr (inl l)))) (λ o. off (refl, inr (inl (inr o)))) (λ n. off (refl, inr (inr (inr n)))));
    }
