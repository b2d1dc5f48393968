-- A store after an edge was removed or given another payload: no list is edited, so the directions are as they were.
use Rattle.std.specs.Prelude.{ℕ, ◌<◌, ◌^◌, ◌≡◌, refl, Bool, true, false, cond, List, map, length, get_or, set, eqb}
use Rattle.plain.specs.Library.{sym, ap, ◌∙◌, length-set, get_or-eq_default, get_or-set_other, arith}
use lib.Seq.{set-get_or}
use Rattle.plain.specs.declared.TraversalDirection.{TraversalDirection}
use Rattle.plain.specs.declared.TraversalDirection.TheVariants.{Outgoing, Incoming}
use Rattle.plain.specs.declared.EdgePayload.{EdgePayload}
use Rattle.plain.specs.declared.Operation.TheVariants.{RemoveEdge, SetPayload}
use Rattle.plain.specs.Lists.{from}
use Rattle.plain.specs.Plain.{EdgeSlot, killed_edge, no_edge, edge_flags, edge_removed, payload_set}
use Rattle.plain.specs.Step.{changed, unchanged, step}
use Rattle.plain.proofs.Laws.Booleans.{by_test, true_false}
use Rattle.plain.specs.Laws.Cases.{Slot, absent, removed, live, remove_edge_absent, remove_edge_removed, remove_edge, set_payload}
use Rattle.plain.proofs.Laws.Cases.{slot, comes_to}
use Rattle.plain.proofs.Laws.Deleting.{get_d_set}
use Rattle.plain.proofs.Laws.Rank.{live_below}
use Rattle.liveness.specs.Calls.{Cleared}
use Rattle.liveness.specs.Laws.Flags.{length_flags}
use Rattle.shape.specs.Shape.{Words, node_capacity, edge_capacity, capacities, node_live, edge_live, edge_payload_at, edge_slot_at, axis_words, axis_of, shape_of, plain_of, store, lists}
use Rattle.shape.specs.Checked.{AxisChecked, Checked}
use Rattle.shape.specs.Kept.{SameLengths, AxisKept, each_length, same_edges, same_highs, past_none, axis_kept_none}
use Rattle.shape.specs.Steps.{retired, acted}
use Rattle.shape.proofs.Laws.Reading.{made_at, edge_bound_is, edge_flags_are}
use Rattle.shape.proofs.Laws.Shapes.{shape_ext}
use Rattle.store.proofs.Keeping.{cleared_word, cleared_other}
use Rattle.store.proofs.Made.{slots_set, payload_here, payload_other}
use Rattle.store.specs.Operations.{Acted, RemovedEdge, fewer, PayloadSettable}
use Rattle.store.proofs.Acting.{with_edges, acted_walks, some_live, cleared_checked}

-- an edge slot by its payload and its flag
abbrev edge_slot : EdgePayload → Bool → EdgeSlot
edge_slot v b = record { payload = v; live = b }

-- a flag that is made false, or was
set_false : (flags : List Bool) (e k : ℕ) → e < length flags → get_or flags k false ≡ false → get_or (set flags e false) k false ≡ false
set_false flags e k l dead = get_d_set flags e k false false l ∙ by_test (eqb k e) (λ t. rw t) (λ t. rw t dead)

-- ---- an edge removed

-- the step of document 01 removes an edge if it is live
pub remove_comes : (w : Words) (edge : ℕ)
    → step (capacities w) (lists w) (RemoveEdge edge) ≡ cond (get_or (edge_live w) edge false) (changed 1 (edge_removed edge (lists w))) (unchanged 0 (lists w))
unfolding plain_of
remove_comes w edge =
    at (slot (edge_flags (lists w)) edge)
    ∙ ap (λ (fs : List Bool). cond (get_or fs edge false) (changed 1 (edge_removed edge (lists w))) (unchanged 0 (lists w))) (edge_flags_are w)
  where
    at : Slot (edge_flags (lists w)) edge → step (capacities w) (lists w) (RemoveEdge edge)
        ≡ cond (get_or (edge_flags (lists w)) edge false) (changed 1 (edge_removed edge (lists w))) (unchanged 0 (lists w))
    at (absent k) = comes_to (remove_edge_absent k) ∙ sym (rw (get_or-eq_default (edge_flags (lists w)) false k))
    at (removed k) = comes_to (remove_edge_removed k) ∙ sym (rw k.dead)
    at (live k) = comes_to (remove_edge k) ∙ sym (rw k)

module _ {w : Words} (checked : Checked w) (edge : ℕ) (live : get_or (edge_live w) edge false ≡ true) where
  -- it is below the bound
  removed_below : edge < w.counts.edges.bound
  removed_below = rw (← length_flags w.live_edges w.counts.edges.bound) (live_below (edge_live w) edge live)

  -- a direction passes the check without it
  remove_direction : (d : TraversalDirection) → AxisChecked (axis_words d w) (edge_capacity w) (node_capacity w)
      (with_edges (fewer 1 w.counts.edges) w.counts) (node_live w) (set (edge_live w) edge false)
  remove_direction d =
      let old = checked.axis d in
      record {
        sized = old.sized;
        ends_below = old.ends_below;
        index = old.index;
        rings = old.rings;
        runs = old.runs;
        removed_runs = λ x e l dead m. set_false (edge_live w) edge e (live_below (edge_live w) edge live) (old.removed_runs x e l dead m);
      }

  -- the store without it, from what was written
  module _
      {after : List ℕ}
      {answer : Bool}
      (cleared : Cleared w.live_edges w.counts.edges.bound edge answer after)
      (long : length after ≡ length w.live_edges)
    where
      -- the store afterwards
      abbrev without_edge : Words
      without_edge = store (with_edges (fewer 1 w.counts.edges) w.counts) w.nodes w.lows w.highs w.live_nodes after w.outgoing w.incoming

      -- no slice grows or shrinks
      remove_lengths : SameLengths w without_edge
      remove_lengths = each_length refl refl refl refl long refl refl

      -- its shape is what the operation makes of the shape
      remove_shape : shape_of without_edge ≡ acted (RemoveEdge edge) (shape_of w)
      unfolding shape_of acted retired axis_of
      remove_shape =
          let slots = from 0 w.counts.edges.bound in
          let old = edge_slot_at w in
          rw cleared.flags
          (shape_ext refl
          (slots_set edge_slot (edge_payload_at w) (edge_payload_at w) (edge_live w) w.counts.edges.bound
          (length_flags w.live_edges w.counts.edges.bound) edge (edge_payload_at w edge) false removed_below refl (λ y ne. refl)
          ∙ ap (λ (s : EdgeSlot). set (map old slots) edge (killed_edge s)) (sym (made_at old w.counts.edges.bound edge no_edge removed_below)))
          refl refl refl refl)

      -- the edge was removed
      pub removed_acted : Acted (RemoveEdge edge) w without_edge
      removed_acted = record {
        shape = remove_shape;
        checked = record {
          nodes = checked.nodes;
          edges = cleared_checked checked.edges edge live cleared long;
          highs_long = checked.highs_long;
          axis = directions;
          walks = acted_walks checked (RemoveEdge edge) (rw live at (remove_comes w edge)) refl without_edge tt remove_lengths remove_shape;
        };
        lengths = remove_lengths;
        kept = record {
          nodes_grow = omega arith;
          edges_grow = omega arith;
          nodes = past_none w.nodes w.live_nodes w.counts.nodes.bound;
          edges = record { payloads = λ i h. refl; live = cleared_word cleared removed_below };
          highs = λ i h. refl;
          axis = kept;
        };
        live_only = tt;
        writes = record { nodes = λ x off. refl; lows = λ e off. refl; highs = λ e off. refl; live_nodes = λ i off. refl; live_edges = cleared_other cleared; axis = written };
      }
        where
          kept : (d : TraversalDirection)
              → AxisKept (axis_words d w) (axis_words d without_edge) (edge_capacity w) (node_capacity w) w.counts.nodes.bound w.counts.nodes.bound w.counts.edges.bound
          kept Outgoing = axis_kept_none w.outgoing (edge_capacity w) (node_capacity w) w.counts.nodes.bound w.counts.edges.bound
          kept Incoming = axis_kept_none w.incoming (edge_capacity w) (node_capacity w) w.counts.nodes.bound w.counts.edges.bound

          written : (d : TraversalDirection) (i : ℕ) → (⊥ → ⊥) → get_or (axis_words d without_edge) i 0 ≡ get_or (axis_words d w) i 0
          written Outgoing i off = refl
          written Incoming i off = refl

          directions : (d : TraversalDirection)
              → AxisChecked (axis_words d without_edge) (edge_capacity w) (node_capacity w) without_edge.counts (node_live w) (edge_live without_edge)
          directions Outgoing = rw cleared.flags (remove_direction Outgoing)
          directions Incoming = rw cleared.flags (remove_direction Incoming)

-- clearing the edge's bit, by what it answers
module _
    {w : Words}
    (checked : Checked w)
    (edge : ℕ)
    {after : List ℕ}
    {answer : Bool}
    (cleared : Cleared w.live_edges w.counts.edges.bound edge answer after)
  where
    -- something live was there, so a live edge can be counted off
    pub edge_counted : answer ≡ true → 0 < w.counts.edges.live
    edge_counted found = some_live checked.edges edge (sym cleared.answers ∙ found)

    -- and it is removed
    pub removing_live : (found : answer ≡ true) (long : length after ≡ length w.live_edges)
        → RemovedEdge edge w true (without_edge checked edge (sym cleared.answers ∙ found) cleared long)
    removing_live found long = record {
      answers = sym found ∙ cleared.answers;
      acts = λ _. removed_acted checked edge (sym cleared.answers ∙ found) cleared long;
      keeps = λ q. true_false refl q;
    }

    -- nothing live was there
    pub removing_none : answer ≡ false
        → RemovedEdge edge w false (store w.counts w.nodes w.lows w.highs w.live_nodes after w.outgoing w.incoming)
    removing_none none = record {
      answers = sym none ∙ cleared.answers;
      acts = λ q. true_false q refl;
      keeps = λ _. ap (λ (l : List ℕ). store w.counts w.nodes w.lows w.highs w.live_nodes l w.outgoing w.incoming) (cleared.keeps none);
    }

-- ---- an edge's payload

module _ {w : Words} {edge : ℕ} {payload : EdgePayload} (pre : PayloadSettable w edge payload) (fits : payload.high < 2 ^ 32) where
  -- the store afterwards
  abbrev with_payload : Words
  with_payload =
      store w.counts w.nodes (set w.lows edge payload.low) (set w.highs edge payload.high) w.live_nodes w.live_edges w.outgoing w.incoming

  -- the step of document 01 sets it
  pub payload_comes : step (capacities w) (lists w) (SetPayload edge payload)
      ≡ record { number = 0; value = 0; lists = payload_set edge payload (lists w); keeps_compact = true }
  unfolding plain_of
  payload_comes = comes_to (set_payload pre.in_order (rw (edge_bound_is w) pre.below))

  -- both columns have a word of the edge
  low_there : edge < edge_capacity w
  low_there = omega (arith, pre.below, pre.checked.edges.bounded.bound_within)

  high_there : edge < length w.highs
  high_there = omega (arith, low_there, pre.checked.highs_long)

  -- no slice grows or shrinks
  payload_lengths : SameLengths w with_payload
  payload_lengths =
      each_length refl (length-set w.lows edge payload.low) (length-set w.highs edge payload.high) refl refl refl refl

  -- its shape is what the operation makes of the shape
  payload_shape : shape_of with_payload ≡ acted (SetPayload edge payload) (shape_of w)
  unfolding shape_of acted
  payload_shape =
      let slots = from 0 w.counts.edges.bound in
      let old = edge_slot_at w in
      rw (length-set w.lows edge payload.low)
      (shape_ext refl
      (ap (λ (fs : List Bool). map (λ e. edge_slot (edge_payload_at with_payload e) (get_or fs e false)) slots) (sym (set-get_or (edge_live w) edge false))
      ∙ slots_set edge_slot (edge_payload_at w) (edge_payload_at with_payload) (edge_live w) w.counts.edges.bound
      (length_flags w.live_edges w.counts.edges.bound) edge payload (get_or (edge_live w) edge false) pre.below
      (payload_here w.lows w.highs edge payload low_there high_there) (payload_other w.lows w.highs edge payload)
      ∙ ap (λ (s : EdgeSlot). set (map old slots) edge (edge_slot payload s.live)) (sym (made_at old w.counts.edges.bound edge no_edge pre.below)))
      refl refl refl refl)

  -- the payload was set
  pub payload_acted : Acted (SetPayload edge payload) w with_payload
  payload_acted = record {
    shape = payload_shape;
    checked = record {
      nodes = pre.checked.nodes;
      edges = rw (same_edges payload_lengths) pre.checked.edges;
      highs_long = rw (same_edges payload_lengths, same_highs payload_lengths) pre.checked.highs_long;
      axis = directions;
      walks = acted_walks pre.checked (SetPayload edge payload) payload_comes refl with_payload fits payload_lengths payload_shape;
    };
    lengths = payload_lengths;
    kept = record {
      nodes_grow = omega arith;
      edges_grow = omega arith;
      nodes = past_none w.nodes w.live_nodes w.counts.nodes.bound;
      edges = record { payloads = λ i h. let low = pre.below in get_or-set_other w.lows edge i payload.low 0 (omega arith); live = λ i h. refl };
      highs = λ i h. let low = pre.below in get_or-set_other w.highs edge i payload.high 0 (omega arith);
      axis = kept;
    };
    live_only = tt;
    writes = record {
      nodes = λ x off. refl;
      lows = λ e off. get_or-set_other w.lows edge e payload.low 0 off;
      highs = λ e off. get_or-set_other w.highs edge e payload.high 0 off;
      live_nodes = λ i off. refl;
      live_edges = λ i off. refl;
      axis = written;
    };
  }
    where
      written : (d : TraversalDirection) (i : ℕ) → (⊥ → ⊥) → get_or (axis_words d with_payload) i 0 ≡ get_or (axis_words d w) i 0
      written Outgoing i off = refl
      written Incoming i off = refl

      kept : (d : TraversalDirection)
          → AxisKept (axis_words d w) (axis_words d with_payload) (edge_capacity w) (node_capacity w) w.counts.nodes.bound w.counts.nodes.bound w.counts.edges.bound
      kept Outgoing = axis_kept_none w.outgoing (edge_capacity w) (node_capacity w) w.counts.nodes.bound w.counts.edges.bound
      kept Incoming = axis_kept_none w.incoming (edge_capacity w) (node_capacity w) w.counts.nodes.bound w.counts.edges.bound

      directions : (d : TraversalDirection)
          → AxisChecked (axis_words d with_payload) (edge_capacity with_payload) (node_capacity w) w.counts (node_live w) (edge_live w)
      directions Outgoing = rw (same_edges payload_lengths) (pre.checked.axis Outgoing)
      directions Incoming = rw (same_edges payload_lengths) (pre.checked.axis Incoming)
