-- A store after a node or an edge was added: from what the liveness words and the two directions became, the shape and the check of the whole.
use Rattle.std.specs.Prelude.{ℕ, ◌+◌, ◌<◌, ◌^◌, ◌≡◌, refl, true, false, List, length, get_or, set}
use Rattle.plain.specs.Library.{sym, ap, ◌∙◌, inl, inr, length-set, get_or-set_same, get_or-set_other, arith}
use Rattle.plain.specs.declared.TraversalDirection.{TraversalDirection}
use Rattle.plain.specs.declared.TraversalDirection.TheVariants.{Outgoing, Incoming}
use Rattle.plain.specs.declared.EdgePayload.{EdgePayload}
use Rattle.plain.specs.declared.Operation.TheVariants.{AddNode, AddEdge}
use Rattle.plain.specs.Plain.{node_added, edge_added}
use Rattle.plain.specs.Step.{changed, step}
use Rattle.plain.specs.Laws.Cases.{add_node, add_edge}
use Rattle.plain.proofs.Laws.Cases.{comes_to}
use Rattle.plain.proofs.Laws.Rank.{live_below}
use Rattle.liveness.specs.Calls.{Pushed}
use Rattle.liveness.specs.Laws.Flags.{length_flags}
use Rattle.shape.specs.Shape.{Words, node_capacity, edge_capacity, capacities, node_live, edge_live, edge_payload_at, axis_words, axis_of, shape_of, plain_of, store, lists}
use Rattle.shape.specs.Checked.{AxisChecked}
use Rattle.shape.specs.Kept.{SameLengths, AxisKept, each_length, same_nodes, same_edges, same_highs, past_none}
use Rattle.shape.specs.Writes.{WritesAxis}
use Rattle.shape.specs.Steps.{appended, acted}
use Rattle.shape.proofs.Laws.Reading.{node_bound_is, edge_bound_is, node_flags_are}
use Rattle.shape.proofs.Laws.Shapes.{shape_ext}
use Rattle.adjacency.specs.Rings.{Openable, Opened, Appendable, Appended}
use Rattle.store.proofs.Keeping.{pushed_word, pushed_other, opened_kept, appended_kept, appended_writes}
use Rattle.store.proofs.Made.{slots_more, payload_here, payload_other}
use Rattle.store.specs.Operations.{Acted, one_more, Raisable, NodeAddable, EdgeAddable}
use Rattle.store.proofs.Acting.{with_nodes, with_edges, acted_walks, live_within, pushed_checked}
use Rattle.store.proofs.Axes.{opened_axis, opened_checked, appended_axis, appended_checked}

-- ---- a node

module _ {w : Words} (pre : NodeAddable w) where
  -- the counts stay words
  pub node_raisable : Raisable w.counts.nodes
  node_raisable = record {
    bound_below = omega (arith, pre.room, (pre.checked.axis Outgoing).sized.nodes_within);
    live_within = live_within pre.checked.nodes;
  }

  -- both directions have the words of the slot
  pub node_openable : (d : TraversalDirection) → Openable (axis_words d w) (edge_capacity w) (node_capacity w) w.counts.nodes.bound
  node_openable d = record { sized = (pre.checked.axis d).sized; room = pre.room }

  -- the step of document 01 adds a node; its value is the slot
  pub node_comes : (payload : ℕ) → step (capacities w) (lists w) (AddNode payload) ≡ changed w.counts.nodes.bound (node_added payload (lists w))
  unfolding plain_of
  node_comes payload =
      comes_to (add_node (rw (node_bound_is w) pre.room)) ∙ ap (λ (n : ℕ). changed n (node_added payload (lists w))) (node_bound_is w)

  -- the store with its node, from what was written
  module _
      (payload : ℕ)
      (fits : payload < 2 ^ 32)
      {live outgoing incoming : List ℕ}
      (pushed : Pushed w.live_nodes w.counts.nodes.bound live)
      (out : Opened w.outgoing outgoing (edge_capacity w) (node_capacity w) w.counts.nodes.bound)
      (inc : Opened w.incoming incoming (edge_capacity w) (node_capacity w) w.counts.nodes.bound)
      (live_long : length live ≡ length w.live_nodes)
      (out_long : length outgoing ≡ length w.outgoing)
      (inc-long : length incoming ≡ length w.incoming)
    where
      -- the store afterwards
      abbrev with_node : Words
      with_node =
          store (with_nodes (one_more w.counts.nodes) w.counts) (set w.nodes w.counts.nodes.bound payload) w.lows w.highs live w.live_edges outgoing incoming

      -- no slice grows or shrinks
      node_lengths : SameLengths w with_node
      node_lengths = each_length (length-set w.nodes w.counts.nodes.bound payload) refl refl live_long refl out_long inc-long

      -- its shape is what the operation makes of the shape
      node_shape : shape_of with_node ≡ acted (AddNode payload) (shape_of w)
      unfolding shape_of acted
      node_shape =
          rw (length-set w.nodes w.counts.nodes.bound payload, pushed.flags)
          (shape_ext
          (slots_more (λ v b. record { payload = v; live = b }) (λ x. get_or w.nodes x 0) (λ x. get_or with_node.nodes x 0) (node_live w) w.counts.nodes.bound
          (length_flags w.live_nodes w.counts.nodes.bound) payload (get_or-set_same w.nodes w.counts.nodes.bound payload 0 pre.room)
          (λ x l. get_or-set_other w.nodes w.counts.nodes.bound x payload 0 (omega arith)))
          refl refl refl (opened_axis pre.checked Outgoing outgoing out_long out pre.room)
          (opened_axis pre.checked Incoming incoming inc-long inc pre.room))

      -- the node was added
      pub node_acted : Acted (AddNode payload) w with_node
      node_acted = record {
        shape = node_shape;
        checked = record {
          nodes = rw (same_nodes node_lengths) (pushed_checked pre.checked.nodes pushed live_long pre.room);
          edges = pre.checked.edges;
          highs_long = pre.checked.highs_long;
          axis = directions;
          walks = acted_walks pre.checked (AddNode payload) (node_comes payload) refl with_node fits node_lengths node_shape;
        };
        lengths = node_lengths;
        kept = record {
          nodes_grow = omega arith;
          edges_grow = omega arith;
          nodes = record { payloads = λ i h. get_or-set_other w.nodes w.counts.nodes.bound i payload 0 (omega arith); live = pushed_word pushed };
          edges = past_none w.lows w.live_edges w.counts.edges.bound;
          highs = λ i h. refl;
          axis = kept;
        };
        live_only = tt;
        writes = record {
          nodes = λ x off. get_or-set_other w.nodes w.counts.nodes.bound x payload 0 off;
          lows = λ e off. refl;
          highs = λ e off. refl;
          live_nodes = pushed_other pushed;
          live_edges = λ i off. refl;
          axis = written;
        };
      }
        where
          written : (d : TraversalDirection) (i : ℕ) → (WritesAxis (AddNode payload) w d i → ⊥) → get_or (axis_words d with_node) i 0 ≡ get_or (axis_words d w) i 0
          written Outgoing i off = out.kept i (λ q. off (inl q)) (λ q. off (inr q))
          written Incoming i off = inc.kept i (λ q. off (inl q)) (λ q. off (inr q))

          kept : (d : TraversalDirection)
              → AxisKept (axis_words d w) (axis_words d with_node) (edge_capacity w) (node_capacity w) w.counts.nodes.bound (w.counts.nodes.bound + 1) w.counts.edges.bound
          kept Outgoing = opened_kept w.counts.edges.bound out pre.room
          kept Incoming = opened_kept w.counts.edges.bound inc pre.room

          directions : (d : TraversalDirection)
              → AxisChecked (axis_words d with_node) (edge_capacity w) (length with_node.nodes) with_node.counts (node_live with_node) (edge_live w)
          directions Outgoing = rw (same_nodes node_lengths, pushed.flags) (opened_checked pre.checked Outgoing outgoing out_long out pre.room)
          directions Incoming = rw (same_nodes node_lengths, pushed.flags) (opened_checked pre.checked Incoming incoming inc-long inc pre.room)

-- ---- an edge

module _ {w : Words} {source target : ℕ} {payload : EdgePayload} (pre : EdgeAddable w source target payload) where
  -- the counts stay words
  pub edge_raisable : Raisable w.counts.edges
  edge_raisable = record {
    bound_below = omega (arith, pre.room, (pre.checked.axis Outgoing).sized.edges_within);
    live_within = live_within pre.checked.edges;
  }

  -- a live node is below the bound
  end_below : (x : ℕ) → get_or (node_live w) x false ≡ true → x < w.counts.nodes.bound
  end_below x live = rw (← length_flags w.live_nodes w.counts.nodes.bound) (live_below (node_live w) x live)

  -- in a direction the edge can be appended at a live node
  pub edge_appendable : (d : TraversalDirection) (x : ℕ) → get_or (node_live w) x false ≡ true
      → Appendable (axis_words d w) (edge_capacity w) (node_capacity w) w.counts.nodes.bound w.counts.edges.base x w.counts.edges.bound
  edge_appendable d x live = record {
    sized = (pre.checked.axis d).sized;
    rings = (pre.checked.axis d).rings;
    node_below = end_below x live;
    nodes_within = pre.checked.nodes.bounded.bound_within;
    base_within = pre.checked.edges.bounded.base_within;
    room = pre.room;
  }

  -- the step of document 01 adds an edge; its value is the slot
  pub edge_comes : step (capacities w) (lists w) (AddEdge source target payload) ≡ changed w.counts.edges.bound (edge_added source target payload (lists w))
  unfolding plain_of
  edge_comes =
      comes_to (add_edge pre.in_order (rw (node_flags_are w) pre.source_live) (rw (node_flags_are w) pre.target_live) (rw (edge_bound_is w) pre.room))
      ∙ ap (λ (n : ℕ). changed n (edge_added source target payload (lists w))) (edge_bound_is w)

  -- both columns have a word of the edge
  high_there : w.counts.edges.bound < length w.highs
  high_there = omega (arith, pre.room, pre.checked.highs_long)

  -- the store with its edge, from what was written
  module _
      (fits : payload.high < 2 ^ 32)
      {live outgoing incoming : List ℕ}
      (pushed : Pushed w.live_edges w.counts.edges.bound live)
      (out : Appended w.outgoing outgoing (edge_capacity w) w.counts.nodes.bound w.counts.edges.base source w.counts.edges.bound)
      (inc : Appended w.incoming incoming (edge_capacity w) w.counts.nodes.bound w.counts.edges.base target w.counts.edges.bound)
      (live_long : length live ≡ length w.live_edges)
      (out_long : length outgoing ≡ length w.outgoing)
      (inc-long : length incoming ≡ length w.incoming)
    where
      -- the store afterwards
      abbrev with_edge : Words
      with_edge =
          store (with_edges (one_more w.counts.edges) w.counts) w.nodes (set w.lows w.counts.edges.bound payload.low)
          (set w.highs w.counts.edges.bound payload.high) w.live_nodes live outgoing incoming

      -- no slice grows or shrinks
      edge_lengths : SameLengths w with_edge
      edge_lengths =
          each_length refl (length-set w.lows w.counts.edges.bound payload.low) (length-set w.highs w.counts.edges.bound payload.high) refl live_long out_long inc-long

      -- its shape is what the operation makes of the shape
      edge_shape : shape_of with_edge ≡ acted (AddEdge source target payload) (shape_of w)
      unfolding shape_of acted
      edge_shape =
          rw (length-set w.lows w.counts.edges.bound payload.low, pushed.flags)
          (shape_ext refl
          (slots_more (λ v b. record { payload = v; live = b }) (edge_payload_at w) (edge_payload_at with_edge) (edge_live w) w.counts.edges.bound
          (length_flags w.live_edges w.counts.edges.bound) payload (payload_here w.lows w.highs w.counts.edges.bound payload pre.room high_there)
          (λ x l. payload_other w.lows w.highs w.counts.edges.bound payload x (omega arith)))
          refl refl
          (appended_axis pre.checked Outgoing outgoing out_long source out pre.room (end_below source pre.source_live)
          ∙ ap (λ (e : ℕ). appended e source (axis_of w.outgoing (edge_capacity w) (node_capacity w) w.counts)) (sym (edge_bound_is w)))
          (appended_axis pre.checked Incoming incoming inc-long target inc pre.room (end_below target pre.target_live)
          ∙ ap (λ (e : ℕ). appended e target (axis_of w.incoming (edge_capacity w) (node_capacity w) w.counts)) (sym (edge_bound_is w))))

      -- the edge was added
      pub edge_acted : Acted (AddEdge source target payload) w with_edge
      edge_acted = record {
        shape = edge_shape;
        checked = record {
          nodes = pre.checked.nodes;
          edges = rw (same_edges edge_lengths) (pushed_checked pre.checked.edges pushed live_long pre.room);
          highs_long = rw (same_edges edge_lengths, same_highs edge_lengths) pre.checked.highs_long;
          axis = directions;
          walks = acted_walks pre.checked (AddEdge source target payload) edge_comes refl with_edge fits edge_lengths edge_shape;
        };
        lengths = edge_lengths;
        kept = record {
          nodes_grow = omega arith;
          edges_grow = omega arith;
          nodes = past_none w.nodes w.live_nodes w.counts.nodes.bound;
          edges = record { payloads = λ i h. get_or-set_other w.lows w.counts.edges.bound i payload.low 0 (omega arith); live = pushed_word pushed };
          highs = λ i h. get_or-set_other w.highs w.counts.edges.bound i payload.high 0 (omega arith);
          axis = kept;
        };
        live_only = tt;
        writes = record {
          nodes = λ x off. refl;
          lows = λ e off. get_or-set_other w.lows w.counts.edges.bound e payload.low 0 off;
          highs = λ e off. get_or-set_other w.highs w.counts.edges.bound e payload.high 0 off;
          live_nodes = λ i off. refl;
          live_edges = pushed_other pushed;
          axis = written;
        };
      }
        where
          written : (d : TraversalDirection) (i : ℕ) → (WritesAxis (AddEdge source target payload) w d i → ⊥) → get_or (axis_words d with_edge) i 0 ≡ get_or (axis_words d w) i 0
          written Outgoing i off = appended_writes out i off
          written Incoming i off = appended_writes inc i off

          kept : (d : TraversalDirection)
              → AxisKept (axis_words d w) (axis_words d with_edge) (edge_capacity w) (node_capacity w) w.counts.nodes.bound w.counts.nodes.bound (w.counts.edges.bound + 1)
          kept Outgoing = appended_kept out (end_below source pre.source_live) pre.checked.nodes.bounded.bound_within pre.room
          kept Incoming = appended_kept inc (end_below target pre.target_live) pre.checked.nodes.bounded.bound_within pre.room

          directions : (d : TraversalDirection)
              → AxisChecked (axis_words d with_edge) (edge_capacity with_edge) (node_capacity w) with_edge.counts (node_live w) (edge_live with_edge)
          directions Outgoing =
              rw (same_edges edge_lengths, pushed.flags)
              (appended_checked pre.checked Outgoing outgoing out_long source out pre.room (end_below source pre.source_live))
          directions Incoming =
              rw (same_edges edge_lengths, pushed.flags)
              (appended_checked pre.checked Incoming incoming inc-long target inc pre.room (end_below target pre.target_live))
