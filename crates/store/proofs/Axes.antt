-- One direction of a checked store after a node was opened in it, or an edge appended: its shape, and that it passes the check.
use Rattle.std.specs.Prelude.{ℕ, ◌+◌, ◌*◌, ◌≤◌, ◌<◌, ◌≡◌, refl, true, false, List, [], ◌∷◌, ◌++◌, length, get_or, eqb}
use Rattle.plain.specs.Library.{sym, ap, ◌∙◌, ⊎_elim, get_or-append, arith, le-ltb}
use lib.Seq.{get_or_at}
use Rattle.plain.specs.declared.TraversalDirection.{TraversalDirection}
use Rattle.plain.specs.declared.Counts.{Counts}
use Rattle.plain.proofs.Laws.Booleans.{by_test, true_false, below_or_not}
use Rattle.liveness.specs.Laws.Flags.{length_flags}
use Rattle.shape.specs.Columns.{Sized, mark_at}
use Rattle.shape.specs.Chains.{In}
use Rattle.shape.specs.Shape.{Words, Adjacency, Axis, node_capacity, edge_capacity, node_live, edge_live, axis_words, base_of, run_list, run_of, ring_of, hiding, no_adjacency, axis_of}
use Rattle.shape.specs.Checked.{AxisChecked, Checked}
use Rattle.shape.specs.Steps.{opened, appended}
use Rattle.shape.proofs.Laws.Frames.{base_kept, index_kept, run_list_below, run_list_kept, run_kept, runs_kept}
use Rattle.shape.proofs.Laws.Reading.{axis_adjacency, made_same}
use Rattle.adjacency.specs.Rings.{Opened, Appended}
use Rattle.store.proofs.Made.{made_more, made_set}
use Rattle.store.specs.Operations.{one_more}
use Rattle.store.proofs.Acting.{with_nodes, with_edges}

-- two directions with the same parts
axis_ext : {a b : Axis} → a.ends ≡ b.ends → a.nodes ≡ b.nodes → a ≡ b
axis_ext p q = λ i. record { ends = p i; nodes = q i }

-- two adjacencies with the same parts
adjacency_ext : {a b : Adjacency} → a.base ≡ b.base → a.run ≡ b.run → a.ring ≡ b.ring → a ≡ b
adjacency_ext p q r = λ i. record { base = p i; run = q i; ring = r i }

-- the entries of a run are those of the run, if there is one
run_list_is : (ws : List ℕ) (ce cn x : ℕ) → run_list ws ce cn x ≡ hiding (run_of ws ce cn x) []
unfolding run_of run_list
run_list_is ws ce cn x = by_test (eqb (mark_at ws ce cn x) 0) (λ t. rw t) (λ t. rw t)

-- a node past the base has no base part
base_past : (ws : List ℕ) (ce cn bn x : ℕ) → bn ≤ x → base_of ws ce cn bn x ≡ []
unfolding base_of
base_past ws ce cn bn x h = rw (le-ltb x bn h)

-- a node's adjacency by the words
abbrev adjacency_read : List ℕ → ℕ → ℕ → Counts → ℕ → Adjacency
adjacency_read ws ce cn counts x = record {
  base = base_of ws ce cn counts.nodes.base x;
  run = run_of ws ce cn x;
  ring = ring_of ws ce counts.edges.base counts.edges.bound x;
}

-- a direction of a checked store, and words of the same length that stand there afterwards
module _ {w : Words} (checked : Checked w) (d : TraversalDirection) (vs : List ℕ) (long : length vs ≡ length (axis_words d w)) where
  -- its words, capacities and counts, and that it passes the check
  abbrev ws : List ℕ
  ws = axis_words d w

  abbrev ce : ℕ
  ce = edge_capacity w

  abbrev cn : ℕ
  cn = node_capacity w

  abbrev counts : Counts
  counts = w.counts

  abbrev old : AxisChecked ws ce cn counts (node_live w) (edge_live w)
  old = checked.axis d

  -- the words are there
  sized : Sized vs ce cn
  sized = record { edges_within = old.sized.edges_within; nodes_within = old.sized.nodes_within; room = rw long old.sized.room }

  -- what the index holds is within the capacities, and so are the edges
  base_in : counts.nodes.base ≤ cn
  base_in = omega (arith, checked.nodes.bounded.base_within, checked.nodes.bounded.bound_within)

  base_edges_in : counts.edges.base ≤ ce
  base_edges_in = omega (arith, checked.edges.bounded.base_within, checked.edges.bounded.bound_within)

  edges_in : counts.edges.bound ≤ ce
  edges_in = checked.edges.bounded.bound_within

  -- a node is opened
  module _ (o : Opened ws vs ce cn counts.nodes.bound) (room : counts.nodes.bound < cn) where
    -- the words of ends and index are as they were
    opened_end : (e : ℕ) → e < counts.edges.bound → get_or vs e 0 ≡ get_or ws e 0
    opened_end e l = o.kept e (omega (arith, edges_in)) (omega (arith, edges_in))

    opened_entries : (i : ℕ) → ce ≤ i → i < 2 * ce → get_or vs i 0 ≡ get_or ws i 0
    opened_entries i l h = o.kept i (omega arith) (omega arith)

    opened_offsets : (i : ℕ) → 4 * ce + 5 * cn ≤ i → i < 4 * ce + 6 * cn + 1 → get_or vs i 0 ≡ get_or ws i 0
    opened_offsets i l h = o.kept i (omega arith) (omega arith)

    -- the run of another node is as it was
    opened_run : (x : ℕ) → x < counts.nodes.bound → run_of vs ce cn x ≡ run_of ws ce cn x
    opened_run x l = o.other_runs counts.edges.bound x edges_in old.runs l

    -- so is its adjacency
    opened_other : (x : ℕ) → x < counts.nodes.bound → adjacency_read vs ce cn counts x ≡ adjacency_read ws ce cn counts x
    opened_other x l =
        adjacency_ext (base_kept vs base_in base_edges_in old.index opened_entries opened_offsets x) (opened_run x l)
        (o.other_rings counts.edges.base counts.edges.bound x edges_in old.rings l)

    -- the new node has none
    opened_here : adjacency_read vs ce cn counts counts.nodes.bound ≡ no_adjacency
    opened_here =
        adjacency_ext (base_past vs ce cn counts.nodes.base counts.nodes.bound checked.nodes.bounded.base_within) o.run
        (o.ring counts.edges.base counts.edges.bound)

    -- the direction's shape has a node more
    pub opened_axis : axis_of vs ce cn (with_nodes (one_more counts.nodes) counts) ≡ opened (axis_of ws ce cn counts)
    unfolding axis_of
    opened_axis =
        axis_ext (made_same (λ e. get_or ws e 0) (λ e. get_or vs e 0) counts.edges.bound opened_end)
        (made_more (adjacency_read ws ce cn counts) (adjacency_read vs ce cn counts) counts.nodes.bound opened_other
        ∙ ap (λ (a : Adjacency). (axis_of ws ce cn counts).nodes ++ (a ∷ [])) opened_here)

    -- and it passes the check
    pub opened_checked : AxisChecked vs ce cn (with_nodes (one_more counts.nodes) counts) (node_live w ++ (true ∷ [])) (edge_live w)
    opened_checked = record {
      sized = sized;
      ends_below = λ e l. let low = old.ends_below e l in rw (opened_end e l) (omega arith);
      index = index_kept vs base_in base_edges_in old.index opened_entries opened_offsets;
      rings = o.rings counts.edges.base counts.edges.bound edges_in old.rings;
      runs = o.runs counts.edges.bound edges_in old.runs;
      removed_runs = removed;
    }
      where
        removed : (x e : ℕ) → x < counts.nodes.bound + 1 → get_or (node_live w ++ (true ∷ [])) x false ≡ false → In e (run_list vs ce cn x)
            → get_or (edge_live w) e false ≡ false
        removed x e l dead m =
            ⊎_elim
            (λ k. old.removed_runs x e k (sym (get_or-append (node_live w) (true ∷ []) false x (rw (length_flags w.live_nodes counts.nodes.bound) k)) ∙ dead)
            (rw (run_list_is ws ce cn x, ← opened_run x k, ← run_list_is vs ce cn x) m))
            (λ k. let same : length (node_live w) ≡ x = omega (arith, length_flags w.live_nodes counts.nodes.bound) in
            true_false refl (sym (get_or_at (node_live w) true [] false x same) ∙ dead))
            (below_or_not x counts.nodes.bound)

  -- an edge is appended at a node
  module _
      (node : ℕ)
      (o : Appended ws vs ce counts.nodes.bound counts.edges.base node counts.edges.bound)
      (room : counts.edges.bound < ce)
      (node_below : node < counts.nodes.bound)
    where
      -- the nodes are within the capacity
      nodes_in : counts.nodes.bound ≤ cn
      nodes_in = checked.nodes.bounded.bound_within

      -- the words of ends, index and runs are as they were
      appended_end : (e : ℕ) → e < counts.edges.bound → get_or vs e 0 ≡ get_or ws e 0
      appended_end e l = o.below e (omega arith) (omega arith)

      appended_entries : (i : ℕ) → ce ≤ i → i < 2 * ce → get_or vs i 0 ≡ get_or ws i 0
      appended_entries i l h = o.below i h (omega arith)

      appended_offsets : (i : ℕ) → 4 * ce + 5 * cn ≤ i → i < 4 * ce + 6 * cn + 1 → get_or vs i 0 ≡ get_or ws i 0
      appended_offsets i l h = o.above i (omega arith) (omega (arith, nodes_in))

      appended_links : (i : ℕ) → 3 * ce ≤ i → i < 4 * ce → get_or vs i 0 ≡ get_or ws i 0
      appended_links i l h = o.above i l (omega arith)

      appended_columns : (i : ℕ) → 4 * ce + cn ≤ i → i < 4 * ce + 5 * cn → get_or vs i 0 ≡ get_or ws i 0
      appended_columns i l h = o.above i (omega arith) (omega (arith, nodes_in))

      -- base part and run of every node are as they were
      appended_base : (x : ℕ) → base_of vs ce cn counts.nodes.base x ≡ base_of ws ce cn counts.nodes.base x
      appended_base = base_kept vs base_in base_edges_in old.index appended_entries appended_offsets

      appended_run : (x : ℕ) → x < counts.nodes.bound → run_of vs ce cn x ≡ run_of ws ce cn x
      appended_run = run_kept vs nodes_in edges_in old.runs appended_links appended_columns

      -- the direction's shape has the edge at the end of the node's ring
      pub appended_axis : axis_of vs ce cn (with_edges (one_more counts.edges) counts) ≡ appended counts.edges.bound node (axis_of ws ce cn counts)
      unfolding axis_of appended
      appended_axis =
          axis_ext
          (made_more (λ e. get_or ws e 0) (λ e. get_or vs e 0) counts.edges.bound appended_end
          ∙ ap (λ (x : ℕ). (axis_of ws ce cn counts).ends ++ (x ∷ [])) o.end)
          (made_set (adjacency_read ws ce cn counts) (adjacency_read vs ce cn (with_edges (one_more counts.edges) counts)) counts.nodes.bound node _
          node_below
          (rw (axis_adjacency ws ce cn counts node node_below) (adjacency_ext (appended_base node) (appended_run node node_below) o.here))
          (λ x l ne. adjacency_ext (appended_base x) (appended_run x l) (o.others x l ne)))

      -- and it passes the check
      pub appended_checked : AxisChecked vs ce cn (with_edges (one_more counts.edges) counts) (node_live w) (edge_live w ++ (true ∷ []))
      appended_checked = record {
        sized = sized;
        ends_below = ends;
        index = index_kept vs base_in base_edges_in old.index appended_entries appended_offsets;
        rings = o.rings;
        runs = runs_kept vs nodes_in edges_in old.runs appended_links appended_columns (counts.edges.bound + 1) (omega arith);
        removed_runs = removed;
      }
        where
          ends : (e : ℕ) → e < counts.edges.bound + 1 → get_or vs e 0 < counts.nodes.bound
          ends e l =
              ⊎_elim (λ k. rw (appended_end e k) (old.ends_below e k)) (λ k. let same : e ≡ counts.edges.bound = omega arith in rw (same, o.end) node_below)
              (below_or_not e counts.edges.bound)

          removed : (x e : ℕ) → x < counts.nodes.bound → get_or (node_live w) x false ≡ false → In e (run_list vs ce cn x)
              → get_or (edge_live w ++ (true ∷ [])) e false ≡ false
          removed x e l dead m =
              let was : In e (run_list ws ce cn x) = rw (run_list_kept vs nodes_in edges_in old.runs appended_links appended_columns x l) at m in
              let low = run_list_below old.runs x e l was in
              get_or-append (edge_live w) (true ∷ []) false e (rw (length_flags w.live_edges counts.edges.bound) low) ∙ old.removed_runs x e l dead was
