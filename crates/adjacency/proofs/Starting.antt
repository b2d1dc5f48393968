-- Where a walk starts: at a run, at a base part, or nowhere; and that the cursor there has to read the node's entries.
use Rattle.std.specs.Prelude.{ℕ, ◌+◌, ◌≤◌, ◌-◌, ◌*◌, ◌≡◌, refl, Bool, true, false, List, length, eqb}
use Rattle.plain.specs.Library.{sym, ◌∙◌, subst, inl, inr, arith, eqb-true, eqb-false, eq-eqb, ne_eqb}
use Rattle.shape.specs.Columns.{cell, last_at, first_at, count_at, mark_at}
use Rattle.shape.specs.Shape.{between, base_of, adjacency_in, run_list, run_of, ring_of, part}
use Rattle.shape.specs.Checked.{Index}
use Rattle.shape.proofs.Laws.NewBase.{base_between, base_range}
use Rattle.adjacency.specs.Index.{base_bounds}
use Rattle.plain.specs.declared.Counts.{Counts}
use Rattle.plain.specs.Numbers.{NONE, LIMIT}
use Rattle.plain.proofs.Laws.Booleans.{by_test}
use Rattle.shape.proofs.Laws.CheckedShape.{part_below}
use Rattle.shape.specs.Chains.{chain, until, ring, In}
use Rattle.shape.proofs.Laws.Chains.{in_none, chain_agree, run_short, until_agree, ring_line, ring_last, ring_below, line_last}
use Rattle.shape.proofs.Laws.Frames.{between_agree}
use Rattle.shape.proofs.Laws.Walking.{between_none, until_wider, until_first}
use Rattle.cursor.specs.declared.AdjacencyCursor.{AdjacencyCursor}
use Rattle.cursor.specs.declared.Start.{Start}
use Rattle.adjacency.specs.Rings.{EndsReadable, ring_ends}
use Rattle.cursor.specs.Cursor.{word, part_left, ring_left, remaining, exhausted, PartWithin, Closed}
use Rattle.adjacency.specs.Walk.{walk_in, entries_column, next_column, Readable, Walkable, Started}
use Rattle.adjacency.specs.Laws.Walk.{column_length, column_word, next_length, read_below, walk_short}

-- ---- the base part by its bounds

module _ (ws : List ℕ) (ce cn bn x : ℕ) where
  -- the base part is what stands between its bounds
  pub bounds_part : base_of ws ce cn bn x ≡ between (cell ws ce) (base_bounds ws ce cn bn x).start (base_bounds ws ce cn bn x).end
  unfolding base_bounds
  bounds_part = base_between ws ce cn bn x

  -- which are in order and within the index
  pub bounds_range : {be : ℕ} → Index ws ce cn bn be
      → ((base_bounds ws ce cn bn x).start ≤ (base_bounds ws ce cn bn x).end) × ((base_bounds ws ce cn bn x).end ≤ be)
  unfolding base_bounds
  bounds_range index = base_range ws ce cn bn index x

-- ---- where a walk starts

module _ {ws : List ℕ} {ce cn : ℕ} {counts : Counts} {x : ℕ} (r : Readable ws ce cn counts x) where
  run_length : length (entries_column ws ce true) ≡ ce
  run_length = let s = r.sized in column_length ws (3 * ce) ce (omega arith)

  base_length : length (entries_column ws ce false) ≡ ce
  base_length = let s = r.sized in column_length ws ce ce (omega arith)

  abbrev bn : ℕ
  bn = counts.nodes.base

  abbrev be : ℕ
  be = counts.edges.base

  abbrev eb : ℕ
  eb = counts.edges.bound

  -- ---- its ring, where that is not empty

  module _ (some : eqb (last_at ws ce x) NONE ≡ false) where
    -- the entries from the one behind the last on up to the last
    ring_entries : ring_of ws ce be eb x ≡ until (cell ws (2 * ce)) (last_at ws ce x) (eb - be) (cell ws (2 * ce) (last_at ws ce x))
    unfolding ring_of ring
    ring_entries = rw some

    -- the last entry is one of them
    ring_closed : In (last_at ws ce x) (until (cell ws (2 * ce)) (last_at ws ce x) (eb - be) (cell ws (2 * ce) (last_at ws ce x)))
    ring_closed = rw ring_entries at (line_last (ring_line (eqb-false (last_at ws ce x) NONE some) (r.rings.ring x r.node)))

    -- the same, read in the column of the ring links
    ring_column : until (word (next_column ws ce)) (last_at ws ce x) (length (next_column ws ce)) (cell ws (2 * ce) (last_at ws ce x))
        ≡ ring_of ws ce be eb x
    ring_column =
        let bounded = r.edges in
        let link = cell ws (2 * ce) in
        let last = last_at ws ce x in
        let wider = until_wider link last (eb - be) ce (link last) (omega arith) ring_closed in
        let same : until link last ce (link last) ≡ ring_of ws ce be eb x = wider ∙ sym ring_entries in
        rw (next_length r)
        (until_agree link (word (next_column ws ce)) last ce (link last)
        (λ e m. let low = ring_below (r.rings.ring x r.node) e (rw same at m) in column_word ws (2 * ce) ce e (omega arith)) ∙ same)

    -- the first entry is an edge, not NONE
    ring_first_some : eqb (cell ws (2 * ce) (last_at ws ce x)) NONE ≡ false
    ring_first_some =
        let first = until_first (cell ws (2 * ce)) (last_at ws ce x) (eb - be) (cell ws (2 * ce) (last_at ws ce x)) ring_closed in
        let low = ring_below (r.rings.ring x r.node) (cell ws (2 * ce) (last_at ws ce x)) (rw ring_entries first) in
        let bounded = r.edges in
        let small = r.sized.edges_within in
        ne_eqb (cell ws (2 * ce) (last_at ws ce x)) NONE (λ q. omega arith)

  -- the ring from its ends, empty or not
  ring_starts : (ring_left (next_column ws ce) (ring_ends ws ce x).first (ring_ends ws ce x).last ≡ ring_of ws ce be eb x)
      × Closed (next_column ws ce) (ring_ends ws ce x).first (ring_ends ws ce x).last
  unfolding ring_ends ring_of ring
  ring_starts =
      by_test (eqb (last_at ws ce x) NONE) (λ q. (rw q, inl (rw q)))
      (λ q. (
        rw (q, ring_first_some q) (ring_column q ∙ ring_entries q),
        inr (rw q (subst (λ (l : List ℕ). In (last_at ws ce x) l) (sym (ring_column q)) (rw (ring_entries q) (ring_closed q)))),
      ))

  -- the ends of the ring can be read
  pub ends_readable : EndsReadable ws ce x
  ends_readable =
      let sized = r.sized in
      let bounded = r.nodes in
      let edges = r.edges in
      let node = r.node in
      record {
        room = omega arith;
        edge = λ some. let low = ring_below (r.rings.ring x r.node) (last_at ws ce x) (ring_last some (r.rings.ring x r.node)) in omega arith;
      }

  -- ---- its run or base part

  -- where the node has a run, that is read
  run_read : (mark_at ws ce cn x ≡ 0 → ⊥)
      → part (adjacency_in ws ce cn counts x) ≡ chain (cell ws (3 * ce)) (count_at ws ce cn x) (first_at ws ce cn x)
  unfolding run_of run_list
  run_read marked = rw (ne_eqb (mark_at ws ce cn x) 0 marked)

  -- where it has none, its part of the compressed index
  base_read : mark_at ws ce cn x ≡ 0
      → part (adjacency_in ws ce cn counts x) ≡ between (cell ws ce) (base_bounds ws ce cn bn x).start (base_bounds ws ce cn bn x).end
  unfolding run_of
  base_read unmarked = rw (eq-eqb (mark_at ws ce cn x) 0 unmarked) (bounds_part ws ce cn bn x)

  -- ---- the start

  abbrev cursor_at : ℕ → ℕ → AdjacencyCursor
  cursor_at at end = record { base = at; base_end = end; delta = (ring_ends ws ce x).first; delta_last = (ring_ends ws ce x).last }

  -- of a live node: a cursor that has to read the node's run or base part
  started : (linked : Bool) (at end : ℕ) → end ≤ LIMIT → PartWithin linked (entries_column ws ce linked) (next_column ws ce) at end
      → part_left linked (entries_column ws ce linked) at end ≡ part (adjacency_in ws ce cn counts x)
      → Started ws ce cn counts x true (record { linked = linked; cursor = cursor_at at end })
  unfolding remaining
  started linked at end short within whole = record {
    ready = record {
      few = rw (next_length r) r.sized.edges_within;
      short = omega arith;
      part = within;
      closed = ring_starts.1;
      below = λ e m. let low = read_below r e (rw (whole, ring_starts.0) at m) in let bounded = r.edges in omega (arith, next_length r);
    };
    part_is = whole;
    ring_is = ring_starts.0;
  }

  -- a node with a run
  pub run_starts : (mark_at ws ce cn x ≡ 0 → ⊥)
      → Started ws ce cn counts x true (record { linked = true; cursor = cursor_at (first_at ws ce cn x) (count_at ws ce cn x) })
  run_starts marked =
      let bounded = r.edges in
      let small = r.sized.edges_within in
      let short = run_short (r.runs.run x r.node marked) in
      started true (first_at ws ce cn x) (count_at ws ce cn x) (omega arith) (rw (run_length, (next_length r)) (omega arith))
      (rw (run_read marked)
      (chain_agree (cell ws (3 * ce)) (word (entries_column ws ce true)) (count_at ws ce cn x) (first_at ws ce cn x)
      (λ e m. let low = part_below ws ce cn counts r.edges.base_within r.index r.runs x r.node e (rw (run_read marked) m) in column_word ws (3 * ce) ce e (omega arith))))

  -- a node without a run
  pub base_starts : mark_at ws ce cn x ≡ 0
      → Started ws ce cn counts x true
      (record { linked = false; cursor = cursor_at (base_bounds ws ce cn bn x).start (base_bounds ws ce cn bn x).end })
  base_starts unmarked =
      let bounded = r.edges in
      let small = r.sized.edges_within in
      let bounds = bounds_range ws ce cn bn x r.index in
      let stop = bounds.1 in
      started false (base_bounds ws ce cn bn x).start (base_bounds ws ce cn bn x).end (omega arith) (bounds.0, rw base_length (omega arith))
      (rw (base_read unmarked)
      (between_agree (word (entries_column ws ce false)) (cell ws ce) (base_bounds ws ce cn bn x).start (base_bounds ws ce cn bn x).end
      (λ i low high. column_word ws ce ce i (omega arith))))

  -- a removed node
  pub none_starts : Started ws ce cn counts x false (record { linked = false; cursor = exhausted })
  unfolding remaining
  none_starts =
      let nothing = between_none (word (entries_column ws ce false)) 0 0 (omega arith) in
      record {
        ready = record {
          few = rw (next_length r) r.sized.edges_within;
          short = omega arith;
          part = (omega arith, omega arith);
          closed = inl refl;
          below = λ e m. in_none e (rw nothing at m);
        };
        part_is = nothing;
        ring_is = refl;
      }

  -- a walk starts somewhere
  any_start : (live : Bool) → (s : Start) × Started ws ce cn counts x live s
  any_start false = (_, none_starts)
  any_start true =
      by_test (eqb (mark_at ws ce cn x) 0) (λ q. (_, base_starts (eqb-true (mark_at ws ce cn x) 0 q)))
      (λ q. (_, run_starts (eqb-false (mark_at ws ce cn x) 0 q)))

-- so a walk is short
pub walk_fits : {ws : List ℕ} {ce cn : ℕ} {counts : Counts} {live_edges : List ℕ} {x : ℕ} → Walkable ws ce cn counts live_edges x → (live : Bool)
    → length (walk_in ws ce cn counts live_edges x live) ≤ NONE + LIMIT
walk_fits w live = walk_short w (any_start w.readable live).1
