-- What is no field changes nothing that is read: a store whose fields are those of a checked one passes the check and has its shape, and so its plain lists,
-- walks and image.
use Rattle.std.specs.Prelude.{ℕ, suc, ◌*◌, ◌/◌, ◌%◌, ◌≤◌, ◌<◌, ◌≡◌, Bool, true, false, ◌≢◌, List, [], ◌∷◌, ◌++◌, length, get_or, eqb}
use Rattle.plain.specs.Library.{sym, ap, ◌∙◌, subst, subst₂, inl, inr, ⊎_elim, zero-add, arith, ne_eqb, eqb-true, eqb-false}
use Rattle.std.proofs.Common.{le_trans}
use Rattle.plain.specs.declared.TraversalDirection.{TraversalDirection}
use Rattle.plain.specs.declared.TraversalDirection.TheVariants.{Outgoing, Incoming}
use Rattle.plain.specs.declared.Slots.{Slots}
use Rattle.plain.specs.declared.Counts.{Counts}
use Rattle.plain.specs.Lists.{member, distinct}
use Rattle.plain.specs.Plain.{NodeSlot, EdgeSlot}
use Rattle.plain.specs.Step.{Capacities}
use Rattle.plain.specs.Reads.{live_count}
use Rattle.plain.specs.WellFormed.{WellFormed}
use Rattle.plain.proofs.Laws.Booleans.{by_test, true_false}
use Rattle.plain.proofs.Laws.ListLaws.{member_first, distinct_apart}
use Rattle.liveness.specs.Flags.{live_bit, live_flags, packed}
use Rattle.liveness.specs.Laws.Flags.{flags_same}
use Rattle.shape.specs.Columns.{cell, end_at, first_at, tail_at, count_at, mark_at}
use Rattle.shape.specs.Chains.{In, Line, Run}
use Rattle.shape.specs.Shape.{Words, node_capacity, edge_capacity, axis_words, node_live, edge_live, node_slot_at, edge_payload_at, edge_slot_at, base_of, run_list, run_of, ring_of, adjacency_in, axis_of, shape_of, plain_of}
use Rattle.shape.specs.Checked.{SlotsChecked, Index, AxisChecked, Checked}
use Rattle.shape.specs.Kept.{same_capacities, same_nodes, same_edges, same_highs, same_live_nodes, same_live_edges, same_axis}
use Rattle.shape.specs.Fields.{Column, ends, adjacency, next, links, last, first, tail, count, marks, offsets, begins, AxisField, node_payload, edge_low, edge_high, node_bits, edge_bits, axis_word, SameFields}
use Rattle.shape.proofs.Laws.Chains.{in_front, seg_agree, run_is, run_empty, run_line, ring_below}
use Rattle.shape.specs.Laws.Frames.{SameRing}
use Rattle.shape.proofs.Laws.Frames.{base_of_agree, offset_within, run_list_unmarked, run_of_unmarked, ring_agrees, rings_agree}
use Rattle.shape.proofs.Laws.Reading.{made_same}

-- a line asks only the links of its own entries but the last
line_but_last : {nx : ℕ → ℕ} (mx : ℕ → ℕ) {lo hi f t : ℕ} {xs : List ℕ} → ((x : ℕ) → In x xs → x ≢ t → mx x ≡ nx x) → Line nx lo hi f t xs → Line mx lo hi f t xs
line_but_last {nx} mx {f = f} {t = t} h w =
    record {
      front = w.front;
      ends = w.ends;
      visits = seg_agree nx mx f w.front t (λ x m. h x (rw w.ends (in_front x w.front (t ∷ []) m)) (other x m)) w.visits;
      once = w.once;
      least = w.least;
      below = w.below;
    }
  where
    once : distinct (w.front ++ (t ∷ [])) ≡ true
    once = rw w.ends at w.once

    other : (x : ℕ) → In x w.front → x ≢ t
    other x m q = true_false (member_first t []) (ap (λ (z : ℕ). member z (t ∷ [])) (sym q) ∙ distinct_apart w.front (t ∷ []) once x m)

-- ---- one axis

module _
    {ws : List ℕ}
    {ce cn : ℕ}
    {counts : Counts}
    {nodes edges : List Bool}
    (vs : List ℕ)
    (k : AxisChecked ws ce cn counts nodes edges)
    (edges_within : counts.edges.bound ≤ ce)
    (same : (c : Column) (x : ℕ) → AxisField ws ce cn counts c x → cell vs (begins ce cn c) x ≡ cell ws (begins ce cn c) x)
  where
    end_same : (e : ℕ) → e < counts.edges.bound → end_at vs e ≡ end_at ws e
    end_same e h = ap (λ (z : ℕ). get_or vs z 0) (sym (zero-add e)) ∙ same ends e h ∙ ap (λ (z : ℕ). get_or ws z 0) (zero-add e)

    -- base parts
    base_same : (x : ℕ) → base_of vs ce cn counts.nodes.base x ≡ base_of ws ce cn counts.nodes.base x
    base_same x =
        base_of_agree ws vs ce cn counts.nodes.base x (λ h. same offsets x (omega arith, λ q. let z = q.0 in omega arith))
        (λ h. same offsets (suc x) (h, λ q. let z = q.0 in omega arith))
        (λ i h low high. ⊎_elim (λ q. absurd (let z = q.0 in omega arith))
        (λ ok. let few = offset_within ok (suc x) h in same adjacency i (omega arith)) k.index)

    -- rings
    ring_words : (x : ℕ) → x < counts.nodes.bound → SameRing ws vs ce counts.edges.base counts.edges.bound x
    ring_words x h = record {
      last = same last x h;
      next = λ e m. same next e (x, h, m);
      ends = λ e m. end_same e (ring_below (k.rings.ring x h) e m);
    }

    ring_same : (x : ℕ) → x < counts.nodes.bound
        → ring_of vs ce counts.edges.base counts.edges.bound x ≡ ring_of ws ce counts.edges.base counts.edges.bound x
    ring_same = ring_agrees vs (le_trans edges_within k.sized.edges_within) k.rings ring_words

    -- runs
    module _ (x : ℕ) (h : x < counts.nodes.bound) where
      mark_same : mark_at vs ce cn x ≡ mark_at ws ce cn x
      mark_same = same marks x h

      module _ (marked : mark_at ws ce cn x ≢ 0) where
        was : Run (cell ws (3 * ce)) counts.edges.bound (first_at ws ce cn x) (tail_at ws ce cn x) (count_at ws ce cn x) (run_list ws ce cn x)
        was = k.runs.run x h marked

        count_same : count_at vs ce cn x ≡ count_at ws ce cn x
        count_same = same count x (h, marked)

        lined : count_at ws ce cn x ≢ 0 → Line (cell vs (3 * ce)) 0 counts.edges.bound (first_at vs ce cn x) (tail_at vs ce cn x) (run_list ws ce cn x)
        lined full =
            rw (same first x (h, marked, full), same tail x (h, marked, full))
            (line_but_last (cell vs (3 * ce)) (λ e m ne. same links e (x, h, m, ne)) (run_line full was))

        still : Run (cell vs (3 * ce)) counts.edges.bound (first_at vs ce cn x) (tail_at vs ce cn x) (count_at vs ce cn x) (run_list ws ce cn x)
        still =
            record {
              counted = count_same ∙ was.counted;
              line = by_test (eqb (count_at ws ce cn x) 0) (λ t. inl (run_empty (eqb-true (count_at ws ce cn x) 0 t) was))
                  (λ t. inr (lined (eqb-false (count_at ws ce cn x) 0 t)));
            }

        list_same : run_list vs ce cn x ≡ run_list ws ce cn x
        unfolding run_list
        list_same = rw (mark_same, ne_eqb (mark_at ws ce cn x) 0 marked) (rw (ne_eqb (mark_at ws ce cn x) 0 marked) at (run_is still))

        some_same : run_of vs ce cn x ≡ run_of ws ce cn x
        unfolding run_of
        some_same = rw (mark_same, list_same)

      run_same : run_of vs ce cn x ≡ run_of ws ce cn x
      run_same =
          by_test (eqb (mark_at ws ce cn x) 0)
          (λ t. let none-mark = eqb-true (mark_at ws ce cn x) 0 t in
          run_of_unmarked vs ce cn x (mark_same ∙ none-mark) ∙ sym (run_of_unmarked ws ce cn x none-mark))
          (λ t. some_same (eqb-false (mark_at ws ce cn x) 0 t))

    -- the entries of every run
    entries_same : (x : ℕ) → x < counts.nodes.bound → run_list vs ce cn x ≡ run_list ws ce cn x
    entries_same x h =
        by_test (eqb (mark_at ws ce cn x) 0)
        (λ t. let none-mark = eqb-true (mark_at ws ce cn x) 0 t in
        run_list_unmarked vs ce cn x (mark_same x h ∙ none-mark) ∙ sym (run_list_unmarked ws ce cn x none-mark))
        (λ t. list_same x h (eqb-false (mark_at ws ce cn x) 0 t))

    -- rule 4
    index_same : Index vs ce cn counts.nodes.base counts.edges.base
    index_same =
        by_test (eqb counts.nodes.base 0)
        (λ t. by_test (eqb counts.edges.base 0) (λ u. inl (eqb-true counts.nodes.base 0 t, eqb-true counts.edges.base 0 u))
        (λ u. let ne = eqb-false counts.edges.base 0 u in read (λ q. ne q.1)))
        (λ t. let ne = eqb-false counts.nodes.base 0 t in read (λ q. ne q.0))
      where
        read : ((counts.nodes.base ≡ 0) × (counts.edges.base ≡ 0) → ⊥) → Index vs ce cn counts.nodes.base counts.edges.base
        read some-base =
            ⊎_elim (λ q. absurd (some-base q))
            (λ ok. inr (record {
              starts = same offsets 0 (omega arith, some-base) ∙ ok.starts;
              ascends = λ x h. rw (same offsets x (omega arith, some-base), same offsets (suc x) (h, some-base)) (ok.ascends x h);
              stops = same offsets counts.nodes.base (omega arith, some-base) ∙ ok.stops;
              entries = λ i h. rw (same adjacency i h) (ok.entries i h);
            }))
            k.index

    -- rules 3 to 6
    pub fields_axis_checked : length vs ≡ length ws → AxisChecked vs ce cn counts nodes edges
    fields_axis_checked long = record {
      sized = record { edges_within = k.sized.edges_within; nodes_within = k.sized.nodes_within; room = rw long k.sized.room };
      ends_below = λ e h. rw (end_same e h) (k.ends_below e h);
      index = index_same;
      rings = rings_agree vs (le_trans edges_within k.sized.edges_within) k.rings ring_words;
      runs = record {
        run = λ x h some-mark. let marked : mark_at ws ce cn x ≢ 0 = λ q. some-mark (mark_same x h ∙ q) in rw (list_same x h marked) (still x h marked);
        apart = λ x y e h l m n. k.runs.apart x y e h l (rw (entries_same x h) at m) (rw (entries_same y l) at n);
      };
      removed_runs = λ x e h dead m. k.removed_runs x e h dead (rw (entries_same x h) at m);
    }

    pub fields_axis : axis_of vs ce cn counts ≡ axis_of ws ce cn counts
    unfolding axis_of
    fields_axis =
        let all_ends = made_same (end_at ws) (end_at vs) counts.edges.bound end_same in
        let all-nodes = made_same (adjacency_in ws ce cn counts) (adjacency_in vs ce cn counts) counts.nodes.bound node in
        λ i. record { ends = all_ends i; nodes = all-nodes i }
      where
        node : (x : ℕ) → x < counts.nodes.bound → adjacency_in vs ce cn counts x ≡ adjacency_in ws ce cn counts x
        node x h = let p = base_same x in let q = run_same x h in let r = ring_same x h in λ i. record { base = p i; run = q i; ring = r i }

-- ---- one kind of slot

-- words of the last slots
packed_same : (words words' : List ℕ) (slots : ℕ) → ((i : ℕ) → 64 * i < slots → get_or words' i 0 ≡ get_or words i 0) → packed words' slots ≡ packed words slots
unfolding packed
packed_same words words' slots agree =
    by_test (eqb (slots % 64) 0) (λ t. rw t) (λ t. let ne = eqb-false (slots % 64) 0 t in rw (t, agree (slots / 64) (omega arith)))

-- and its flags
flags_agree : (words words' : List ℕ) (slots : ℕ) → ((i : ℕ) → 64 * i < slots → get_or words' i 0 ≡ get_or words i 0) → live_flags words' slots ≡ live_flags words slots
unfolding live_bit
flags_agree words words' slots agree = flags_same words' words slots (λ i l. rw (agree (i / 64) (omega arith)))

-- live words that agree on its slots serve as well
slots_checked : {c : ℕ} {words words' : List ℕ} {s : Slots} → SlotsChecked c words s → length words' ≡ length words
    → ((i : ℕ) → 64 * i < s.bound → get_or words' i 0 ≡ get_or words i 0) → SlotsChecked c words' s
slots_checked {words = words} {words' = words'} {s = s} k long agree = record {
  bounded = k.bounded;
  live_long = rw long k.live_long;
  live = record {
    unused_clear = packed_same words words' s.bound agree ∙ k.live.unused_clear;
    live_right = k.live.live_right ∙ ap live_count (sym (flags_agree words words' s.bound agree));
  };
}

-- ---- the store

module _ {w v : Words} (k : Checked w) (same : SameFields w v) where
  nodes_long : node_capacity v ≡ node_capacity w
  nodes_long = same_nodes same.lengths

  edges_long : edge_capacity v ≡ edge_capacity w
  edges_long = same_edges same.lengths

  -- live flags
  nodes_flagged : live_flags v.live_nodes w.counts.nodes.bound ≡ node_live w
  nodes_flagged = flags_agree w.live_nodes v.live_nodes w.counts.nodes.bound (λ i h. same.words (node_bits i) h)

  edges_flagged : live_flags v.live_edges w.counts.edges.bound ≡ edge_live w
  edges_flagged = flags_agree w.live_edges v.live_edges w.counts.edges.bound (λ i h. same.words (edge_bits i) h)

  column_same : (d : TraversalDirection) (c : Column) (x : ℕ) → AxisField (axis_words d w) (edge_capacity w) (node_capacity w) w.counts c x
      → cell (axis_words d v) (begins (edge_capacity w) (node_capacity w) c) x ≡ cell (axis_words d w) (begins (edge_capacity w) (node_capacity w) c) x
  column_same d c x f =
      subst₂ (λ (ce cn : ℕ). cell (axis_words d v) (begins ce cn c) x ≡ cell (axis_words d w) (begins (edge_capacity w) (node_capacity w) c) x)
      edges_long nodes_long (same.words (axis_word d c x) f)

  axis_same : (d : TraversalDirection)
      → axis_of (axis_words d v) (edge_capacity w) (node_capacity w) w.counts ≡ axis_of (axis_words d w) (edge_capacity w) (node_capacity w) w.counts
  axis_same d = fields_axis (axis_words d v) (k.axis d) k.edges.bounded.bound_within (column_same d)

  -- a store with the fields of a checked one has its shape
  pub fields_shape : shape_of v ≡ shape_of w
  unfolding shape_of
  fields_shape =
      rw (same.counts, nodes_long, edges_long, nodes_flagged, edges_flagged)
      (let out = axis_same Outgoing in
      let inc = axis_same Incoming in
      let ns = made_same {A = NodeSlot} (node_slot_at w) (λ x. record { payload = get_or v.nodes x 0; live = get_or (node_live w) x false }) w.counts.nodes.bound
      (λ x h. let p = same.words (node_payload x) h in λ i. record { payload = p i; live = get_or (node_live w) x false }) in
      let es = made_same {A = EdgeSlot} (edge_slot_at w) (λ e. record { payload = edge_payload_at v e; live = get_or (edge_live w) e false }) w.counts.edges.bound
      (λ e h. let p = same.words (edge_low e) h in let q = same.words (edge_high e) h in
      λ i. record { payload = record { low = p i; high = q i }; live = get_or (edge_live w) e false }) in
      λ i. record {
        nodes = ns i;
        edges = es i;
        base_nodes = w.counts.nodes.base;
        base_edges = w.counts.edges.base;
        outgoing = out i;
        incoming = inc i;
      })

  -- each axis
  axis_checked : (d : TraversalDirection)
      → AxisChecked (axis_words d v) (edge_capacity w) (node_capacity w) w.counts (node_live w) (edge_live w)
  axis_checked d =
      fields_axis_checked (axis_words d v) (k.axis d) k.edges.bounded.bound_within (column_same d) (same_axis w v same.lengths d)

  -- and passes the check
  pub fields_checked : Checked v
  fields_checked =
      record {
        nodes = rw (same.counts, nodes_long)
            (slots_checked k.nodes (same_live_nodes same.lengths) (λ i h. same.words (node_bits i) h));
        edges = rw (same.counts, edges_long)
            (slots_checked k.edges (same_live_edges same.lengths) (λ i h. same.words (edge_bits i) h));
        highs_long = rw (edges_long, same_highs same.lengths) k.highs_long;
        axis = directions;
        walks = rw fields_shape (subst (λ (c : Capacities). WellFormed c (plain_of (shape_of w))) (same_capacities (sym same.lengths)) k.walks);
      }
    where
      directions : (d : TraversalDirection) → AxisChecked (axis_words d v) (edge_capacity v) (node_capacity v) v.counts (node_live v) (edge_live v)
      directions Outgoing = rw (same.counts, nodes_long, edges_long, nodes_flagged, edges_flagged) (axis_checked Outgoing)
      directions Incoming = rw (same.counts, nodes_long, edges_long, nodes_flagged, edges_flagged) (axis_checked Incoming)
