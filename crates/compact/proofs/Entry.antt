-- The ways that a compaction ends, by what it answers before it begins: refused, or the store settled.
use Rattle.std.specs.Prelude.{ℕ, ◌*◌, ◌≤◌, ◌≡◌, refl, Bool, List, [], ◌++◌, length, take, drop, Ok, Err}
use Rattle.plain.specs.Library.{Option, none, some, sym, ap, ◌∙◌, inl, append_assoc, length-map, length-append, length-drop, take_at, arith}
use lib.Seq.{drop_at}
use Rattle.plain.specs.declared.refusals.Refusal.{Refusal}
use Rattle.plain.specs.declared.refusals.Rule.{Rule}
use Rattle.plain.specs.declared.TraversalDirection.TheVariants.{Outgoing}
use Rattle.plain.specs.Answers.{done_of}
use Rattle.plain.specs.Calls.{Compacted, compacting, compaction, judged_compaction, short_answer}
use Rattle.plain.specs.Compaction.{Survivors, survivors, source_of, target_of, renumbering, adjacency, compacted}
use Rattle.plain.specs.Lists.{written, joined}
use Rattle.plain.specs.Memory.{first_short}
use Rattle.plain.specs.Reads.{live_edges, live_count}
use Rattle.plain.specs.Refusals.{number_of, value_of, rule_number}
use Rattle.plain.specs.WellFormed.{Sound}
use Rattle.plain.specs.Laws.CallCases.{LongEnough, no_slice, slice_fits}
use Rattle.plain.proofs.Laws.Compacting.{survivors_sound, length_surviving_edges}
use Rattle.plain.proofs.Laws.Lending.{first_told, none_told, none_short}
use Rattle.shape.specs.Kept.{nothing_spared, renewed_none, renewed_spared, same_nodes, same_edges}
use Rattle.shape.specs.Shape.{Words, capacities, shape_of, lists}
use Rattle.shape.specs.Steps.{state_of}
use Rattle.shape.proofs.Laws.NewBase.{fitted_total}
use Rattle.shape.proofs.Laws.Reading.{plain_node_bound, plain_edge_bound, plain_node_flags, plain_edge_flags}
use Rattle.validate.specs.Judging.{Judged}
use Rattle.compact.specs.Calls.{compacting_of, CompactOf}
use Rattle.compact.specs.Settling.{Settleable, Settling, lent_slices}
use Rattle.compact.specs.Laws.Holding.{holding_shape, holding_state, holding_checked, holding_canonical, canonical_leaves}
use Rattle.compact.proofs.Again.{dropped_again}
use Rattle.compact.proofs.Compacted.{dropped_holding, dropped_renewed}
use Rattle.compact.proofs.Settling.{droppable}
use Rattle.compact.proofs.Telling.{rule_is}

module _ (w : Words) (node_map edge_map work : List ℕ) where
  -- refused: not a word changes
  kept : (o : Compacted) → compacting_of w (length node_map) (length edge_map) (length work) ≡ o → o.node_map ≡ [] → o.edge_map ≡ [] → o.work ≡ []
      → o.after ≡ state_of (shape_of w) → (o.number ≡ 0 → ⊥) → CompactOf w node_map edge_map work o.number o.value w node_map edge_map work
  kept o is nodes edges entries same refused = record {
    numbered = ap (λ (c : Compacted). c.number) (sym is);
    valued = ap (λ (c : Compacted). c.value) (sym is);
    node_mapped = sym (ap (λ (l : List ℕ). written l node_map) (ap (λ (c : Compacted). c.node_map) is ∙ nodes));
    edge_mapped = sym (ap (λ (l : List ℕ). written l edge_map) (ap (λ (c : Compacted). c.edge_map) is ∙ edges));
    worked = sym (ap (λ (l : List ℕ). written l work) (ap (λ (c : Compacted). c.work) is ∙ entries));
    state = sym (ap (λ (c : Compacted). c.after) is ∙ same);
    shape = λ h. absurd (refused h);
    checked = λ h. absurd (refused h);
    canonical = λ h. absurd (refused h);
    again = λ h. absurd (refused h);
    lengths = refl;
    refused_keeps = λ h. refl;
    renewed = renewed_none w;
    spared = nothing_spared w;
    leaves = λ p out. inl refl;
  }

  -- "words are no store | 1 | rule 1 to 7 | everything"
  pub compact_judged : (rule : Rule) → Judged w (rule_number rule) → CompactOf w node_map edge_map work 1 (rule_number rule) w node_map edge_map work
  compact_judged rule j =
      kept (record { number = 1; value = rule_number rule; node_map = []; edge_map = []; work = []; after = state_of (shape_of w) })
      (ap (λ (n : ℕ). judged_compaction n (state_of (shape_of w)) (compaction (state_of (shape_of w)) (length node_map) (length edge_map) (length work))) (sym j.first)
      ∙ rw (rule_is rule).1)
      refl refl refl refl (λ q. omega arith)

  module _ {rule : ℕ} (j : Judged w rule) (sound : rule ≡ 0) where
    many_edges : live_edges (lists w) ≡ w.counts.edges.live
    many_edges = ap live_count (plain_edge_flags w) ∙ sym (j.checked sound).edges.live.live_right

    -- by the first slice that is too short
    told : (first : Option ℕ) → first_short (lent_slices w.counts (length node_map) (length edge_map) (length work)) ≡ first
        → compacting_of w (length node_map) (length edge_map) (length work) ≡ compacting first (state_of (shape_of w))
    unfolding compaction
    told first is =
        ap (λ (n : ℕ). judged_compaction n (state_of (shape_of w)) (compaction (state_of (shape_of w)) (length node_map) (length edge_map) (length work))) (sym j.first ∙ sound)
        ∙ rw (plain_node_bound w, plain_edge_bound w, many_edges, is)

    -- "a lent slice too short | 2 | length needed | everything"
    short : {needed : ℕ} → first_short (lent_slices w.counts (length node_map) (length edge_map) (length work)) ≡ some needed
        → CompactOf w node_map edge_map work 2 needed w node_map edge_map work
    short {needed} is = kept (compacting (some needed) (state_of (shape_of w))) (told (some needed) is) refl refl refl refl (λ q. omega arith)

    -- what is left
    abbrev left : Survivors
    left = survivors (lists w)

    sound_left : Sound left
    sound_left =
        let k = j.checked sound in
        survivors_sound (capacities w) (lists w) k.walks (k.axis Outgoing).sized.nodes_within
        (k.axis Outgoing).sized.edges_within

    edges_left : length left.edges ≡ w.counts.edges.live
    edges_left = length_surviving_edges (lists w) ∙ many_edges

    outs_long : length (joined left.outs) ≡ w.counts.edges.live
    outs_long = fitted_total sound_left.outs ∙ length-map left.edges source_of ∙ edges_left

    ins_long : length (joined left.ins) ≡ w.counts.edges.live
    ins_long = fitted_total sound_left.ins ∙ length-map left.edges target_of ∙ edges_left

    -- the work slice holds the out-lists, then the in-lists
    module _ {work' : List ℕ} (worked : work' ≡ written (adjacency left) work) where
      outs_there : take w.counts.edges.live work' ≡ joined left.outs
      unfolding adjacency
      outs_there =
          ap (take w.counts.edges.live) (worked ∙ append_assoc (joined left.outs) (joined left.ins) (drop (length (adjacency left)) work))
          ∙ take_at (joined left.outs) (joined left.ins ++ drop (length (adjacency left)) work) w.counts.edges.live outs_long

      ins_there : take w.counts.edges.live (drop w.counts.edges.live work') ≡ joined left.ins
      unfolding adjacency
      ins_there =
          ap (λ (l : List ℕ). take w.counts.edges.live (drop w.counts.edges.live l))
          (worked ∙ append_assoc (joined left.outs) (joined left.ins) (drop (length (adjacency left)) work))
          ∙ ap (take w.counts.edges.live)
          (drop_at (joined left.outs) (joined left.ins ++ drop (length (adjacency left)) work) w.counts.edges.live outs_long)
          ∙ take_at (joined left.ins) (drop (length (adjacency left)) work) w.counts.edges.live ins_long

      worked_long : 2 * w.counts.edges.live ≤ length work → length work' ≡ length work
      unfolding adjacency
      worked_long room =
          let a = outs_long in
          let b = ins_long in
          let c = length-append (joined left.outs) (joined left.ins) in
          ap length worked ∙ length-append (adjacency left) (drop (length (adjacency left)) work)
          ∙ rw (length-drop (length (adjacency left)) work) (omega arith)

    -- every slice is long enough
    module _ (none_is : first_short (lent_slices w.counts (length node_map) (length edge_map) (length work)) ≡ none) where
      settleable : Settleable w node_map edge_map work
      settleable = each (none_short (lent_slices w.counts (length node_map) (length edge_map) (length work)) none_is)
        where
          each : LongEnough (lent_slices w.counts (length node_map) (length edge_map) (length work)) → Settleable w node_map edge_map work
          each (slice_fits nodes (slice_fits edges (slice_fits entries no_slice))) =
              record { checked = j.checked sound; nodes_room = nodes; edges_room = edges; work_room = entries }

      settled : {v : Words} {node-map' edge-map' work' : List ℕ} → Settling w node_map edge_map work v node-map' edge-map' work'
          → CompactOf w node_map edge_map work 0 0 v node-map' edge-map' work'
      unfolding compacted
      settled {v} {node-map'} {edge-map'} {work'} done =
          let is = told none none_is in
          let pre = droppable settleable done.node_mapped (worked_long done.worked settleable.work_room) in
          let r = done.dropped in
          let outs = outs_there done.worked in
          let ins = ins_there done.worked in
          let holding = dropped_holding pre r outs ins in
          record {
            numbered = ap (λ (c : Compacted). c.number) (sym is);
            valued = ap (λ (c : Compacted). c.value) (sym is);
            node_mapped = done.node_mapped
                ∙ ap (λ (f : List Bool). written (renumbering f) node_map) (sym (plain_node_flags w)) ∙ sym (ap (λ (c : Compacted). written c.node_map node_map) is);
            edge_mapped = done.edge_mapped
                ∙ ap (λ (f : List Bool). written (renumbering f) edge_map) (sym (plain_edge_flags w)) ∙ sym (ap (λ (c : Compacted). written c.edge_map edge_map) is);
            worked = done.worked ∙ sym (ap (λ (c : Compacted). written c.work work) is);
            state = holding_state holding ∙ sym (ap (λ (c : Compacted). c.after) is);
            shape = λ h. holding_shape holding;
            checked = λ h. holding_checked holding;
            canonical = λ h. holding_canonical holding;
            again = λ h s. dropped_again pre r outs ins s;
            lengths = r.lengths;
            refused_keeps = λ h. absurd (h refl);
            renewed = dropped_renewed pre r;
            spared = let c = holding_checked holding in
                renewed_spared (omega (arith, c.nodes.bounded.bound_within, same_nodes r.lengths)) (omega (arith, c.edges.bounded.bound_within, same_edges r.lengths))
                (dropped_renewed pre r);
            leaves = canonical_leaves w v r.lengths (holding_canonical holding) (dropped_renewed pre r);
          }

module _ {w : Words} {node_map edge_map work : List ℕ} (j : Judged w 0) where
  -- a lent slice is too short
  pub compact_short : (r : Refusal) → done_of (Err r) ≡ short_answer (first_short (lent_slices w.counts (length node_map) (length edge_map) (length work)))
      → CompactOf w node_map edge_map work (number_of r) (value_of r) w node_map edge_map work
  compact_short r is =
      let first = first_told r (first_short (lent_slices w.counts (length node_map) (length edge_map) (length work))) is in
      rw first.1 (short w node_map edge_map work j refl first.0)

  module _ {done : Unit} (is : done_of (Ok done) ≡ short_answer (first_short (lent_slices w.counts (length node_map) (length edge_map) (length work)))) where
    pub compact_settleable : Settleable w node_map edge_map work
    compact_settleable = settleable w node_map edge_map work j refl (none_told _ is)

    pub compact_settled : {v : Words} {node-map' edge-map' work' : List ℕ} → Settling w node_map edge_map work v node-map' edge-map' work'
        → CompactOf w node_map edge_map work 0 0 v node-map' edge-map' work'
    compact_settled did = settled w node_map edge_map work j refl (none_told _ is) did
