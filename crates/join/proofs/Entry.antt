-- The two ways that joining ends: refused, or with the survivors of both in the third memory.
use Rattle.std.specs.Prelude.{ℕ, ◌≡◌, refl, Bool, cond, List, length, Ok, Err}
use Rattle.plain.specs.Library.{sym, ap, ap₂, subst, ◌∙◌, inl, arith, eq-eqb, ne_eqb}
use Rattle.plain.specs.declared.Answer.{Answer}
use Rattle.plain.specs.declared.refusals.Refusal.{Refusal}
use Rattle.plain.specs.declared.refusals.Rule.{Rule}
use Rattle.plain.specs.Answers.{done_of}
use Rattle.plain.specs.Calls.{judged}
use Rattle.plain.specs.Compaction.{survivors, renumbering_from}
use Rattle.plain.specs.Joining.{Sizes, sizes, MapRooms, Maps, join_maps, no_maps, join_answer, join, joined_survivors, joined_plain, joined_state}
use Rattle.plain.specs.Lists.{written}
use Rattle.plain.specs.Plain.{Plain}
use Rattle.plain.specs.Reads.{live_count, live_nodes, live_edges}
use Rattle.plain.specs.Refusals.{number_of, value_of, rule_number}
use Rattle.plain.proofs.Laws.Lending.{refusal_number}
use Rattle.shape.specs.Checked.{Checked}
use Rattle.shape.specs.Kept.{nothing_spared, renewed_none, renewed_spared, same_nodes, same_edges}
use Rattle.shape.specs.Rules.{broken}
use Rattle.shape.specs.Shape.{Words, lengths_of, shape_of, lists}
use Rattle.shape.specs.Steps.{state_of}
use Rattle.shape.proofs.Laws.Reading.{plain_node_bound, plain_edge_bound, plain_node_flags, plain_edge_flags}
use Rattle.validate.specs.Judging.{Judged}
use Rattle.compact.proofs.Telling.{rule_is}
use Rattle.compact.specs.Laws.Holding.{Holding, holding_shape, holding_state, holding_checked, holding_canonical, canonical_leaves}
use Rattle.join_columns.specs.Answers.{sizes_of}
use Rattle.join.specs.Calls.{LentMaps, joining_of, JoinOf}
use Rattle.join_memory.specs.Settling.{Settleable, Settled}
use Rattle.join_columns.specs.Laws.Answers.{accepted}
use Rattle.join_memory.specs.Laws.Settling.{settled_holding, settled_renewed}

-- the sizes of a checked book are those of its plain lists
nodes_left : {w : Words} → Checked w → live_nodes (lists w) ≡ w.counts.nodes.live
nodes_left {w} k = ap live_count (plain_node_flags w) ∙ sym k.nodes.live.live_right

edges_left : {w : Words} → Checked w → live_edges (lists w) ≡ w.counts.edges.live
edges_left {w} k = ap live_count (plain_edge_flags w) ∙ sym k.edges.live.live_right

sizes_same : {w : Words} → Checked w → sizes_of w.counts ≡ sizes (lists w)
sizes_same {w} k =
    let a = sym (plain_node_bound w) in
    let b = sym (plain_edge_bound w) in
    let c = sym (nodes_left k) in
    let d = sym (edges_left k) in
    λ i. record { node_bound = a i; edge_bound = b i; nodes = c i; edges = d i }

abbrev rooms : LentMaps → MapRooms
rooms maps = record {
  first_nodes = length maps.first_nodes;
  first_edges = length maps.first_edges;
  second_nodes = length maps.second_nodes;
  second_edges = length maps.second_edges;
}

-- a store that holds the survivors of both is the joined state
joined_holds : {v : Words} (p q : Plain) → Holding v (joined_survivors (survivors p) (survivors q)) → state_of (shape_of v) ≡ joined_state p q
unfolding joined_plain
joined_holds p q h = holding_state h

-- what is told of a broken rule
rule_told : (rule : Rule) (a : Answer) → record { number = 1; value = rule_number rule } ≡ judged (rule_number rule) a
rule_told rule a = rw (rule_is rule).1

module _ (first second w : Words) (maps : LentMaps) where
  -- by the counts, and by the lists
  abbrev by_counts : Answer
  by_counts = join_answer (lengths_of w) (sizes_of first.counts) (sizes_of second.counts) (rooms maps)

  abbrev by_lists : Answer
  by_lists = join_answer (lengths_of w) (sizes (lists first)) (sizes (lists second)) (rooms maps)

  -- "with nothing written"
  module _ {told : Answer} (is : told ≡ (joining_of first second w maps).answer) (refused : told.number ≡ 0 → ⊥) where
    no_maps_told : (joining_of first second w maps).maps ≡ no_maps
    unfolding join
    no_maps_told =
        ap (λ (t : Bool). cond t (join_maps (lists first) (lists second)) no_maps)
        (ne_eqb (joining_of first second w maps).answer.number 0 (λ q. refused (ap (λ (a : Answer). a.number) is ∙ q)))

    refuses : {v : Words} → v ≡ w → JoinOf first second w maps told.number told.value v maps
    refuses same = subst (λ (v : Words). JoinOf first second w maps told.number told.value v maps) (sym same) (record {
      answered = is;
      first_nodes_mapped = sym (ap (λ (m : Maps). written m.first_nodes maps.first_nodes) no_maps_told);
      first_edges_mapped = sym (ap (λ (m : Maps). written m.first_edges maps.first_edges) no_maps_told);
      second_nodes_mapped = sym (ap (λ (m : Maps). written m.second_nodes maps.second_nodes) no_maps_told);
      second_edges_mapped = sym (ap (λ (m : Maps). written m.second_edges maps.second_edges) no_maps_told);
      state = λ h. absurd (refused h);
      shape = λ h. absurd (refused h);
      checked = λ h. absurd (refused h);
      canonical = λ h. absurd (refused h);
      lengths = refl;
      refused_keeps = λ h. refl;
      renewed = renewed_none w;
      spared = nothing_spared w;
      leaves = λ p out. inl refl;
    })

  -- the first book is none
  pub first_broken : (rule : Rule) → Judged first (rule_number rule) → {v : Words} → v ≡ w → JoinOf first second w maps 1 (rule_number rule) v maps
  unfolding join
  first_broken rule a = refuses (rule_told rule _ ∙ ap (λ (p : ℕ). judged p (judged (broken second) by_lists)) a.first) (λ q. omega arith)

  module _ (a : Judged first 0) where
    -- the second is none
    pub second_broken : (rule : Rule) → Judged second (rule_number rule) → {v : Words} → v ≡ w → JoinOf first second w maps 1 (rule_number rule) v maps
    unfolding join
    second_broken rule b =
        refuses (rule_told rule _ ∙ ap₂ {C = Answer} (λ (p q : ℕ). judged p (judged q by_lists)) a.first b.first) (λ q. omega arith)

    module _ (b : Judged second 0) where
      -- of checked books the sizes are those of the lists
      answer_told : {told : Answer} → told ≡ by_counts → told ≡ (joining_of first second w maps).answer
      unfolding join
      answer_told is =
          is ∙ ap₂ {C = Answer} (λ (s t : Sizes). join_answer (lengths_of w) s t (rooms maps)) (sizes_same (a.checked refl)) (sizes_same (b.checked refl))
          ∙ ap₂ {C = Answer} (λ (p q : ℕ). judged p (judged q by_lists)) a.first b.first

      -- they cannot be joined
      pub join_refused : (r : Refusal) → done_of (Err r) ≡ by_counts → {v : Words} → v ≡ w → JoinOf first second w maps (number_of r) (value_of r) v maps
      join_refused r is = refuses (answer_told is) (λ q. omega (arith, refusal_number r))

      -- they are joined
      module _ {done : Unit} (is : done_of (Ok done) ≡ by_counts) where
        pub settleable : Settleable first second w maps
        settleable =
            let there = accepted (lengths_of w) (sizes_of first.counts) (sizes_of second.counts) (rooms maps) (ap (λ (a : Answer). a.number) (sym is)) in
            record {
              first_checked = a.checked refl;
              second_checked = b.checked refl;
              takes = there.takes;
              roomy = there.roomy;
              nodes_fit = there.nodes_fit;
              edges_fit = there.edges_fit;
              first_nodes = there.first_nodes;
              first_edges = there.first_edges;
              second_nodes = there.second_nodes;
              second_edges = there.second_edges;
            }

        maps_told : (joining_of first second w maps).maps ≡ join_maps (lists first) (lists second)
        unfolding join
        maps_told =
            ap (λ (t : Bool). cond t (join_maps (lists first) (lists second)) no_maps)
            (eq-eqb (joining_of first second w maps).answer.number 0 (ap (λ (a : Answer). a.number) (sym (answer_told is))))

        pub joined : {v : Words} {maps' : LentMaps} → Settled first second w maps v maps' → JoinOf first second w maps 0 0 v maps'
        unfolding join_maps
        joined {v} {maps'} r =
            let holding = settled_holding settleable r in
            let same = r.lengths in
            let renewed = settled_renewed settleable r in
            record {
              answered = answer_told is;
              first_nodes_mapped = r.first_maps.nodes
                  ∙ ap (λ (f : List Bool). written (renumbering_from 0 f) maps.first_nodes) (sym (plain_node_flags first))
                  ∙ sym (ap (λ (m : Maps). written m.first_nodes maps.first_nodes) maps_told);
              first_edges_mapped = r.first_maps.edges
                  ∙ ap (λ (f : List Bool). written (renumbering_from 0 f) maps.first_edges) (sym (plain_edge_flags first))
                  ∙ sym (ap (λ (m : Maps). written m.first_edges maps.first_edges) maps_told);
              second_nodes_mapped = r.second_maps.nodes
                  ∙ ap₂ (λ (n : ℕ) (f : List Bool). written (renumbering_from n f) maps.second_nodes) (sym (nodes_left (a.checked refl))) (sym (plain_node_flags second))
                  ∙ sym (ap (λ (m : Maps). written m.second_nodes maps.second_nodes) maps_told);
              second_edges_mapped = r.second_maps.edges
                  ∙ ap₂ (λ (n : ℕ) (f : List Bool). written (renumbering_from n f) maps.second_edges) (sym (edges_left (a.checked refl))) (sym (plain_edge_flags second))
                  ∙ sym (ap (λ (m : Maps). written m.second_edges maps.second_edges) maps_told);
              state = λ h. joined_holds (lists first) (lists second) holding;
              shape = λ h. holding_shape holding;
              checked = λ h. holding_checked holding;
              canonical = λ h. holding_canonical holding;
              lengths = same;
              refused_keeps = λ h. absurd (h refl);
              renewed = renewed;
              spared = let c = holding_checked holding in
                  renewed_spared (omega (arith, c.nodes.bounded.bound_within, same_nodes same)) (omega (arith, c.edges.bounded.bound_within, same_edges same)) renewed;
              leaves = canonical_leaves w v same (holding_canonical holding) renewed;
            }
