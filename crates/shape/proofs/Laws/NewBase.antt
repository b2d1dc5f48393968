-- A new base: words whose offsets were counted from the ends and whose adjacency column holds joined lists. Each node's base part is its list, and the index
-- passes rule 4; with every ring empty and no run, that is the whole direction. What compaction and image reading leave.
-- ---- bounds of a base part
use Rattle.std.specs.Prelude.{ℕ, suc, ◌+◌, ◌-◌, ◌*◌, ◌≤◌, ◌<◌, ◌≡◌, Bool, ◌&&◌, List, [], map, length, get_or, take, eqb, ltb}
use Rattle.plain.specs.Library.{sym, ap, ap₂, ◌∙◌, subst, inl, inr, none, map-map, zero-add, arith, lt-ltb, le-ltb, ltb-true}
use Rattle.plain.specs.declared.Counts.{Counts}
use Rattle.plain.specs.Lists.{from, all, count, sum, joined, member, distinct}
use Rattle.plain.specs.Image.{lists_right, at_their_nodes}
use Rattle.plain.specs.WellFormed.{Fitted}
use Rattle.plain.proofs.Laws.Booleans.{by_test, true_false, and_left}
use Rattle.plain.proofs.Laws.ListLaws.{get_d_map, map_same, map_get_or, length_from, get_or_from, member_below}
use Rattle.plain.specs.Laws.Below.{Below}
use Rattle.plain.proofs.Laws.Below.{below_of, below_all, below_within}
use Rattle.plain.proofs.Laws.Cutting.{length_joined, sum_list_lengths}
use Rattle.shape.specs.Columns.{Sized, cell, offset_at}
use Rattle.shape.specs.Shape.{between, base_of, run_of, run_list, ring_of, Adjacency, Axis, axis_of}
use Rattle.shape.specs.Chains.{ring}
use Rattle.shape.specs.Checked.{Index, AxisChecked}
use Rattle.plain.proofs.Laws.Fitting.{fitted_many, fitted_long}
use Rattle.shape.specs.Index.{Rewritten, total, before, ends_of}
use Rattle.shape.proofs.Laws.Frames.{offset_within}
use Rattle.shape.proofs.Laws.Indexing.{before_suc, before_zero, before_total, before_all, before_few, length_ends, end_of_edge, ends_same, part_of_joined, map_from_same, front_range}
use Rattle.shape.specs.Laws.NewBase.{Built, NewBase, Offsets, base_end, base_start, in_base}

module _ (ws : List ℕ) (ce cn bn : ℕ) where
  -- the base part is what stands between its bounds
  pub base_between : (x : ℕ) → base_of ws ce cn bn x ≡ between (cell ws ce) (base_start ws ce cn bn x) (base_end ws ce cn bn x)
  unfolding base_of from
  base_between x = by_test (ltb x bn) (λ h. rw h) (λ h. rw h)

  -- the bounds are in order and within the index
  pub base_range : {be : ℕ} → Index ws ce cn bn be → (x : ℕ)
      → (base_start ws ce cn bn x ≤ base_end ws ce cn bn x) × (base_end ws ce cn bn x ≤ be)
  base_range {be} (inl e) x = rw (le-ltb x bn (omega arith)) (omega arith, omega arith)
  base_range {be} (inr i) x =
      by_test (ltb x bn)
      (λ h. let l = ltb-true x bn h in rw h (i.ascends x l, offset_within i (suc x) (omega arith)))
      (λ h. rw h (omega arith, omega arith))

-- ---- fitted lists

module _ {n : ℕ} {ends : List ℕ} {lists : List (List ℕ)} (f : Fitted n ends lists) where
  -- an entry an edge, all together
  pub fitted_total : length (joined lists) ≡ length ends
  fitted_total = length_joined lists ∙ ap sum f.lengths ∙ sum_list_lengths n (below_of ends f.ends_below)

  -- entries below the number of edges
  fitted_entries : Below (length ends) (joined lists)
  unfolding lists_right
  fitted_entries =
      below_all (joined lists)
      (and_left (all (λ e. ltb e (length ends)) (joined lists)) (distinct (joined lists) && at_their_nodes ends 0 lists) f.right)

-- ---- offsets counted from ends

-- so are those that count the ends below each node
pub offsets_counted : (ws : List ℕ) (ce cn n : ℕ) (ends : List ℕ) → Below n ends → ((x : ℕ) → x < n + 1 → offset_at ws ce cn x ≡ before ends x)
    → Offsets ws ce cn n ends
offsets_counted ws ce cn n ends below counted = record {
  starts = counted 0 (omega arith) ∙ before_zero ends;
  steps = λ x h. let here = counted x (omega arith) in counted (suc x) (omega arith) ∙ before_suc ends x ∙ omega arith;
  stops = counted n (omega arith) ∙ before_all n below;
}

-- ---- an index built from ends and lists

module _ (ws : List ℕ) (ce cn n : ℕ) (ends : List ℕ) (lists : List (List ℕ)) (f : Fitted n ends lists) (b : Built ws ce cn n ends lists) where
  -- the base part of each node is its list
  pub built_base : (x : ℕ) → x < n → base_of ws ce cn n x ≡ get_or lists x []
  unfolding base_of
  built_base x h =
      let size : ℕ → ℕ = λ y. count (eqb y) ends in
      let many = fitted_many f in
      let start : offset_at ws ce cn x ≡ total size x = b.offsets x (omega arith) ∙ before_total ends x in
      let stop : offset_at ws ce cn (suc x) ≡ before ends (suc x) = b.offsets (suc x) (omega arith) in
      let few : before ends (suc x) ≤ length ends = before_few ends (suc x) in
      let up = before_total ends (suc x) in
      let step = before_suc ends x in
      let here = before_total ends x in
      let long : offset_at ws ce cn (suc x) - offset_at ws ce cn x ≡ size x = omega arith in
      rw (lt-ltb x n h)
      (ap₂ (λ (a k : ℕ). map (cell ws ce) (from a k)) start long
      ∙ part_of_joined (cell ws ce) size lists (length ends) x b.entries (omega arith) (λ y l. sym (fitted_long f y (omega arith))) (omega arith))

  -- the index passes rule 4
  pub built_index : Index ws ce cn n (length ends)
  built_index =
      let o = offsets_counted ws ce cn n ends (below_of ends f.ends_below) b.offsets in
      inr (record {
        starts = o.starts;
        ascends = λ x h. let step = o.steps x h in omega arith;
        stops = o.stops;
        entries = λ i h. rw (← entry_at i h) (below_within (fitted_entries f) i (let long = fitted_total f in omega arith));
      })
    where
      entry_at : (i : ℕ) → i < length ends → get_or (joined lists) i 0 ≡ cell ws ce i
      entry_at i h =
          ap (λ (l : List ℕ). get_or l i 0) (sym b.entries)
          ∙ get_d_map (cell ws ce) (from 0 (length ends)) i 0 0 (rw (length_from 0 (length ends)) h)
          ∙ ap (cell ws ce) (get_or_from 0 (length ends) i 0 h ∙ zero-add i)

-- counting the offsets and then copying joined lists builds the index
pub built_by : {a b c : List ℕ} {ce cn n m : ℕ} (entries : List ℕ) (lists : List (List ℕ)) → m ≤ ce → m ≤ length entries
    → Rewritten a b (4 * ce + 5 * cn) (n + 1) (before (ends_of a m)) → Rewritten b c ce m (λ i. get_or entries i 0) → take m entries ≡ joined lists
    → Built c ce cn n (ends_of a m) lists
built_by {a = a} {c = c} {ce = ce} {cn = cn} {m = m} entries lists fits there r s lined = record {
  ends_there = rw (length_ends a m) (ends_same c a m (λ e h. s.below e (omega arith) ∙ r.below e (omega arith)));
  offsets = λ x h. s.above (4 * ce + 5 * cn + x) (omega arith) ∙ r.within x h;
  entries =
      rw (length_ends a m)
      (map_from_same (cell c ce) (λ i. get_or entries i 0) 0 m (λ i l h. s.within i (omega arith)) ∙ sym (front_range entries m there) ∙ lined);
}

-- ---- a new base

module _ {ws : List ℕ} {ce cn : ℕ} {counts : Counts} {ends : List ℕ} {lists : List (List ℕ)} (b : NewBase ws ce cn counts ends lists) where
  -- the base part of each node is its list
  pub new_base : (x : ℕ) → x < counts.nodes.bound → base_of ws ce cn counts.nodes.base x ≡ get_or lists x []
  new_base x h = rw b.nodes_based (built_base ws ce cn counts.nodes.bound ends lists b.fitted b.built x h)

  -- no node has a ring
  pub new_ring : (be eb x : ℕ) → x < counts.nodes.bound → ring_of ws ce be eb x ≡ []
  unfolding ring_of ring
  new_ring be eb x h = rw (b.rings x h)

  -- or a run
  pub new_run : (x : ℕ) → x < counts.nodes.bound → run_of ws ce cn x ≡ none
  unfolding run_of
  new_run x h = rw (b.marks x h)

  -- so that there is no run to list
  no_run : (x : ℕ) → x < counts.nodes.bound → run_list ws ce cn x ≡ []
  unfolding run_list
  no_run x h = rw (b.marks x h)

  -- the direction as the shape has it: the ends, and each node's list in the base
  pub new_axis : axis_of ws ce cn counts ≡ record { ends = ends; nodes = map in_base lists }
  unfolding axis_of
  new_axis =
      ap₂ {C = Axis} (λ (e : List ℕ) (n : List Adjacency). record { ends = e; nodes = n })
      (ap (λ (m : ℕ). ends_of ws m) b.edges_bound ∙ b.built.ends_there)
      (map_same _ (λ x. in_base (get_or lists x [])) (from 0 counts.nodes.bound) (λ x h. same x (ltb-true x counts.nodes.bound (sym (member_below x counts.nodes.bound) ∙ h)))
      ∙ sym (map-map in_base (λ x. get_or lists x []) (from 0 counts.nodes.bound))
      ∙ ap (map in_base) (ap (λ (n : ℕ). map (λ x. get_or lists x []) (from 0 n)) (sym (fitted_many b.fitted)) ∙ map_get_or lists []))
    where
      same : (x : ℕ) → x < counts.nodes.bound
          → ◌≡◌ {A = Adjacency}
          (record { base = base_of ws ce cn counts.nodes.base x; run = run_of ws ce cn x; ring = ring_of ws ce counts.edges.base counts.edges.bound x })
          (in_base (get_or lists x []))
      same x h = rw (new_base x h, new_run x h, new_ring counts.edges.base counts.edges.bound x h)

  -- it passes rules 3 to 6
  pub new_checked : Sized ws ce cn → (nodes edges : List Bool) → AxisChecked ws ce cn counts nodes edges
  unfolding member
  new_checked sized nodes edges = record {
    sized = sized;
    ends_below = λ e h. let l : e < length ends = (let bound = b.edges_bound in omega arith) in
        subst (λ (z : ℕ). z < counts.nodes.bound) (ap (λ (l : List ℕ). get_or l e 0) (sym b.built.ends_there) ∙ end_of_edge ws (length ends) e l) (b.fitted.ends_below e l);
    index = rw (b.nodes_based, b.edges_based) (built_index ws ce cn counts.nodes.bound ends lists b.fitted b.built);
    rings = record {
      ring = λ x h. inl (b.rings x h, new_ring counts.edges.base counts.edges.bound x h);
      own = λ x e h k. true_false k (ap (member e) (new_ring counts.edges.base counts.edges.bound x h));
    };
    runs = record {
      run = λ x h marked. absurd (marked (b.marks x h));
      apart = λ x y e h k in-x in-y. true_false in-x (ap (member e) (no_run x h));
    };
    removed_runs = λ x e h removed in-x. true_false in-x (ap (member e) (no_run x h));
  }
