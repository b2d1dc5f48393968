-- What the shape fixes of the words: two checked stores with equal lengths, one shape and equal marks have equal counts and an equal word at each field. So of the
-- outcomes of a call whose contract gives the shape and the marks, only what is no field is left to the program.
-- ---- lists that are linked
use Rattle.std.specs.Prelude.{ℕ, zero, suc, ◌+◌, ◌-◌, ◌*◌, ◌^◌, ◌≤◌, ◌<◌, ◌≡◌, refl, Bool, ◌⊎◌, ◌≢◌, List, [], ◌∷◌, ◌++◌, length, get_or, eqb}
use Rattle.plain.specs.Library.{sym, ap, ap₂, ◌∙◌, subst, subst₂, inl, inr, ⊎_elim, Option, none, some, length-map, length-append, zero-add, arith, ne_eqb, eqb-true, eqb-false, lt-ltb}
use Rattle.plain.specs.declared.TraversalDirection.{TraversalDirection}
use Rattle.plain.specs.declared.Slots.{Slots}
use Rattle.plain.specs.declared.Counts.{Counts}
use Rattle.plain.specs.Lists.{member, from}
use Rattle.plain.specs.Plain.{low_of, high_of, no_node, no_edge}
use Rattle.plain.specs.Reads.{live_count}
use Rattle.plain.proofs.Laws.Booleans.{by_test, below_or_not}
use Rattle.plain.proofs.Laws.ListLaws.{length_from, get_or_from, get_d_map}
use Rattle.liveness.specs.Flags.{live_flags, packed}
use Rattle.liveness.specs.Laws.Flags.{words_same}
use Rattle.shape.specs.Columns.{cell, adjacency_at, last_at, first_at, tail_at, count_at, mark_at, offset_at}
use Rattle.shape.specs.Chains.{In, Seg, Line, Run, Ring}
use Rattle.shape.specs.Shape.{Words, node_capacity, edge_capacity, axis_words, node_live, edge_live, edge_payload_at, base_of, run_list, run_of, ring_of, Adjacency, Axis, Shape, adjacency_in, axis_in, axis_of, shape_of, no_adjacency, node_flags_of, edge_flags_of}
use Rattle.shape.specs.Checked.{SlotsChecked, Indexed, Index, AxisChecked, Checked}
use Rattle.shape.specs.Kept.{SameLengths, Mark, NewMark, AxisKept, Kept, same_nodes, same_edges}
use Rattle.shape.specs.Fields.{Column, ends, adjacency, next, links, last, first, tail, count, marks, offsets, begins, AxisField, Place, node_payload, edge_low, edge_high, node_bits, edge_bits, axis_word, word_at, Field, SameFields}
use Rattle.shape.proofs.Laws.Chains.{in_none, in_snoc, line_last, run_line, run_empty}
use Rattle.shape.proofs.Laws.Frames.{run_list_unmarked, run_of_unmarked}
use Rattle.shape.proofs.Laws.Reading.{node_bound_is, edge_bound_is, node_at, edge_at, node_flags_are, edge_flags_are, axis_is, axis_end, axis_adjacency}
use Rattle.shape.specs.Laws.Agreeing.{Narrow}

-- an entry of a list is the first or a later one
in_cons : (x y : ℕ) (ys : List ℕ) → In x (y ∷ ys) → (x ≡ y) ⊎ In x ys
unfolding member
in_cons x y ys m = by_test (eqb x y) (λ t. inl (eqb-true x y t)) (λ t. inr (rw t at m))

-- one list, visited by two functions up to one entry, begins at one entry
seg_first : (nx mx : ℕ → ℕ) (e f : ℕ) (xs : List ℕ) (q : ℕ) → Seg nx e xs q → Seg mx f xs q → f ≡ e
seg_first nx mx e f [] q s t = t ∙ sym s
seg_first nx mx e f (x ∷ xs) q s t = t.0 ∙ sym s.0

-- and the functions agree at its entries
seg_links : (nx mx : ℕ → ℕ) (e f : ℕ) (xs : List ℕ) (q : ℕ) → Seg nx e xs q → Seg mx f xs q → (x : ℕ) → In x xs → mx x ≡ nx x
seg_links nx mx e f [] q s t x m = in_none x m
seg_links nx mx e f (y ∷ ys) q s t x m =
    ⊎_elim (λ here. rw here (seg_first nx mx (nx y) (mx y) ys q s.1 t.1)) (seg_links nx mx (nx y) (mx y) ys q s.1 t.1 x) (in_cons x y ys m)

-- lists with a last entry that are equal have equal fronts and one last entry
snoc_same : (p q : List ℕ) (y z : ℕ) → p ++ (y ∷ []) ≡ q ++ (z ∷ []) → (p ≡ q) × (y ≡ z)
snoc_same [] [] y z h = (refl, cc)
snoc_same [] (b ∷ q) y z h = absurd (omega (arith, simp length-append at (ap length h)))
snoc_same (a ∷ p) [] y z h = absurd (omega (arith, simp length-append at (ap length h)))
snoc_same (a ∷ p) (b ∷ q) y z h =
    let first : a ≡ b = cc in
    let rest : p ++ (y ∷ []) ≡ q ++ (z ∷ []) = cc in
    let later = snoc_same p q y z rest in
    (cc later.0, later.1)

-- one list as a line of two functions: it has one last and one first entry, and the links of the others are equal
lines_same : {nx mx : ℕ → ℕ} {lo hi lo' hi' f t g u : ℕ} {xs : List ℕ} → Line nx lo hi f t xs → Line mx lo' hi' g u xs
    → (u ≡ t) × (g ≡ f) × ((x : ℕ) → In x xs → x ≢ t → mx x ≡ nx x)
lines_same {nx} {mx} {f = f} {t = t} {g = g} {u = u} {xs = xs} a b = (ends_at, seg_first nx mx f g a.front t a.visits visits, others)
  where
    parts : (a.front ≡ b.front) × (t ≡ u)
    parts = snoc_same a.front b.front t u (sym a.ends ∙ b.ends)

    ends_at : u ≡ t
    ends_at = sym parts.1

    visits : Seg mx g a.front t
    visits = subst₂ (λ (l : List ℕ) (z : ℕ). Seg mx g l z) (sym parts.0) ends_at b.visits

    others : (x : ℕ) → In x xs → x ≢ t → mx x ≡ nx x
    others x m ne =
        ⊎_elim (seg_links nx mx f g a.front t a.visits visits x) (λ q. absurd (ne q)) (in_snoc x a.front t (rw a.ends at m))

-- one list as a ring of two functions
rings_same : {nx mx : ℕ → ℕ} {lo hi l k : ℕ} {xs : List ℕ} → Ring nx lo hi l xs → Ring mx lo hi k xs → (k ≡ l) × ((x : ℕ) → In x xs → mx x ≡ nx x)
rings_same (inl a) (inl b) = (b.0 ∙ sym a.0, λ x m. in_none x (rw a.1 at m))
rings_same (inl a) (inr b) = in_none _ (rw a.1 at (line_last b))
rings_same (inr a) (inl b) = in_none _ (rw b.1 at (line_last a))
rings_same {nx} {mx} {l = l} {k = k} (inr a) (inr b) =
    let same = lines_same a b in (
      same.0,
      λ x m. by_test (eqb x l) (λ t. let here = eqb-true x l t in rw here (subst (λ (z : ℕ). mx z ≡ nx l) same.0 same.1))
          (λ t. same.2 x m (eqb-false x l t)),
    )

-- ---- the base parts of an axis

-- a number below the n-th of a column that begins at or below it stands between two that follow each other
between_two : (f : ℕ → ℕ) (n i : ℕ) → f 0 ≤ i → i < f n → (x : ℕ) × (x < n) × (f x ≤ i) × (i < f (suc x))
between_two f zero i low high = absurd (omega arith)
between_two f (suc n) i low high =
    ⊎_elim (λ h. let found = between_two f n i low h in (found.0, omega (arith, found.1), found.2, found.3)) (λ h. (n, omega arith, h, high))
    (below_or_not i (f n))

-- the base part of a node by its offsets
module _ (ws : List ℕ) (ce cn bn x : ℕ) (h : x < bn) where
  base_long : length (base_of ws ce cn bn x) ≡ offset_at ws ce cn (suc x) - offset_at ws ce cn x
  unfolding base_of
  base_long = rw (lt-ltb x bn h) (simp (length-map, length_from))

  base_at : (i : ℕ) → offset_at ws ce cn x ≤ i → i < offset_at ws ce cn (suc x)
      → get_or (base_of ws ce cn bn x) (i - offset_at ws ce cn x) 0 ≡ adjacency_at ws ce i
  unfolding base_of
  base_at i low high =
      let a = offset_at ws ce cn x in
      let n = offset_at ws ce cn (suc x) - a in
      let place : a + (i - a) ≡ i = omega arith in
      rw (lt-ltb x bn h)
      (get_d_map (cell ws ce) (from a n) (i - a) 0 0 (rw (length_from a n) (omega arith)) ∙ ap (cell ws ce) (get_or_from a n (i - a) 0 (omega arith) ∙ place))

-- two indexes with equal base parts
module _
    {ws vs : List ℕ}
    {ce cn bn be : ℕ}
    (a : Indexed ws ce cn bn be)
    (b : Indexed vs ce cn bn be)
    (base : (x : ℕ) → x < bn → base_of vs ce cn bn x ≡ base_of ws ce cn bn x)
  where
    offsets_same : (x : ℕ) → x ≤ bn → offset_at vs ce cn x ≡ offset_at ws ce cn x
    offsets_same zero h = b.starts ∙ sym a.starts
    offsets_same (suc x) h =
        let before = offsets_same x (omega arith) in
        let long : offset_at vs ce cn (suc x) - offset_at vs ce cn x ≡ offset_at ws ce cn (suc x) - offset_at ws ce cn x
        = sym (base_long vs ce cn bn x h) ∙ ap length (base x h) ∙ base_long ws ce cn bn x h in
        let up = a.ascends x h in
        let up' = b.ascends x h in
        omega arith

    adjacency_same : (i : ℕ) → i < be → adjacency_at vs ce i ≡ adjacency_at ws ce i
    adjacency_same i h =
        let found = between_two (λ x. offset_at ws ce cn x) bn i (rw a.starts (omega arith)) (rw a.stops h) in
        let x = found.0 in
        let low : x < bn = found.1 in
        let from_here = offsets_same x (omega arith) in
        let to-here = offsets_same (suc x) low in
        sym (base_at vs ce cn bn x low i (rw from_here found.2) (rw to-here found.3))
        ∙ ap (λ (l : List ℕ). get_or l (i - offset_at vs ce cn x) 0) (base x low)
        ∙ ap (λ (k : ℕ). get_or (base_of ws ce cn bn x) (i - k) 0) from_here
        ∙ base_at ws ce cn bn x low i found.2 found.3

-- ---- marks

module _ (ws : List ℕ) (ce cn x : ℕ) where
  -- a node with a mark has a run
  some_run : mark_at ws ce cn x ≢ 0 → run_of ws ce cn x ≡ some (run_list ws ce cn x)
  unfolding run_of
  some_run marked = rw (ne_eqb (mark_at ws ce cn x) 0 marked)

  -- a node without a run has the mark 0
  pub unmarked : run_of ws ce cn x ≡ none → mark_at ws ce cn x ≡ 0
  unmarked h =
      by_test (eqb (mark_at ws ce cn x) 0) (λ t. eqb-true (mark_at ws ce cn x) 0 t)
      (λ t. let bad : ◌≡◌ {A = Option (List ℕ)} none (some (run_list ws ce cn x)) = sym h ∙ some_run (eqb-false (mark_at ws ce cn x) 0 t) in
      let z : ◌≡◌ {A = ℕ} 0 1 = cc in
      omega arith)

-- nodes with equal runs, or none, have marks that are 0 together
pub unmarked_too : (ws vs : List ℕ) (ce cn x : ℕ) → run_of vs ce cn x ≡ run_of ws ce cn x → mark_at ws ce cn x ≡ 0 → mark_at vs ce cn x ≡ 0
unmarked_too ws vs ce cn x same none-mark = unmarked vs ce cn x (same ∙ run_of_unmarked ws ce cn x none-mark)

-- ---- one axis

module _
    {ws vs : List ℕ}
    {ce cn : ℕ}
    {counts : Counts}
    {nodes edges nodes' edges' : List Bool}
    (based : counts.nodes.base ≤ counts.nodes.bound)
    (a : AxisChecked ws ce cn counts nodes edges)
    (b : AxisChecked vs ce cn counts nodes' edges')
    (same : axis_of vs ce cn counts ≡ axis_of ws ce cn counts)
  where
    -- each node has the parts that it had
    node_same : (x : ℕ) → x < counts.nodes.bound → adjacency_in vs ce cn counts x ≡ adjacency_in ws ce cn counts x
    node_same x h =
        sym (axis_adjacency vs ce cn counts x h) ∙ ap (λ (z : Axis). get_or z.nodes x no_adjacency) same ∙ axis_adjacency ws ce cn counts x h

    pub same_run : (x : ℕ) → x < counts.nodes.bound → run_of vs ce cn x ≡ run_of ws ce cn x
    same_run x h = ap (λ (z : Adjacency). z.run) (node_same x h)

    module _ (marked-same : (x : ℕ) → x < counts.nodes.bound → mark_at vs ce cn x ≡ mark_at ws ce cn x) where
      -- runs
      module _ (x : ℕ) (h : x < counts.nodes.bound) (marked : mark_at ws ce cn x ≢ 0) where
        marked_too : mark_at vs ce cn x ≢ 0
        marked_too q = marked (sym (marked-same x h) ∙ q)

        list_same : run_list vs ce cn x ≡ run_list ws ce cn x
        list_same =
            let p : some (run_list vs ce cn x) ≡ some (run_list ws ce cn x)
            = sym (some_run vs ce cn x marked_too) ∙ same_run x h ∙ some_run ws ce cn x marked in
            cc

        was : Run (cell ws (3 * ce)) counts.edges.bound (first_at ws ce cn x) (tail_at ws ce cn x) (count_at ws ce cn x) (run_list ws ce cn x)
        was = a.runs.run x h marked

        is : Run (cell vs (3 * ce)) counts.edges.bound (first_at vs ce cn x) (tail_at vs ce cn x) (count_at vs ce cn x) (run_list ws ce cn x)
        is = rw list_same at (b.runs.run x h marked_too)

        count_same : count_at vs ce cn x ≡ count_at ws ce cn x
        count_same = is.counted ∙ sym was.counted

        line_same : count_at ws ce cn x ≢ 0
            → (tail_at vs ce cn x ≡ tail_at ws ce cn x) × (first_at vs ce cn x ≡ first_at ws ce cn x)
            × ((e : ℕ) → In e (run_list ws ce cn x) → e ≢ tail_at ws ce cn x → cell vs (3 * ce) e ≡ cell ws (3 * ce) e)
        line_same full = lines_same (run_line full was) (run_line (λ q. full (sym count_same ∙ q)) is)

      -- a run with an entry has a mark, and is not empty
      links_same : (x e : ℕ) → x < counts.nodes.bound → In e (run_list ws ce cn x) → e ≢ tail_at ws ce cn x → cell vs (3 * ce) e ≡ cell ws (3 * ce) e
      links_same x e h m ne =
          by_test (eqb (mark_at ws ce cn x) 0) (λ t. in_none e (rw (run_list_unmarked ws ce cn x (eqb-true (mark_at ws ce cn x) 0 t)) at m))
          (λ t. let marked = eqb-false (mark_at ws ce cn x) 0 t in
          by_test (eqb (count_at ws ce cn x) 0) (λ u. in_none e (rw (run_empty (eqb-true (count_at ws ce cn x) 0 u) (was x h marked)) at m))
          (λ u. (line_same x h marked (eqb-false (count_at ws ce cn x) 0 u)).2 e m ne))

      -- rings
      ring_same : (x : ℕ) → x < counts.nodes.bound → (last_at vs ce x ≡ last_at ws ce x)
          × ((e : ℕ) → In e (ring_of ws ce counts.edges.base counts.edges.bound x) → cell vs (2 * ce) e ≡ cell ws (2 * ce) e)
      ring_same x h = rings_same (a.rings.ring x h) (rw (ap (λ (z : Adjacency). z.ring) (node_same x h)) at (b.rings.ring x h))

      -- the index
      base_same : (x : ℕ) → x < counts.nodes.base → base_of vs ce cn counts.nodes.base x ≡ base_of ws ce cn counts.nodes.base x
      base_same x h = ap (λ (z : Adjacency). z.base) (node_same x (omega arith))

      module _ (some-base : (counts.nodes.base ≡ 0) × (counts.edges.base ≡ 0) → ⊥) where
        indexed : {us : List ℕ} → Index us ce cn counts.nodes.base counts.edges.base → Indexed us ce cn counts.nodes.base counts.edges.base
        indexed i = ⊎_elim (λ q. absurd (some-base q)) (λ ok. ok) i

        offset_same : (x : ℕ) → x ≤ counts.nodes.base → offset_at vs ce cn x ≡ offset_at ws ce cn x
        offset_same = offsets_same (indexed a.index) (indexed b.index) base_same

        entry_same : (i : ℕ) → i < counts.edges.base → adjacency_at vs ce i ≡ adjacency_at ws ce i
        entry_same = adjacency_same (indexed a.index) (indexed b.index) base_same

      -- each field
      pub fields_agree : (c : Column) (x : ℕ) → AxisField ws ce cn counts c x → cell vs (begins ce cn c) x ≡ cell ws (begins ce cn c) x
      fields_agree ends e h =
          rw (zero-add e) (sym (axis_end vs ce cn counts e h) ∙ ap (λ (z : Axis). get_or z.ends e 0) same ∙ axis_end ws ce cn counts e h)
      fields_agree adjacency i h = entry_same (λ q. let z = q.1 in omega arith) i h
      fields_agree next e f = (ring_same f.0 f.1).1 e f.2
      fields_agree links e f = links_same f.0 e f.1 f.2 f.3
      fields_agree last x h = (ring_same x h).0
      fields_agree first x f = (line_same x f.0 f.1 f.2).1
      fields_agree tail x f = (line_same x f.0 f.1 f.2).0
      fields_agree count x f = count_same x f.0 f.1
      fields_agree marks x h = marked-same x (omega arith)
      fields_agree offsets x f = offset_same f.1 x f.0

-- ---- the store

-- one kind of slot: counts with one bound and one base and equal flags are equal
slots_same : {c c' : ℕ} {words words' : List ℕ} {s s' : Slots} → SlotsChecked c words s → SlotsChecked c' words' s' → s'.bound ≡ s.bound → s'.base ≡ s.base
    → live_flags words' s'.bound ≡ live_flags words s.bound → s' ≡ s
slots_same a b bound base flags =
    let live = b.live.live_right ∙ ap live_count flags ∙ sym a.live.live_right in
    λ i. record { bound = bound i; base = base i; live = live i }

-- and so are its live words, where they hold a bit of a slot
bits_same : {c c' : ℕ} {words words' : List ℕ} {s s' : Slots} → SlotsChecked c words s → SlotsChecked c' words' s' → s' ≡ s
    → live_flags words' s'.bound ≡ live_flags words s.bound → (i : ℕ) → 64 * i < s.bound → get_or words' i 0 < 2 ^ 64 → get_or words i 0 < 2 ^ 64
    → get_or words' i 0 ≡ get_or words i 0
bits_same {words = words} {words' = words'} {s = s} a b same flags i h narrow' narrow =
    words_same words' words s.bound (ap (λ (t : Slots). live_flags words' t.bound) (sym same) ∙ flags)
    (ap (λ (t : Slots). packed words' t.bound) (sym same) ∙ b.live.unused_clear) a.live.unused_clear i h narrow' narrow

module _ {w v : Words} (a : Checked w) (b : Checked v) (same : shape_of v ≡ shape_of w) where
  -- flags
  node_flags_same : node_live v ≡ node_live w
  node_flags_same = sym (node_flags_are v) ∙ ap node_flags_of same ∙ node_flags_are w

  edge_flags_same : edge_live v ≡ edge_live w
  edge_flags_same = sym (edge_flags_are v) ∙ ap edge_flags_of same ∙ edge_flags_are w

  nodes_same : v.counts.nodes ≡ w.counts.nodes
  unfolding shape_of
  nodes_same =
      slots_same a.nodes b.nodes (sym (node_bound_is v) ∙ ap (λ (s : Shape). length s.nodes) same ∙ node_bound_is w) (ap (λ (s : Shape). s.base_nodes) same)
      node_flags_same

  edges_same : v.counts.edges ≡ w.counts.edges
  unfolding shape_of
  edges_same =
      slots_same a.edges b.edges (sym (edge_bound_is v) ∙ ap (λ (s : Shape). length s.edges) same ∙ edge_bound_is w) (ap (λ (s : Shape). s.base_edges) same)
      edge_flags_same

  -- checked stores of one shape have the same counts
  pub counts_same : v.counts ≡ w.counts
  counts_same = let n = nodes_same in let e = edges_same in λ i. record { nodes = n i; edges = e i }

  module _ (long : SameLengths w v) where
    nodes_long : node_capacity v ≡ node_capacity w
    nodes_long = same_nodes long

    edges_long : edge_capacity v ≡ edge_capacity w
    edges_long = same_edges long

    -- both axes, by the lengths and counts of w
    axis_same : (d : TraversalDirection)
        → axis_of (axis_words d v) (edge_capacity w) (node_capacity w) w.counts ≡ axis_of (axis_words d w) (edge_capacity w) (node_capacity w) w.counts
    axis_same d =
        ap (λ (c : Counts). axis_of (axis_words d v) (edge_capacity w) (node_capacity w) c) (sym counts_same)
        ∙ ap₂ (λ (ce cn : ℕ). axis_of (axis_words d v) ce cn v.counts) (sym edges_long) (sym nodes_long)
        ∙ sym (axis_is v d) ∙ ap (axis_in d) same ∙ axis_is w d

    axis_checked : (d : TraversalDirection) → AxisChecked (axis_words d v) (edge_capacity w) (node_capacity w) w.counts (node_live v) (edge_live v)
    axis_checked d =
        subst (λ (c : Counts). AxisChecked (axis_words d v) (edge_capacity w) (node_capacity w) c (node_live v) (edge_live v)) counts_same
        (subst₂ (λ (ce cn : ℕ). AxisChecked (axis_words d v) ce cn v.counts (node_live v) (edge_live v)) edges_long nodes_long (b.axis d))

    -- a node has a run in both or in neither
    pub runs_same : (d : TraversalDirection) (x : ℕ) → x < w.counts.nodes.bound
        → run_of (axis_words d v) (edge_capacity w) (node_capacity w) x ≡ run_of (axis_words d w) (edge_capacity w) (node_capacity w) x
    runs_same d = same_run a.nodes.bounded.base_within (a.axis d) (axis_checked d) (axis_same d)

    -- with equal marks they have the same fields
    pub shape_fields : Narrow w → Narrow v
        → ((d : TraversalDirection) (x : ℕ) → x < w.counts.nodes.bound
        → mark_at (axis_words d v) (edge_capacity w) (node_capacity w) x ≡ mark_at (axis_words d w) (edge_capacity w) (node_capacity w) x)
        → SameFields w v
    shape_fields w-narrow v-narrow marked-same = record { counts = counts_same; lengths = long; words = each }
      where
        payload_same : (e : ℕ) → e < w.counts.edges.bound → edge_payload_at v e ≡ edge_payload_at w e
        payload_same e h =
            sym (edge_at v e (rw edges_same h)) ∙ ap (λ (s : Shape). (get_or s.edges e no_edge).payload) same ∙ edge_at w e h

        each : (p : Place) → Field w p → word_at v p ≡ word_at w p
        each (node_payload x) h =
            sym (node_at v x (rw nodes_same h)) ∙ ap (λ (s : Shape). (get_or s.nodes x no_node).payload) same ∙ node_at w x h
        each (edge_low e) h = ap low_of (payload_same e h)
        each (edge_high e) h = ap high_of (payload_same e h)
        each (node_bits i) h =
            bits_same a.nodes b.nodes nodes_same node_flags_same i h (v-narrow.nodes i (rw nodes_same h)) (w-narrow.nodes i h)
        each (edge_bits i) h =
            bits_same a.edges b.edges edges_same edge_flags_same i h (v-narrow.edges i (rw edges_same h)) (w-narrow.edges i h)
        each (axis_word d c x) f =
            subst₂ (λ (ce cn : ℕ). cell (axis_words d v) (begins ce cn c) x ≡ cell (axis_words d w) (begins (edge_capacity w) (node_capacity w) c) x)
            (sym edges_long) (sym nodes_long)
            (fields_agree a.nodes.bounded.base_within (a.axis d) (axis_checked d) (axis_same d) (marked-same d) c x f)

-- outcomes that are both the words at entry have the same fields
pub kept_both : {w v u : Words} → v ≡ w → u ≡ w → SameFields v u
kept_both {w} p q = subst₂ (λ (a b : Words). SameFields a b) (sym p) (sym q) (record { counts = refl; lengths = refl; words = λ p f. refl })

-- ---- outcomes that keep the marks of one store

-- marks that come from one mark, or are new, and are 0 together are equal
marks_agree : {was is too : ℕ} → Mark was is → Mark was too → (is ≡ 0 → too ≡ 0) → (too ≡ 0 → is ≡ 0) → too ≡ is
marks_agree (inl p) (inl q) there back = q ∙ sym p
marks_agree (inl p) (inr q) there back = let none = there (p ∙ q.0) in absurd (omega (arith, q.1))
marks_agree (inr p) (inl q) there back = let none = back (q ∙ p.0) in absurd (omega (arith, p.1))
marks_agree (inr p) (inr q) there back = q.1 ∙ sym p.1

new_marks_agree : {is too : ℕ} → NewMark is → NewMark too → (is ≡ 0 → too ≡ 0) → (too ≡ 0 → is ≡ 0) → too ≡ is
new_marks_agree (inl p) q there back = there p ∙ sym p
new_marks_agree (inr p) (inl q) there back = let none = back q in absurd (omega arith)
new_marks_agree (inr p) (inr q) there back = q ∙ sym p

-- checked stores of one shape that both keep what a strip keeps of a store have the same fields
module _ {w v u : Words} (a : Checked v) (b : Checked u) (same : shape_of u ≡ shape_of v) (v-long : SameLengths w v) (u-long : SameLengths w u)
    (v-kept : Kept w v) (u-kept : Kept w u) where
  kept_marks : (d : TraversalDirection) (x : ℕ) → x < v.counts.nodes.bound
      → mark_at (axis_words d u) (edge_capacity v) (node_capacity v) x ≡ mark_at (axis_words d v) (edge_capacity v) (node_capacity v) x
  kept_marks d x h =
      ⊎_elim (λ old. marks_agree (v_axis.marks at (omega arith) (omega arith)) (u_axis.marks at (omega arith) (omega arith)) there back)
      (λ new. new_marks_agree (v_axis.new_marks at (omega arith) (omega arith)) (u_axis.new_marks at (omega arith) (omega (arith, bounds))) there back)
      (below_or_not x w.counts.nodes.bound)
    where
      at : ℕ
      at = 4 * edge_capacity v + 4 * node_capacity v + x

      bounds : u.counts.nodes.bound ≡ v.counts.nodes.bound
      bounds = ap (λ (c : Counts). c.nodes.bound) (counts_same a b same)

      v_axis : AxisKept (axis_words d w) (axis_words d v) (edge_capacity v) (node_capacity v) w.counts.nodes.bound v.counts.nodes.bound v.counts.edges.bound
      v_axis =
          subst₂ (λ (e n : ℕ). AxisKept (axis_words d w) (axis_words d v) e n w.counts.nodes.bound v.counts.nodes.bound v.counts.edges.bound)
          (same_edges (sym v-long)) (same_nodes (sym v-long)) (v-kept.axis d)

      u_axis : AxisKept (axis_words d w) (axis_words d u) (edge_capacity v) (node_capacity v) w.counts.nodes.bound u.counts.nodes.bound u.counts.edges.bound
      u_axis =
          subst₂ (λ (e n : ℕ). AxisKept (axis_words d w) (axis_words d u) e n w.counts.nodes.bound u.counts.nodes.bound u.counts.edges.bound)
          (same_edges (sym v-long)) (same_nodes (sym v-long)) (u-kept.axis d)

      runs : run_of (axis_words d u) (edge_capacity v) (node_capacity v) x ≡ run_of (axis_words d v) (edge_capacity v) (node_capacity v) x
      runs = runs_same a b same (u-long ∙ sym v-long) d x h

      there : mark_at (axis_words d v) (edge_capacity v) (node_capacity v) x ≡ 0 → mark_at (axis_words d u) (edge_capacity v) (node_capacity v) x ≡ 0
      there = unmarked_too (axis_words d v) (axis_words d u) (edge_capacity v) (node_capacity v) x runs

      back : mark_at (axis_words d u) (edge_capacity v) (node_capacity v) x ≡ 0 → mark_at (axis_words d v) (edge_capacity v) (node_capacity v) x ≡ 0
      back = unmarked_too (axis_words d u) (axis_words d v) (edge_capacity v) (node_capacity v) x (sym runs)

  pub kept_fields : Narrow v → Narrow u → SameFields v u
  kept_fields v-narrow u-narrow = shape_fields a b same (u-long ∙ sym v-long) v-narrow u-narrow kept_marks
