-- Edges that end elsewhere: what was so placed that it can be relocated is so afterwards.
use Rattle.std.specs.Prelude.{ℕ, suc, ◌+◌, ◌*◌, ◌≤◌, ◌<◌, ◌≡◌, refl, Bool, true, false, cond, ◌≢◌, List, map, length, get_or, set, eqb}
use Rattle.plain.specs.Library.{sym, ap, ◌∙◌, subst, inl, length-set, length-map, ext_get_or, arith, eq-eqb, ne_eqb, eqb-true, eqb-false}
use native.Mathlib.Nat.{le_refl, le_trans}
use Rattle.plain.specs.declared.Counts.{Counts}
use Rattle.plain.specs.Lists.{member, distinct, from, set_all}
use Rattle.plain.proofs.Laws.Booleans.{by_test, true_false}
use Rattle.plain.proofs.Laws.ListLaws.{length_from}
use Rattle.plain.proofs.Laws.Deleting.{get_d_set, length_set_all, get_or_set_all}
use Rattle.shape.specs.Columns.{end_at}
use Rattle.shape.specs.Chains.{In}
use Rattle.shape.specs.Shape.{adjacency_in, Adjacency, Axis, raw, live_in, run_list, axis_of, no_adjacency, ring_of}
use Rattle.shape.specs.Steps.{live_entries, with_run}
use Rattle.shape.specs.Checked.{AxisChecked}
use Rattle.shape.specs.Kept.{AxisKept}
use Rattle.shape.proofs.Laws.Frames.{run_list_below, run_of_agree, base_of_agree, ring_of_agree, index_kept, runs_kept, rings_agree}
use Rattle.shape.proofs.Laws.Reading.{made_at}
use Rattle.runs.specs.Laws.Editing.{same_entries}
use Rattle.runs.specs.Overlay.{flags_of, Ready, Remade}
use Rattle.runs.specs.Laws.Remaking.{node_same, remade_list, remade_other}
use Rattle.relocate.specs.Redirects.{Linked, Relocatable, Placed, Relabelled, Relocated}
use Rattle.runs.specs.Laws.Runs.{alive_below}

-- a node of such an axis can be edited
pub placed_ready : {ws : List ℕ} {ce cn : ℕ} {counts : Counts} {live : List ℕ} {node : ℕ} → Relocatable ws ce cn counts live → Placed ws ce cn counts live node
    → Ready ws ce cn counts live node
placed_ready axis placed =
    let l = axis.linked in
    record {
      editable =
          record {
            sized = l.sized;
            runs = l.runs;
            node_below = placed.below;
            nodes_within = l.nodes_within;
            edges_within = l.edges_within;
          };
      rings = l.rings;
      index = l.index;
      nodes_based = l.nodes_based;
      edges_based = l.edges_based;
      live_long = axis.live_long;
      once = placed.once;
      alone = λ x e h ne alive m k. ne (sym (axis.run_ends x e h alive k) ∙ placed.own e alive m);
    }

-- one node is remade
pub remade_linked : {ws vs : List ℕ} {ce cn : ℕ} {counts : Counts} {node : ℕ} {ys : List ℕ} → Linked ws ce cn counts → Remade ws vs ce cn counts node ys
    → Linked vs ce cn counts
remade_linked was made =
    record {
      sized = made.editable.sized;
      index = made.index;
      rings = made.rings;
      runs = made.editable.runs;
      nodes_within = was.nodes_within;
      edges_within = was.edges_within;
      nodes_based = was.nodes_based;
      edges_based = was.edges_based;
    }

module _
    {ws vs : List ℕ}
    {ce cn : ℕ}
    {counts : Counts}
    {live : List ℕ}
    {node : ℕ}
    {ys : List ℕ}
    (axis : Relocatable ws ce cn counts live)
    (made : Remade ws vs ce cn counts node ys)
  where
    -- an edge below the bound has its end
    remade_end : (e : ℕ) → e < counts.edges.bound → end_at vs e ≡ end_at ws e
    remade_end e h = made.below e (omega (arith, axis.linked.edges_within))

    -- the axis can still be relocated where the entries end at the node
    pub remade_axis : ((e : ℕ) → live_in (flags_of live counts) e ≡ true → In e ys → end_at ws e ≡ node) → Relocatable vs ce cn counts live
    remade_axis own =
        record {
          linked = remade_linked axis.linked made;
          live_long = axis.live_long;
          run_ends = λ x e h alive m. remade_end e (run_list_below made.editable.runs x e h m) ∙ ends x e h alive m;
        }
      where
        ends : (x e : ℕ) → x < counts.nodes.bound → live_in (flags_of live counts) e ≡ true → In e (run_list vs ce cn x) → end_at ws e ≡ x
        ends x e h alive m =
            by_test (eqb x node) (λ t. let q = eqb-true x node t in own e alive (rw (q, remade_list made) at m) ∙ sym q)
            (λ t. axis.run_ends x e h alive (rw (remade_other made x h (eqb-false x node t)) at m))

    -- another node is placed as before
    pub remade_placed : (x : ℕ) → x ≢ node → Placed ws ce cn counts live x → Placed vs ce cn counts live x
    remade_placed x ne placed =
        let same : raw (adjacency_in vs ce cn counts x) ≡ raw (adjacency_in ws ce cn counts x) = ap raw (made.others x placed.below ne) in
        record {
          below = placed.below;
          own = λ e alive m. remade_end e (alive_below live counts e alive) ∙ placed.own e alive (subst (λ (l : List ℕ). In e l) same m);
          once = subst (λ (l : List ℕ). distinct (live_entries (flags_of live counts) l) ≡ true) (sym same) placed.once;
        }

-- ---- the axis as it is read

-- numbers below a bound, with a function that differs from another at one of them
pub set_from : {A : Type 0} (f g : ℕ → A) (n i : ℕ) (v d : A) → i < n → g i ≡ v → ((x : ℕ) → x < n → x ≢ i → g x ≡ f x) → map g (from 0 n) ≡ set (map f (from 0 n)) i v
set_from f g n i v d low here other =
    ext_get_or d (map g (from 0 n)) (set (map f (from 0 n)) i v) (simp (length-set, length-map, length_from)) each
  where
    each : (x : ℕ) → x < length (map g (from 0 n)) → get_or (map g (from 0 n)) x d ≡ get_or (set (map f (from 0 n)) i v) x d
    each x h =
        let small : x < n = simp (length-map, length_from) at h in
        let room : i < length (map f (from 0 n)) = simp (length-map, length_from) low in
        made_at g n x d small
        ∙ by_test (eqb x i) (λ t. ap g (eqb-true x i t) ∙ here ∙ sym (get_d_set (map f (from 0 n)) i x v d room ∙ rw t))
        (λ t. other x small (eqb-false x i t) ∙ sym (get_d_set (map f (from 0 n)) i x v d room ∙ rw t (made_at f n x d small)))

-- two axes are equal where their parts are
pub axis_same : {a b : Axis} → a.ends ≡ b.ends → a.nodes ≡ b.nodes → a ≡ b
axis_same p q = λ i. record { ends = p i; nodes = q i }

-- ---- two nodes and the ends of some edges

module _
    {ws vs : List ℕ}
    {ce cn : ℕ}
    {counts : Counts}
    {old new : ℕ}
    {ys zs es : List ℕ}
    (low : old < counts.nodes.bound)
    (new-low : new < counts.nodes.bound)
    (apart : old ≢ new)
    (edges : (e : ℕ) → In e es → e < counts.edges.bound)
    (done : Relocated ws vs ce cn counts old new ys zs es)
  where
    -- the nodes before, the nodes after, and those between, of which one is edited
    abbrev before : ℕ → Adjacency
    before = adjacency_in ws ce cn counts

    abbrev after : ℕ → Adjacency
    after = adjacency_in vs ce cn counts

    between_them : ℕ → Adjacency
    between_them x = cond (eqb x old) (with_run ys (before old)) (before x)

    -- the nodes
    nodes_are : map after (from 0 counts.nodes.bound)
        ≡ set (set (map before (from 0 counts.nodes.bound)) old (with_run ys (before old))) new (with_run zs (before new))
    unfolding between_them
    nodes_are =
        let n = counts.nodes.bound in
        set_from between_them after n new (with_run zs (before new)) no_adjacency new-low done.second each
        ∙ ap (λ (l : List Adjacency). set l new (with_run zs (before new)))
        (set_from before between_them n old (with_run ys (before old)) no_adjacency low (rw (eq-eqb old old refl)) (λ x h ne. rw (ne_eqb x old ne)))
      where
        each : (x : ℕ) → x < counts.nodes.bound → x ≢ new → after x ≡ between_them x
        each x h ne =
            by_test (eqb x old) (λ t. ap after (eqb-true x old t) ∙ done.first ∙ rw t) (λ t. done.others x h (eqb-false x old t) ne ∙ rw t)

    -- the ends
    ends_are : map (end_at vs) (from 0 counts.edges.bound) ≡ set_all es new (map (end_at ws) (from 0 counts.edges.bound))
    ends_are =
        let n = counts.edges.bound in
        ext_get_or 0 (map (end_at vs) (from 0 n)) (set_all es new (map (end_at ws) (from 0 n)))
        (simp (length_set_all, length-map, length_from)) each
      where
        each : (x : ℕ) → x < length (map (end_at vs) (from 0 counts.edges.bound))
            → get_or (map (end_at vs) (from 0 counts.edges.bound)) x 0 ≡ get_or (set_all es new (map (end_at ws) (from 0 counts.edges.bound))) x 0
        each x h =
            let small : x < counts.edges.bound = simp (length-map, length_from) at h in
            let stored = get_or_set_all es new (map (end_at ws) (from 0 counts.edges.bound)) x 0 (λ i m. simp (length-map, length_from) (edges i m)) in
            made_at (end_at vs) counts.edges.bound x 0 small
            ∙ by_test (member x es) (λ t. done.ends x t ∙ sym (stored ∙ rw t))
            (λ t. done.kept x small (λ m. true_false m t) ∙ sym (stored ∙ rw t (made_at (end_at ws) counts.edges.bound x 0 small)))

    -- so the axis is read as the old one with both nodes and the ends put in
    pub relocated_axis : axis_of vs ce cn counts ≡ record {
      ends = set_all es new (axis_of ws ce cn counts).ends;
      nodes = set (set (axis_of ws ce cn counts).nodes old (with_run ys (before old))) new (with_run zs (before new));
    }
    unfolding axis_of
    relocated_axis = axis_same ends_are nodes_are

    -- rules 3 to 6 hold where they held and both nodes are live
    pub relocated_checked : (nodes flags : List Bool) → get_or nodes old false ≡ true → get_or nodes new false ≡ true → AxisChecked ws ce cn counts nodes flags
        → AxisChecked vs ce cn counts nodes flags
    relocated_checked nodes flags old_live new_live was =
        record {
          sized = done.linked.sized;
          ends_below = λ e h.
              by_test (member e es) (λ t. rw (done.ends e t) new-low) (λ t. rw (done.kept e h (λ m. true_false m t)) (was.ends_below e h));
          index = done.linked.index;
          rings = done.linked.rings;
          runs = done.linked.runs;
          removed_runs = λ x e h dead m.
              let ne-old : x ≢ old = λ q. true_false old_live (ap (λ (z : ℕ). get_or nodes z false) (sym q) ∙ dead) in
              let ne-new : x ≢ new = λ q. true_false new_live (ap (λ (z : ℕ). get_or nodes z false) (sym q) ∙ dead) in
              was.removed_runs x e h dead
              (rw (same_entries ws vs ce cn x (ap (λ (a : Adjacency). a.run) (done.others x h ne-old ne-new))) at m);
        }

-- ---- other ends

-- the ends of edges that are in no ring change
module _
    {ws vs : List ℕ}
    {ce cn : ℕ}
    {counts : Counts}
    {es : List ℕ}
    {new : ℕ}
    (axis : Linked ws ce cn counts)
    (edges : (e : ℕ) → In e es → e < counts.edges.bound)
    (done : Relabelled ws vs es new)
  where
    -- the other columns are as before
    columns : (i : ℕ) → ce ≤ i → get_or vs i 0 ≡ get_or ws i 0
    columns i h = done.kept i (λ m. let low = edges i m in omega (arith, axis.edges_within))

    -- so every node is
    pub relabelled_node : (x : ℕ) → adjacency_in vs ce cn counts x ≡ adjacency_in ws ce cn counts x
    relabelled_node x =
        node_same
        (base_of_agree ws vs ce cn counts.nodes.base x (λ h. columns (4 * ce + 5 * cn + x) (omega arith)) (λ h. columns (4 * ce + 5 * cn + suc x) (omega arith))
        (λ i h l u. columns (ce + i) (omega arith)))
        (run_of_agree ws vs ce cn x
        (record {
          mark = columns (4 * ce + 4 * cn + x) (omega arith);
          count = columns (4 * ce + 3 * cn + x) (omega arith);
          first = columns (4 * ce + cn + x) (omega arith);
          links = λ e m. columns (3 * ce + e) (omega arith);
        }))
        (ring_of_agree ws vs ce counts.edges.base counts.edges.bound x (columns (4 * ce + x) (omega arith))
        (λ some-last. columns (2 * ce + get_or ws (4 * ce + x) 0) (omega arith)) (λ e m. columns (2 * ce + e) (omega arith)))

    -- the words that an operation of a strip leaves
    pub relabelled_kept : AxisKept ws vs ce cn counts.nodes.bound counts.nodes.bound counts.edges.bound
    relabelled_kept =
        record {
          ends = λ i l h. done.kept i (λ m. let low = edges i m in omega arith);
          adjacency = λ i l h. columns i l;
          next = λ i l h. columns i (omega arith);
          links = λ i l h. columns i (omega arith);
          last = λ i l h. columns i (omega arith);
          first = λ i l h. columns i (omega arith);
          tail = λ i l h. columns i (omega arith);
          count = λ i l h. columns i (omega arith);
          mark = λ i l h. columns i (omega arith);
          marks = λ i l h. inl (columns i (omega arith));
          new_marks = λ i l h. absurd (omega arith);
          offsets = λ i l. columns i (omega arith);
        }

    -- and the rules
    pub relabelled_linked : ((x e : ℕ) → x < counts.nodes.bound → In e es → In e (ring_of ws ce counts.edges.base counts.edges.bound x) → ⊥)
        → Linked vs ce cn counts
    relabelled_linked none =
        record {
          sized = record { edges_within = axis.sized.edges_within; nodes_within = axis.sized.nodes_within; room = rw done.long axis.sized.room };
          index =
              index_kept vs (le_trans axis.nodes_based axis.nodes_within) (le_trans axis.edges_based axis.edges_within) axis.index
              (λ i l h. columns i l) (λ i l h. columns i (omega arith));
          rings =
              rings_agree vs (le_trans axis.edges_within axis.sized.edges_within) axis.rings
              (λ x h. record {
                last = columns (4 * ce + x) (omega arith);
                next = λ e m. columns (2 * ce + e) (omega arith);
                ends = λ e m. done.kept e (λ k. none x e h k m);
              });
          runs =
              runs_kept vs axis.nodes_within axis.edges_within axis.runs (λ i l h. columns i (omega arith)) (λ i l h. columns i (omega arith))
              counts.edges.bound (le_refl counts.edges.bound);
          nodes_within = axis.nodes_within;
          edges_within = axis.edges_within;
          nodes_based = axis.nodes_based;
          edges_based = axis.edges_based;
        }
