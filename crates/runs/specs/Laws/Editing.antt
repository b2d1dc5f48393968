-- A run edited once, twice, and seen from outside: its entries, its mark, and all that is as it was.
use Rattle.std.specs.Prelude.{ℕ, ◌+◌, ◌-◌, ◌*◌, ◌≤◌, ◌<◌, ◌≡◌, refl, ◌≢◌, List, length, get_or, eqb}
use Rattle.plain.specs.Library.{sym, ap, ◌∙◌, subst, inl, inr, ⊎_elim, Option, none, some, arith, ne_eqb, eqb-true, eqb-false}
use Rattle.plain.specs.declared.Counts.{Counts}
use Rattle.plain.proofs.Laws.Booleans.{by_test, below_or_not}
use Rattle.shape.specs.Columns.{cell, link_at, first_at, tail_at, count_at, mark_at}
use Rattle.shape.specs.Chains.{In, Run}
use Rattle.shape.specs.Shape.{run_list, run_of, ring_of}
use Rattle.shape.specs.Checked.{Runs, Rings}
use Rattle.shape.specs.Writes.{OfLinks, OfNode}
use Rattle.shape.specs.Kept.{Mark, AxisKept, mark_through}
use Rattle.shape.proofs.Laws.Chains.{run_is, run_agree}
use Rattle.shape.specs.Laws.Frames.{SameRun}
use Rattle.shape.proofs.Laws.Frames.{run_list_agree, run_of_agree, run_of_unmarked, ring_kept, rings_kept}
use Rattle.runs.specs.Runs.{Editable, Edited}
use Rattle.runs.specs.Laws.Runs.{entries_of, run_of_marked, entries_are}

-- ---- a run and its mark

module _ (ws : List ℕ) (ce cn x : ℕ) where
  -- a node with a run has a mark
  pub mark_of_run : {ys : List ℕ} → run_of ws ce cn x ≡ some ys → mark_at ws ce cn x ≢ 0
  mark_of_run {ys} h none-mark = let bad : ◌≡◌ {A = Option (List ℕ)} none (some ys) = sym (run_of_unmarked ws ce cn x none-mark) ∙ h in
      let z : ◌≡◌ {A = ℕ} 0 1 = cc in omega arith

  -- and the entries of that run
  pub list_of_run : {ys : List ℕ} → run_of ws ce cn x ≡ some ys → run_list ws ce cn x ≡ ys
  list_of_run h = sym (entries_are ws ce cn x) ∙ ap entries_of h

-- equal runs have equal entries
pub same_entries : (ws vs : List ℕ) (ce cn x : ℕ) → run_of vs ce cn x ≡ run_of ws ce cn x → run_list vs ce cn x ≡ run_list ws ce cn x
same_entries ws vs ce cn x h = sym (entries_are vs ce cn x) ∙ ap entries_of h ∙ entries_are ws ce cn x

-- ---- making an edit

-- one node's run is ys by the words of vs, its entries are in no other run, and the words that make up the other runs are as before
module _
    {ws : List ℕ}
    {ce cn : ℕ}
    {counts : Counts}
    {node : ℕ}
    (pre : Editable ws ce cn counts node)
    (vs ys : List ℕ)
    (long : length vs ≡ length ws)
    (marked : mark_at vs ce cn node ≢ 0)
    (new : Run (cell vs (3 * ce)) counts.edges.bound (first_at vs ce cn node) (tail_at vs ce cn node) (count_at vs ce cn node) ys)
    (alone : (x e : ℕ) → x < counts.nodes.bound → x ≢ node → In e ys → In e (run_list ws ce cn x) → ⊥)
    (links : (x e : ℕ) → x < counts.nodes.bound → x ≢ node → In e (run_list ws ce cn x) → link_at vs ce e ≡ link_at ws ce e)
    (below : (i : ℕ) → i < 3 * ce → get_or vs i 0 ≡ get_or ws i 0)
    (past : (i : ℕ) → 3 * ce + counts.edges.bound ≤ i → i < 4 * ce → get_or vs i 0 ≡ get_or ws i 0)
    (above : (i : ℕ) → 4 * ce ≤ i → i ≢ 4 * ce + cn + node → i ≢ 4 * ce + 2 * cn + node → i ≢ 4 * ce + 3 * cn + node → i ≢ 4 * ce + 4 * cn + node
    → get_or vs i 0 ≡ get_or ws i 0)
    (mark : Mark (mark_at ws ce cn node) (mark_at vs ce cn node))
  where
    -- the node's entries
    listed : run_list vs ce cn node ≡ ys
    unfolding run_list
    listed = rw (ne_eqb (mark_at vs ce cn node) 0 marked) (run_is new)

    -- another node's run is read from the same words
    same : (x : ℕ) → x < counts.nodes.bound → x ≢ node → SameRun ws vs ce cn x
    same x h ne =
        let within = pre.nodes_within in
        let low = pre.node_below in
        record {
          mark = above (4 * ce + 4 * cn + x) (omega arith) (omega arith) (omega arith) (omega arith) (omega arith);
          count = above (4 * ce + 3 * cn + x) (omega arith) (omega arith) (omega arith) (omega arith) (omega arith);
          first = above (4 * ce + cn + x) (omega arith) (omega arith) (omega arith) (omega arith) (omega arith);
          links = λ e m. links x e h ne m;
        }

    -- so it is a run
    still : (x : ℕ) → x < counts.nodes.bound → x ≢ node → mark_at vs ce cn x ≢ 0
        → Run (cell vs (3 * ce)) counts.edges.bound (first_at vs ce cn x) (tail_at vs ce cn x) (count_at vs ce cn x) (run_list vs ce cn x)
    still x h ne some-mark =
        let within = pre.nodes_within in
        let low = pre.node_below in
        let s = same x h ne in
        let tail : tail_at vs ce cn x ≡ tail_at ws ce cn x
        = above (4 * ce + 2 * cn + x) (omega arith) (omega arith) (omega arith) (omega arith) (omega arith) in
        rw (s.first, tail, s.count, run_list_agree ws vs ce cn x s)
        (run_agree (cell vs (3 * ce)) s.links (pre.runs.run x h (λ q. some-mark (s.mark ∙ q))))

    -- an entry of the node's run is in no other
    single : (x e : ℕ) → x < counts.nodes.bound → x ≢ node → In e (run_list vs ce cn node) → In e (run_list vs ce cn x) → ⊥
    single x e h ne m n = alone x e h ne (rw listed at m) (rw (run_list_agree ws vs ce cn x (same x h ne)) at n)

    -- no edge is in two runs
    apart : (x y e : ℕ) → x < counts.nodes.bound → y < counts.nodes.bound → In e (run_list vs ce cn x) → In e (run_list vs ce cn y) → x ≡ y
    apart x y e h k m n =
        by_test (eqb x node)
        (λ t. let p = eqb-true x node t in
        by_test (eqb y node) (λ u. p ∙ sym (eqb-true y node u)) (λ u. absurd (single y e k (eqb-false y node u) (rw p at m) n)))
        (λ t. let p = eqb-false x node t in
        by_test (eqb y node) (λ u. absurd (single x e h p (rw (eqb-true y node u) at n) m))
        (λ u. let q = eqb-false y node u in
        pre.runs.apart x y e h k (rw (run_list_agree ws vs ce cn x (same x h p)) at m) (rw (run_list_agree ws vs ce cn y (same y k q)) at n)))

    -- rule 6 of vs
    ruled : Runs vs ce cn counts.nodes.bound counts.edges.bound
    ruled =
        record {
          run = λ x h some-mark. by_test (eqb x node) (λ t. rw (eqb-true x node t, listed) new) (λ t. still x h (eqb-false x node t) some-mark);
          apart = apart;
        }

    -- the node's run is edited, where no link is written but those of some edges
    pub edited : {own : List ℕ} → ((e : ℕ) → e < ce → (In e own → ⊥) → link_at vs ce e ≡ link_at ws ce e) → Edited ws vs ce cn counts node ys own
    edited written =
        record {
          here = run_of_marked vs ce cn node marked ∙ ap some listed;
          others = λ x h ne. run_of_agree ws vs ce cn x (same x h ne);
          editable =
              record {
                sized =
                    record { edges_within = pre.sized.edges_within; nodes_within = pre.sized.nodes_within; room = rw long pre.sized.room };
                runs = ruled;
                node_below = pre.node_below;
                nodes_within = pre.nodes_within;
                edges_within = pre.edges_within;
              };
          below = below;
          links = written;
          past = past;
          above = above;
          mark = mark;
        }

-- ---- one edit after another

module _ {ws : List ℕ} {ce cn : ℕ} {counts : Counts} {node : ℕ} where
  -- nothing has changed
  pub edited_none : {own : List ℕ} → Editable ws ce cn counts node → mark_at ws ce cn node ≢ 0 → Edited ws ws ce cn counts node (run_list ws ce cn node) own
  edited_none pre marked =
      record {
        here = run_of_marked ws ce cn node marked;
        others = λ x h ne. refl;
        editable = pre;
        below = λ i h. refl;
        links = λ e h out. refl;
        past = λ i l h. refl;
        above = λ i h f t c m. refl;
        mark = inl refl;
      }

  -- two edits of one node are one
  pub edited_again : {vs us ys zs own : List ℕ} → Edited ws vs ce cn counts node ys own → Edited vs us ce cn counts node zs own
      → Edited ws us ce cn counts node zs own
  edited_again a b =
      record {
        here = b.here;
        others = λ x h ne. b.others x h ne ∙ a.others x h ne;
        editable = b.editable;
        below = λ i h. b.below i h ∙ a.below i h;
        links = λ e h out. b.links e h out ∙ a.links e h out;
        past = λ i l h. b.past i l h ∙ a.past i l h;
        above = λ i h f t c m. b.above i h f t c m ∙ a.above i h f t c m;
        mark = mark_through a.mark b.mark;
      }

  -- links of more edges may be written
  pub edited_wider : {vs ys own more : List ℕ} → ((e : ℕ) → In e own → In e more) → Edited ws vs ce cn counts node ys own
      → Edited ws vs ce cn counts node ys more
  edited_wider within a =
      record {
        here = a.here;
        others = a.others;
        editable = a.editable;
        below = a.below;
        links = λ e h out. a.links e h (λ m. out (within e m));
        past = a.past;
        above = a.above;
        mark = a.mark;
      }

-- ---- what an edit leaves

module _ {ws vs : List ℕ} {ce cn : ℕ} {counts : Counts} {node : ℕ} {ys own : List ℕ} (done : Edited ws vs ce cn counts node ys own) where
  -- the entries of the node's run
  pub edited_list : run_list vs ce cn node ≡ ys
  edited_list = list_of_run vs ce cn node done.here

  -- the node has a mark
  pub edited_mark : mark_at vs ce cn node ≢ 0
  edited_mark = mark_of_run vs ce cn node done.here

  -- the entries of another node's run
  pub edited_other : (x : ℕ) → x < counts.nodes.bound → x ≢ node → run_list vs ce cn x ≡ run_list ws ce cn x
  edited_other x h ne = same_entries ws vs ce cn x (done.others x h ne)

  -- an edge that is not among the entries ys is in no run where it was in none before but the node's
  pub edited_new : (e : ℕ) → (In e ys → ⊥) → ((x : ℕ) → x < counts.nodes.bound → x ≢ node → In e (run_list ws ce cn x) → ⊥)
      → (x : ℕ) → x < counts.nodes.bound → In e (run_list vs ce cn x) → ⊥
  edited_new e gone elsewhere x h m =
      by_test (eqb x node) (λ t. gone (rw (eqb-true x node t, edited_list) at m))
      (λ t. let ne = eqb-false x node t in elsewhere x h ne (rw (edited_other x h ne) at m))

  -- every ring, and rule 5
  pub edited_ring : (be : ℕ) → Rings ws ce counts.nodes.bound be counts.edges.bound → (x : ℕ) → x < counts.nodes.bound
      → ring_of vs ce be counts.edges.bound x ≡ ring_of ws ce be counts.edges.bound x
  edited_ring be old = let e = done.editable in
      ring_kept vs e.edges_within e.sized.edges_within old (λ i h. done.below i (omega arith)) (λ i l h. done.below i h)
      (λ i l h. done.above i l (omega (arith, e.node_below, e.nodes_within)) (omega (arith, e.node_below, e.nodes_within))
      (omega (arith, e.node_below, e.nodes_within)) (omega (arith, e.node_below, e.nodes_within)))

  pub edited_rings : (be : ℕ) → Rings ws ce counts.nodes.bound be counts.edges.bound → Rings vs ce counts.nodes.bound be counts.edges.bound
  edited_rings be old = let e = done.editable in
      rings_kept vs e.edges_within e.sized.edges_within old (λ i h. done.below i (omega arith)) (λ i l h. done.below i h)
      (λ i l h. done.above i l (omega (arith, e.node_below, e.nodes_within)) (omega (arith, e.node_below, e.nodes_within))
      (omega (arith, e.node_below, e.nodes_within)) (omega (arith, e.node_below, e.nodes_within)))

  -- the words that an operation of a strip leaves
  pub edited_kept : AxisKept ws vs ce cn counts.nodes.bound counts.nodes.bound counts.edges.bound
  edited_kept =
      let low = done.editable.node_below in
      let within = done.editable.nodes_within in
      record {
        ends = λ i l h. done.below i (omega arith);
        adjacency = λ i l h. done.below i (omega arith);
        next = λ i l h. done.below i (omega arith);
        links = λ i l h. done.past i l h;
        last = λ i l h. above i (omega arith) (omega arith) (omega arith) (omega arith) (omega arith);
        first = λ i l h. above i (omega arith) (omega arith) (omega arith) (omega arith) (omega arith);
        tail = λ i l h. above i (omega arith) (omega arith) (omega arith) (omega arith) (omega arith);
        count = λ i l h. above i (omega arith) (omega arith) (omega arith) (omega arith) (omega arith);
        mark = λ i l h. above i (omega arith) (omega arith) (omega arith) (omega arith) (omega arith);
        marks = λ i l h.
            by_test (eqb i (4 * ce + 4 * cn + node)) (λ t. rw (eqb-true i (4 * ce + 4 * cn + node) t) done.mark)
            (λ t. let ne = eqb-false i (4 * ce + 4 * cn + node) t in inl (above i (omega arith) (omega arith) (omega arith) (omega arith) ne));
        new_marks = λ i l h. absurd (omega arith);
        offsets = λ i l. above i (omega arith) (omega arith) (omega arith) (omega arith) (omega arith);
      }
    where
      above : (i : ℕ) → 4 * ce ≤ i → i ≢ 4 * ce + cn + node → i ≢ 4 * ce + 2 * cn + node → i ≢ 4 * ce + 3 * cn + node → i ≢ 4 * ce + 4 * cn + node
          → get_or vs i 0 ≡ get_or ws i 0
      above = done.above

  -- no word is written but run links of those edges and the node's own
  pub edited_writes : (i : ℕ) → (OfLinks ce own i → ⊥) → (OfNode ce cn node i → ⊥) → get_or vs i 0 ≡ get_or ws i 0
  edited_writes i no-link out =
      ⊎_elim (λ h. done.below i h)
      (λ l. ⊎_elim (λ h. link l h)
      (λ h. done.above i h (λ q. out (inr (inl q))) (λ q. out (inr (inr (inl q)))) (λ q. out (inr (inr (inr (inl q))))) (λ q. out (inr (inr (inr (inr q))))))
      (below_or_not i (4 * ce)))
      (below_or_not i (3 * ce))
    where
      link : 3 * ce ≤ i → i < 4 * ce → get_or vs i 0 ≡ get_or ws i 0
      link l h =
          let place : 3 * ce + (i - 3 * ce) ≡ i = omega arith in
          subst (λ (k : ℕ). get_or vs k 0 ≡ get_or ws k 0) place
          (done.links (i - 3 * ce) (omega arith) (λ m. no-link (i - 3 * ce, sym place, m)))
