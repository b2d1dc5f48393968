-- What handing a run over does: the stores of its ways, and both runs after them.
use Rattle.std.specs.Prelude.{ℕ, ◌+◌, ◌*◌, ◌≤◌, ◌<◌, ◌≡◌, refl, true, false, ◌≢◌, List, [], ◌∷◌, ◌++◌, length, get_or, set, eqb}
use Rattle.plain.specs.Library.{sym, ap, ◌∙◌, inl, inr, append-nil, append_assoc, length-set, length-append, get_or-set_same, get_or-set_other, arith, eqb-true, eqb-false}
use Rattle.plain.specs.declared.Counts.{Counts}
use Rattle.plain.specs.Lists.{member, distinct}
use Rattle.plain.proofs.Laws.Booleans.{by_test, true_false, refuted}
use Rattle.plain.proofs.Laws.ListLaws.{member_first, distinct_apart}
use Rattle.plain.proofs.Laws.Deleting.{distinct_appended}
use Rattle.shape.specs.Columns.{cell, link_at, first_at, tail_at, count_at}
use Rattle.shape.specs.Chains.{In, Seg, Line, Run}
use Rattle.shape.specs.Shape.{run_list}
use Rattle.shape.proofs.Laws.Chains.{in_front, in_none, seg_append, seg_agree, line_last, line_agree, run_empty, run_line, run_short}
use Rattle.shape.proofs.Laws.Frames.{run_list_below}
use Rattle.shape.proofs.Laws.Keeping.{in_either}
use Rattle.runs.specs.Runs.{Editable, Edited}
use Rattle.runs.specs.Laws.Editing.{edited, edited_none, edited_list, edited_other}
use Rattle.relocate.specs.Moves.{HandableOver, HandedOver}
use Rattle.runs.specs.Laws.Pushing.{run_before}

-- one line after another, to whose first entry the last one now points
line_join : {nx : ℕ → ℕ} (mx : ℕ → ℕ) {lo hi f t g u : ℕ} {xs ys : List ℕ} → mx t ≡ g → ((x : ℕ) → In x xs → x ≢ t → mx x ≡ nx x)
    → ((x : ℕ) → In x ys → mx x ≡ nx x) → ((x : ℕ) → In x xs → member x ys ≡ false) → Line nx lo hi f t xs → Line nx lo hi g u ys
    → Line mx lo hi f u (xs ++ ys)
line_join {nx} mx {lo} {hi} {f} {t} {g} {u} {xs} {ys} joins first second apart v w =
    record {
      front = xs ++ w.front;
      ends = ap (λ (l : List ℕ). xs ++ l) w.ends ∙ sym (append_assoc xs w.front (u ∷ []));
      visits = seg_append mx f xs g w.front u whole (seg_agree nx mx g w.front u (λ x m. second x (rw w.ends (in_front x w.front (u ∷ []) m))) w.visits);
      once = distinct_appended xs ys v.once w.once apart;
      least = λ x m. in_either x xs ys m (v.least x) (w.least x);
      below = λ x m. in_either x xs ys m (v.below x) (w.below x);
    }
  where
    once : distinct (v.front ++ (t ∷ [])) ≡ true
    once = rw v.ends at v.once

    before : (x : ℕ) → In x v.front → mx x ≡ nx x
    before x m =
        first x (rw v.ends (in_front x v.front (t ∷ []) m))
        (λ q. true_false (member_first t []) (ap (λ (z : ℕ). member z (t ∷ [])) (sym q) ∙ distinct_apart v.front (t ∷ []) once x m))

    whole : Seg mx f xs g
    whole = rw v.ends (seg_append mx f v.front t (t ∷ []) g (seg_agree nx mx f v.front t before v.visits) (refl, joins))

module _ {ws : List ℕ} {ce cn : ℕ} {counts : Counts} {old new : ℕ} (pre : HandableOver ws ce cn counts old new) where
  -- the runs and their lengths
  abbrev ys : List ℕ
  ys = run_list ws ce cn old

  abbrev xs : List ℕ
  xs = run_list ws ce cn new

  abbrev moved : ℕ
  moved = count_at ws ce cn old

  abbrev present : ℕ
  present = count_at ws ce cn new

  -- the runs as they are
  ys_run : Run (cell ws (3 * ce)) counts.edges.bound (first_at ws ce cn old) (tail_at ws ce cn old) moved ys
  ys_run = run_before pre.editable pre.old_marked

  xs_run : Run (cell ws (3 * ce)) counts.edges.bound (first_at ws ce cn new) (tail_at ws ce cn new) present xs
  xs_run = pre.editable.runs.run new pre.new_below pre.new_marked

  -- no edge is in both
  disjoint : (e : ℕ) → In e xs → In e ys → ⊥
  disjoint e m k = pre.apart (pre.editable.runs.apart old new e pre.editable.node_below pre.new_below k m)

  -- both lengths are at most the capacity
  pub hand_short : present + moved ≤ 2 * ce
  hand_short =
      let a = run_short xs_run in
      let b = run_short ys_run in
      omega (arith, pre.editable.edges_within)

  -- entries are edges
  small : (x e : ℕ) → x < counts.nodes.bound → In e (run_list ws ce cn x) → e < ce
  small x e h m = let low = run_list_below pre.editable.runs x e h m in omega (arith, pre.editable.edges_within)

  -- the last entry of the second run is an edge
  pub hand_last : present ≢ 0 → tail_at ws ce cn new < ce
  hand_last full = small new (tail_at ws ce cn new) pre.new_below (line_last (run_line full xs_run))

  -- the second node can be edited too
  other_editable : {vs : List ℕ} → Editable vs ce cn counts old → Editable vs ce cn counts new
  other_editable e =
      record { sized = e.sized; runs = e.runs; node_below = pre.new_below; nodes_within = e.nodes_within; edges_within = e.edges_within }

  -- nothing to hand over
  pub hand_none : moved ≡ 0 → HandedOver ws ws ce cn counts old new
  hand_none none =
      let empty = run_empty none ys_run in
      record {
        between = ws;
        emptied = rw (← empty) (edited_none pre.editable pre.old_marked);
        joined = rw (empty, append-nil xs) (edited_none (other_editable pre.editable) pre.new_marked);
      }

  -- where the words stand
  abbrev gone : ℕ
  gone = 4 * ce + 3 * cn + old

  abbrev first : ℕ
  first = 4 * ce + cn + new

  abbrev tail : ℕ
  tail = 4 * ce + 2 * cn + new

  abbrev count : ℕ
  count = 4 * ce + 3 * cn + new

  -- the first run is emptied
  abbrev us : List ℕ
  us = set ws gone 0

  us_other : (i : ℕ) → i ≢ gone → get_or us i 0 ≡ get_or ws i 0
  us_other i ne = get_or-set_other ws gone i 0 0 ne

  emptied : Edited ws us ce cn counts old [] []
  emptied =
      let e = pre.editable in
      edited e us [] (length-set ws gone 0)
      (λ q. pre.old_marked (sym (us_other (4 * ce + 4 * cn + old) (omega (arith, e.node_below, e.nodes_within))) ∙ q))
      (record { counted = get_or-set_same ws gone 0 0 (omega (arith, e.node_below, e.nodes_within, e.sized.room)); line = inl refl })
      (λ x f h ne m k. in_none f m) (λ x f h ne m. let low = small x f h m in us_other (3 * ce + f) (omega arith))
      (λ i h. us_other i (omega arith)) (λ i l h. us_other i (omega arith)) (λ i h f t c m. us_other i c)
      (inl (us_other (4 * ce + 4 * cn + old) (omega (arith, e.node_below, e.nodes_within)))) (λ f h out. us_other (3 * ce + f) (omega arith))

  -- where an entry of another run than the second was
  elsewhere : (x f : ℕ) → x < counts.nodes.bound → In f (run_list us ce cn x) → (x ≢ old) × In f (run_list ws ce cn x)
  elsewhere x f h k =
      by_test (eqb x old) (λ t. in_none f (rw (eqb-true x old t, edited_list emptied) at k))
      (λ t. let ne = eqb-false x old t in (ne, rw (edited_other emptied x h ne) at k))

  -- the words after the stores: the second run has both lists, and no other word than its own differs
  module _
      (vs : List ℕ)
      (long : length vs ≡ length us)
      (counted : count_at vs ce cn new ≡ present + moved)
      (line : Line (cell vs (3 * ce)) 0 counts.edges.bound (first_at vs ce cn new) (tail_at vs ce cn new) (xs ++ ys))
      (same : (i : ℕ) → i ≢ first → i ≢ tail → i ≢ count → (present ≢ 0 → i ≢ 3 * ce + tail_at ws ce cn new) → get_or vs i 0 ≡ get_or us i 0)
    where
      alone : (x f : ℕ) → x < counts.nodes.bound → x ≢ new → In f (xs ++ ys) → In f (run_list us ce cn x) → ⊥
      alone x f h ne m k =
          let was = elsewhere x f h k in
          in_either f xs ys m (λ a. ne (pre.editable.runs.apart x new f h pre.new_below was.1 a))
          (λ a. was.0 (pre.editable.runs.apart x old f h pre.editable.node_below was.1 a))

      links : (x f : ℕ) → x < counts.nodes.bound → x ≢ new → In f (run_list us ce cn x) → link_at vs ce f ≡ link_at us ce f
      links x f h ne k =
          let was = elsewhere x f h k in
          let low = small x f h was.1 in
          same (3 * ce + f) (omega arith) (omega arith) (omega arith)
          (λ full q. let at : f ≡ tail_at ws ce cn new = omega arith in
          ne (pre.editable.runs.apart x new f h pre.new_below was.1 (rw at (line_last (run_line full xs_run)))))

      handed : HandedOver ws vs ce cn counts old new
      handed =
          let e = pre.editable in
          record {
            between = us;
            emptied = emptied;
            joined =
                edited (other_editable emptied.editable) vs (xs ++ ys) long
                (λ q. pre.new_marked (sym (same (4 * ce + 4 * cn + new) (omega (arith, pre.new_below, e.nodes_within))
                (omega (arith, pre.new_below, e.nodes_within)) (omega (arith, pre.new_below, e.nodes_within)) (λ full. let low = hand_last full in omega arith)
                ∙ us_other (4 * ce + 4 * cn + new) (omega (arith, e.node_below, e.nodes_within))) ∙ q))
                (record { counted = counted ∙ lengths; line = inr line }) alone links
                (λ i h. same i (omega arith) (omega arith) (omega arith) (λ full. omega arith))
                (λ i l h. same i (omega arith) (omega arith) (omega arith)
                (λ full. let low = run_list_below pre.editable.runs new (tail_at ws ce cn new) pre.new_below (line_last (run_line full xs_run)) in omega arith))
                (λ i h f t c m. same i f t c (λ full. let low = hand_last full in omega arith))
                (inl (same (4 * ce + 4 * cn + new) (omega (arith, pre.new_below, e.nodes_within)) (omega (arith, pre.new_below, e.nodes_within))
                (omega (arith, pre.new_below, e.nodes_within)) (λ full. let low = hand_last full in omega arith)))
                (λ f h out. same (3 * ce + f) (omega arith) (omega arith) (omega arith)
                (λ full q. let at : f ≡ tail_at ws ce cn new = omega arith in out (rw at (line_last (run_line full xs_run)))));
          }
        where
          lengths : present + moved ≡ length (xs ++ ys)
          lengths = let a = xs_run.counted in let b = ys_run.counted in simp length-append (omega arith)

  -- the length and the last entry are stored
  abbrev placed : List ℕ
  placed = set (set us count (present + moved)) tail (tail_at ws ce cn old)

  placed_other : (i : ℕ) → i ≢ tail → i ≢ count → get_or placed i 0 ≡ get_or us i 0
  placed_other i nt nc =
      get_or-set_other (set us count (present + moved)) tail i (tail_at ws ce cn old) 0 nt ∙ get_or-set_other us count i (present + moved) 0 nc

  -- the last store, at a place that is neither
  module _ (at : ℕ) (v : ℕ) (nt : at ≢ tail) (nc : at ≢ count) (in-room : at < length ws) where
    abbrev vs : List ℕ
    vs = set placed at v

    there : get_or vs at 0 ≡ v
    there = get_or-set_same placed at v 0 (simp length-set in-room)

    other : (i : ℕ) → i ≢ at → get_or vs i 0 ≡ get_or placed i 0
    other i ne = get_or-set_other placed at i v 0 ne

    long : length vs ≡ length us
    long = simp length-set

    tail_there : get_or vs tail 0 ≡ tail_at ws ce cn old
    tail_there =
        let e = pre.editable in
        other tail (λ q. nt (sym q))
        ∙ get_or-set_same (set us count (present + moved)) tail (tail_at ws ce cn old) 0 (simp length-set (omega (arith, pre.new_below, e.nodes_within, e.sized.room)))

    count_there : get_or vs count 0 ≡ present + moved
    count_there =
        let e = pre.editable in
        other count (λ q. nc (sym q))
        ∙ get_or-set_other (set us count (present + moved)) tail count (tail_at ws ce cn old) 0 (omega (arith, pre.new_below, e.nodes_within))
        ∙ get_or-set_same us count (present + moved) 0 (simp length-set (omega (arith, pre.new_below, e.nodes_within, e.sized.room)))

    -- a link that is not stored
    link_same : (f : ℕ) → f < ce → 3 * ce + f ≢ at → link_at vs ce f ≡ link_at ws ce f
    link_same f h ne = other (3 * ce + f) ne ∙ placed_other (3 * ce + f) (omega arith) (omega arith) ∙ us_other (3 * ce + f) (omega arith)

  -- the second run was empty
  pub hand_first : moved ≢ 0 → present ≡ 0 → HandedOver ws (set placed first (first_at ws ce cn old)) ce cn counts old new
  hand_first some-moved none =
      let e = pre.editable in
      let nt : first ≢ tail = omega (arith, pre.new_below, e.nodes_within) in
      let nc : first ≢ count = omega (arith, pre.new_below, e.nodes_within) in
      let room : first < length ws = omega (arith, pre.new_below, e.nodes_within, e.sized.room) in
      let v = first_at ws ce cn old in
      let empty = run_empty none xs_run in
      handed (vs first v nt nc room) (long first v nt nc room) (count_there first v nt nc room)
      (rw (there first v nt nc room, tail_there first v nt nc room, empty)
      (line_agree (cell (vs first v nt nc room) (3 * ce))
      (λ f m. let low = small old f e.node_below m in link_same first v nt nc room f low (omega arith)) (run_line some-moved ys_run)))
      (λ i nf nt' nc' _. other first v nt nc room i nf ∙ placed_other i nt' nc')

  -- the second run had entries
  pub hand_more : moved ≢ 0 → present ≢ 0 → HandedOver ws (set placed (3 * ce + tail_at ws ce cn new) (first_at ws ce cn old)) ce cn counts old new
  hand_more some-moved full =
      let e = pre.editable in
      let last = hand_last full in
      let at = 3 * ce + tail_at ws ce cn new in
      let nt : at ≢ tail = omega arith in
      let nc : at ≢ count = omega arith in
      let nf : first ≢ at = omega arith in
      let room : at < length ws = omega (arith, e.sized.room) in
      let v = first_at ws ce cn old in
      let first-there : get_or (vs at v nt nc room) first 0 ≡ first_at ws ce cn new
      = other at v nt nc room first nf ∙ placed_other first (omega (arith, pre.new_below, e.nodes_within)) (omega (arith, pre.new_below, e.nodes_within))
      ∙ us_other first (omega (arith, pre.new_below, e.nodes_within)) in
      let w = run_line full xs_run in
      handed (vs at v nt nc room) (long at v nt nc room) (count_there at v nt nc room)
      (rw (first-there, tail_there at v nt nc room)
      (line_join (cell (vs at v nt nc room) (3 * ce)) (there at v nt nc room)
      (λ f m ne. let low = small new f pre.new_below m in link_same at v nt nc room f low (omega arith))
      (λ f m. let low = small old f e.node_below m in
      link_same at v nt nc room f low (λ q. let here : f ≡ tail_at ws ce cn new = omega arith in disjoint f (rw here (line_last w)) m))
      (λ f m. refuted (member f ys) (disjoint f m)) w (run_line some-moved ys_run)))
      (λ i nf' nt' nc' nl. other at v nt nc room i (nl full) ∙ placed_other i nt' nc')
