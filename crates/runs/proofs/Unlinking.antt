-- What taking an entry out of a run does: the stores of its ways, and the run after them. The argument:
-- 1. A run that is not empty is a line: from `first` the links visit its entries, without repeats, to `tail`. What stands in the link of the last is not asked.
-- 2. There are five ways. The run is empty, or the search finds no entry before e and the first is not e: then e is not in the run, and nothing is stored. The first
--    is e: `first` becomes its link. The search finds b, after which e comes: b's link becomes e's. And if e was the last, `tail` becomes b besides. The length falls
--    by one in the last three.
-- 3. Cutting a line (the module over `whole`, `cut`, `other`): the run is front, b, e, rest. New links agree with the old ones but at b, where the link is now e's. The
--    old line split at b visits front up to b, and from e's link on the rest; both parts agree with the new links, because b is in neither (no repeats). Put together
--    they visit front, b, rest, which is the run without e (`cut_without`).
-- 4. Its last entry is `tail` where e was not the last, else b: two lists that are equal have the same last entry (`last_none`, `last_some`).
-- 5. The words of other runs: no edge is in two runs, so no link of theirs is b's. All else is as it was by `get_or-set_other`, and `edited` makes of this that the run of
--    the node is the run without e, and everything else the shape's (`out`).
use Rattle.std.specs.Prelude.{ℕ, ◌+◌, ◌-◌, ◌*◌, ◌<◌, ◌≡◌, refl, true, false, ◌⊎◌, ◌≢◌, List, [], ◌∷◌, ◌++◌, length, get_or, set, eqb}
use Rattle.plain.specs.Library.{sym, ap, ◌∙◌, subst, inl, inr, ⊎_elim, append_assoc, length-set, get_or-set_same, get_or-set_other, append_snoc, arith, eq-eqb, eqb-true, eqb-false}
use Rattle.plain.specs.declared.Counts.{Counts}
use Rattle.plain.specs.Numbers.{NONE}
use Rattle.plain.specs.Lists.{member, without, distinct}
use Rattle.plain.proofs.Laws.Booleans.{by_test, true_false}
use Rattle.plain.proofs.Laws.ListLaws.{member_first, member_later, distinct_head, distinct_right, distinct_apart, distinct_without, without_absent}
use Rattle.plain.proofs.Laws.Deleting.{length_deleted}
use Rattle.shape.specs.Columns.{cell, link_at, first_at, tail_at, count_at}
use Rattle.shape.specs.Chains.{In, Seg, Line, chain}
use Rattle.shape.specs.Shape.{run_list}
use Rattle.shape.proofs.Laws.Chains.{in_front, in_last, in_none, seg_append, seg_agree, line_first, line_stop, line_step, run_is, run_once, run_empty, run_line, chain_some, line_agree}
use Rattle.shape.proofs.Laws.Frames.{run_list_below}
use Rattle.shape.proofs.Laws.Keeping.{in_second, in_without}
use Rattle.runs.specs.Runs.{Editable, before_in, Searchable, Cuttable, Unlinkable, TakenOut}
use Rattle.runs.specs.Laws.Editing.{edited, edited_none}
use Rattle.runs.specs.Laws.Pushing.{run_before}
use Rattle.runs.proofs.Searching.{before_none, Split, before_split, without_middle}

-- ---- lists by their last entry

-- the last entry, d of the empty list
final : ℕ → List ℕ → ℕ
final d [] = d
final d (x ∷ l) = final x l

final_snoc : (d : ℕ) (l : List ℕ) (z : ℕ) → final d (l ++ (z ∷ [])) ≡ z
unfolding final
final_snoc d [] z = refl
final_snoc d (x ∷ l) z = final_snoc x l z

-- two lists that are equal have the same last entry
same_last : (p : List ℕ) (y : ℕ) (q : List ℕ) (z : ℕ) → p ++ (y ∷ []) ≡ q ++ (z ∷ []) → y ≡ z
same_last p y q z h = sym (final_snoc 0 p y) ∙ ap (final 0) h ∙ final_snoc 0 q z

-- a list is empty, or has a last entry
by_last : (l : List ℕ) → (l ≡ []) ⊎ ((p : List ℕ) × (z : ℕ) × (l ≡ p ++ (z ∷ [])))
by_last [] = inl refl
by_last (x ∷ l) =
    ⊎_elim (λ q. inr ([], x, ap (λ (t : List ℕ). x ∷ t) q)) (λ w. inr (x ∷ w.0, w.1, ap (λ (t : List ℕ). x ∷ t) w.2)) (by_last l)

-- ---- a line from which an entry is cut

-- a segment, split at an entry
seg_split : (link : ℕ → ℕ) (e : ℕ) (xs : List ℕ) (y : ℕ) (ys : List ℕ) (q : ℕ) → Seg link e (xs ++ (y ∷ ys)) q → Seg link e xs y × Seg link (link y) ys q
seg_split link e [] y ys q s = (s.0, s.1)
seg_split link e (x ∷ xs) y ys q s = let later = seg_split link (link x) xs y ys q s.1 in ((s.0, later.0), later.1)

-- the links visit the whole line, and then go where the last entry points
line_whole : {link : ℕ → ℕ} {lo hi f t : ℕ} {xs : List ℕ} → Line link lo hi f t xs → Seg link f xs (link t)
line_whole {link} {f = f} {t = t} w = rw w.ends (seg_append link f w.front t (t ∷ []) (link t) w.visits (refl, refl))

module _
    {nx : ℕ → ℕ}
    (mx : ℕ → ℕ)
    {lo hi f t : ℕ}
    {xs : List ℕ}
    (w : Line nx lo hi f t xs)
    (front : List ℕ)
    (b e : ℕ)
    (rest : List ℕ)
    (whole : xs ≡ front ++ (b ∷ (e ∷ rest)))
    (cut : mx b ≡ nx e)
    (other : (x : ℕ) → In x xs → x ≢ b → mx x ≡ nx x)
  where
    -- what is left
    abbrev left : List ℕ
    left = front ++ (b ∷ rest)

    -- the whole is b with what is before it, and then e
    regroup : xs ≡ (front ++ (b ∷ [])) ++ (e ∷ rest)
    regroup = whole ∙ sym (append_snoc front b (e ∷ rest))

    regroup_left : (front ++ (b ∷ [])) ++ rest ≡ left
    regroup_left = append_snoc front b rest

    pub cut_without : without e xs ≡ left
    cut_without = ap (without e) regroup ∙ without_middle e (front ++ (b ∷ [])) rest (rw regroup at w.once) ∙ regroup_left

    -- what is left was there, and has no repeats
    kept : (x : ℕ) → In x left → In x xs
    kept x m = in_without e x xs (rw cut_without m)

    once : distinct left ≡ true
    once = rw (← cut_without) (distinct_without e xs w.once)

    -- b is not before itself, and not in the rest
    not_front : (x : ℕ) → In x front → x ≢ b
    not_front x m q = true_false (member_first b rest) (ap (λ (z : ℕ). member z (b ∷ rest)) (sym q) ∙ distinct_apart front (b ∷ rest) once x m)

    not_rest : (x : ℕ) → In x rest → x ≢ b
    not_rest x m q = true_false m (ap (λ (z : ℕ). member z rest) q ∙ distinct_head b rest (distinct_right front (b ∷ rest) once))

    -- the links visit what is left
    visits : Seg mx f left (nx t)
    visits =
        let parts = seg_split nx f front b (e ∷ rest) (nx t) (subst (λ (l : List ℕ). Seg nx f l (nx t)) whole (line_whole w)) in
        let later : Seg nx (nx e) rest (nx t) = parts.1.1 in
        seg_append mx f front b (b ∷ rest) (nx t) (seg_agree nx mx f front b (λ x m. other x (kept x (in_front x front (b ∷ rest) m)) (not_front x m)) parts.0)
        (refl, subst (λ (z : ℕ). Seg mx z rest (nx t)) (sym cut) (seg_agree nx mx (nx e) rest (nx t) (λ x m. other x (kept x (in_second x front (b ∷ rest) (member_later x b rest m))) (not_rest x m)) later))

    -- what is left is a line to its last entry
    module _ (p : List ℕ) (z : ℕ) (ends : left ≡ p ++ (z ∷ [])) where
      cut_line : Line mx lo hi f z left
      cut_line =
          record {
            front = p;
            ends = ends;
            visits = (seg_split mx f p z [] (nx t) (subst (λ (l : List ℕ). Seg mx f l (nx t)) ends visits)).0;
            once = once;
            least = λ x m. w.least x (kept x m);
            below = λ x m. w.below x (kept x m);
          }

    -- the last entry, where nothing or something is after e
    last_none : rest ≡ [] → t ≡ e
    last_none none =
        sym (same_last (front ++ (b ∷ [])) e w.front t
        (sym (regroup ∙ ap (λ (l : List ℕ). (front ++ (b ∷ [])) ++ (e ∷ l)) none) ∙ w.ends))

    last_some : (p : List ℕ) (z : ℕ) → rest ≡ p ++ (z ∷ []) → t ≡ z
    last_some p z q =
        sym (same_last ((front ++ (b ∷ [])) ++ (e ∷ p)) z w.front t
        (append_assoc (front ++ (b ∷ [])) (e ∷ p) (z ∷ []) ∙ sym (regroup ∙ ap (λ (l : List ℕ). (front ++ (b ∷ [])) ++ (e ∷ l)) q) ∙ w.ends))

    -- e is the last entry: b is now
    pub cut_last : t ≡ e → Line mx lo hi f b left
    cut_last q =
        ⊎_elim (λ none. cut_line front b (ap (λ (l : List ℕ). front ++ (b ∷ l)) none)) (λ r. absurd (another r.0 r.1 r.2)) (by_last rest)
      where
        another : (p : List ℕ) (z : ℕ) → rest ≡ p ++ (z ∷ []) → ⊥
        another p z r =
            true_false (rw (r, sym q ∙ last_some p z r) (in_last z p))
            (distinct_head e rest (distinct_right (front ++ (b ∷ [])) (e ∷ rest) (rw regroup at w.once)))

    -- another is the last entry, and stays it
    pub cut_inner : t ≢ e → Line mx lo hi f t left
    cut_inner ne =
        ⊎_elim (λ none. absurd (ne (last_none none)))
        (λ r. rw (last_some r.0 r.1 r.2)
        (cut_line (front ++ (b ∷ r.0)) r.1 (ap (λ (l : List ℕ). front ++ (b ∷ l)) r.2 ∙ sym (append_assoc front (b ∷ r.0) (r.1 ∷ []))))) (by_last rest)

-- ---- the stores

module _ {ws : List ℕ} {ce cn : ℕ} {counts : Counts} {node : ℕ} (pre : Cuttable ws ce cn counts node) (e : ℕ) where
  abbrev run : List ℕ
  run = run_list ws ce cn node

  abbrev n : ℕ
  n = count_at ws ce cn node

  -- where the node's words stand
  abbrev head : ℕ
  head = 4 * ce + cn + node

  abbrev tail : ℕ
  tail = 4 * ce + 2 * cn + node

  abbrev count : ℕ
  count = 4 * ce + 3 * cn + node

  -- the run is as before where e is not in it
  absent : member e run ≡ false → TakenOut ws ws ce cn counts node e
  absent out = rw (without_absent e run out) (edited_none pre.editable pre.marked)

  -- entries are edges
  small : (x : ℕ) → In x run → x < ce
  small x m = let low = run_list_below pre.editable.runs node x pre.editable.node_below m in omega (arith, pre.editable.edges_within)

  -- an empty run
  pub out_empty : n ≡ 0 → TakenOut ws ws ce cn counts node e
  unfolding member
  out_empty none = absent (rw (run_empty none (run_before pre.editable pre.marked)))

  -- a run with entries is a line, and can be searched
  line : n ≢ 0 → Line (cell ws (3 * ce)) 0 counts.edges.bound (first_at ws ce cn node) (tail_at ws ce cn node) run
  line full = run_line full (run_before pre.editable pre.marked)

  pub out_first : n ≢ 0 → first_at ws ce cn node < ce
  out_first full = small (first_at ws ce cn node) (line_first (line full))

  is : chain (cell ws (3 * ce)) n (first_at ws ce cn node) ≡ run
  is = run_is (run_before pre.editable pre.marked)

  pub out_searchable : n ≢ 0 → Searchable ws ce (first_at ws ce cn node) n
  out_searchable full =
      record {
        edges_within = pre.editable.sized.edges_within;
        room = omega (arith, pre.editable.sized.room);
        full = omega arith;
        below = λ x m. small x (rw is at m);
      }

  -- the search finds nothing
  pub out_none : n ≢ 0 → first_at ws ce cn node ≢ e → before_in e (chain (cell ws (3 * ce)) n (first_at ws ce cn node)) ≡ NONE
      → TakenOut ws ws ce cn counts node e
  out_none full ne none = absent (rw split (before_none e f rest (rw (is, split) at none) (λ y m. large y (rw split m)) ne))
    where
      f : ℕ
      f = first_at ws ce cn node

      rest : List ℕ
      rest = chain (cell ws (3 * ce)) (n - 1) (link_at ws ce f)

      split : run ≡ f ∷ rest
      split = sym is ∙ chain_some (cell ws (3 * ce)) n f (omega arith)

      large : (y : ℕ) → In y run → y ≢ NONE
      large y m q = let low = small y m in omega (arith, pre.editable.sized.edges_within)

  -- or an entry
  pub out_some : {b : ℕ} → b ≡ before_in e (chain (cell ws (3 * ce)) n (first_at ws ce cn node)) → b ≢ NONE → Unlinkable ws ce cn counts node b e
  out_some found some_before = record { editable = pre.editable; marked = pre.marked; follows = rw is at found; some_before = some_before }

  -- the words after the stores: first, tail, count and links of the run are those of the run without e
  module _
      (vs : List ℕ)
      (long : length vs ≡ length ws)
      (member-e : In e run)
      (counted : count_at vs ce cn node ≡ n - 1)
      (shorter : (without e run ≡ []) ⊎ Line (cell vs (3 * ce)) 0 counts.edges.bound (first_at vs ce cn node) (tail_at vs ce cn node) (without e run))
      (same : (i : ℕ) → i ≢ head → i ≢ tail → i ≢ count → ((x : ℕ) → In x run → i ≢ 3 * ce + x) → get_or vs i 0 ≡ get_or ws i 0)
    where
      out : TakenOut ws vs ce cn counts node e
      out =
          let e-pre = pre.editable in
          let size = (run_before pre.editable pre.marked).counted in
          let fewer = length_deleted e run (run_once (run_before pre.editable pre.marked)) member-e in
          edited e-pre vs (without e run) long
          (λ q. pre.marked (sym (same (4 * ce + 4 * cn + node) (omega (arith, e-pre.node_below, e-pre.nodes_within))
          (omega (arith, e-pre.node_below, e-pre.nodes_within)) (omega (arith, e-pre.node_below, e-pre.nodes_within)) (λ x m. let low = small x m in omega arith)) ∙ q))
          (record { counted = counted ∙ omega arith; line = shorter })
          (λ x f h ne m k. ne (e-pre.runs.apart x node f h e-pre.node_below k (in_without e f run m)))
          (λ x f h ne k. let low = run_list_below e-pre.runs x f h k in
          same (3 * ce + f) (omega (arith, e-pre.edges_within)) (omega (arith, e-pre.edges_within)) (omega (arith, e-pre.edges_within))
          (λ y m q. let at : f ≡ y = omega arith in ne (e-pre.runs.apart x node f h e-pre.node_below k (rw at m))))
          (λ i h. same i (omega arith) (omega arith) (omega arith) (λ x m. omega arith))
          (λ i l h. same i (omega arith) (omega arith) (omega arith)
          (λ x m. let low = run_list_below e-pre.runs node x e-pre.node_below m in omega arith))
          (λ i h nf nt nc nm. same i nf nt nc (λ x m. let low = small x m in omega arith))
          (inl (same (4 * ce + 4 * cn + node) (omega (arith, e-pre.node_below, e-pre.nodes_within)) (omega (arith, e-pre.node_below, e-pre.nodes_within))
          (omega (arith, e-pre.node_below, e-pre.nodes_within)) (λ x m. let low = small x m in omega arith)))
          (λ f h away. same (3 * ce + f) (omega arith) (omega arith) (omega arith) (λ x m q. let at : f ≡ x = omega arith in away (rw at m)))

  -- the length is stored
  abbrev shortened : List ℕ
  shortened = set ws count (n - 1)

  -- the entry is the first
  pub out_head : n ≢ 0 → first_at ws ce cn node ≡ e
      → TakenOut ws (set shortened head (get_or shortened (3 * ce + first_at ws ce cn node) 0)) ce cn counts node e
  unfolding without
  out_head full q =
      out vs (simp length-set) (subst (λ (z : ℕ). In z run) q (line_first w)) counted shorter
      (λ i nh nt nc nl. other i nh nc)
    where
      f : ℕ
      f = first_at ws ce cn node

      w : Line (cell ws (3 * ce)) 0 counts.edges.bound f (tail_at ws ce cn node) run
      w = line full

      vs : List ℕ
      vs = set shortened head (get_or shortened (3 * ce + f) 0)

      other : (i : ℕ) → i ≢ head → i ≢ count → get_or vs i 0 ≡ get_or ws i 0
      other i nh nc = get_or-set_other shortened head i (get_or shortened (3 * ce + f) 0) 0 nh ∙ get_or-set_other ws count i (n - 1) 0 nc

      counted : count_at vs ce cn node ≡ n - 1
      counted =
          let p = pre.editable in
          get_or-set_other shortened head count (get_or shortened (3 * ce + f) 0) 0 (omega (arith, p.node_below, p.nodes_within))
          ∙ get_or-set_same ws count (n - 1) 0 (omega (arith, p.node_below, p.nodes_within, p.sized.room))

      first_is : first_at vs ce cn node ≡ link_at ws ce f
      first_is =
          let p = pre.editable in
          let low = out_first full in
          get_or-set_same shortened head (get_or shortened (3 * ce + f) 0) 0 (simp length-set (omega (arith, p.node_below, p.nodes_within, p.sized.room)))
          ∙ get_or-set_other ws count (3 * ce + f) (n - 1) 0 (omega arith)

      tail_is : tail_at vs ce cn node ≡ tail_at ws ce cn node
      tail_is = let p = pre.editable in other tail (omega (arith, p.node_below, p.nodes_within)) (omega (arith, p.node_below, p.nodes_within))

      dropped : (rest : List ℕ) → run ≡ f ∷ rest → without e run ≡ rest
      dropped rest is_first =
          let here : run ≡ e ∷ rest = is_first ∙ ap (λ (z : ℕ). z ∷ rest) q in
          ap (without e) here ∙ rw (eq-eqb e e refl) (without_absent e rest (distinct_head e rest (rw here at w.once)))

      shorter : (without e run ≡ [])
          ⊎ Line (cell vs (3 * ce)) 0 counts.edges.bound (first_at vs ce cn node) (tail_at vs ce cn node) (without e run)
      shorter =
          by_test (eqb f (tail_at ws ce cn node))
          (λ t. let alone = line_stop (eqb-true f (tail_at ws ce cn node) t) w in
          inl (rw (alone, sym (eqb-true f (tail_at ws ce cn node) t) ∙ q, eq-eqb e e refl)))
          (λ t. let next = line_step (eqb-false f (tail_at ws ce cn node) t) w in
          inr (rw (dropped next.0 next.1, first_is, tail_is)
          (line_agree (cell vs (3 * ce))
          (λ x m. let low = small x (rw next.1 (member_later x f next.0 m)) in other (3 * ce + x) (omega arith) (omega arith)) next.2)))

-- ---- an entry after another

module _ {ws : List ℕ} {ce cn : ℕ} {counts : Counts} {node b e : ℕ} (pre : Unlinkable ws ce cn counts node b e) where
  cuttable : Cuttable ws ce cn counts node
  cuttable = record { editable = pre.editable; marked = pre.marked }

  -- the run, split at the entry
  split : Split e b (run_list ws ce cn node)
  split = before_split e b (run_list ws ce cn node) pre.follows pre.some_before

  -- both are in the run
  e_in : In e (run_list ws ce cn node)
  e_in = rw split.whole (in_second e split.front (b ∷ (e ∷ split.rest)) (member_later e b (e ∷ split.rest) (member_first e split.rest)))

  b_in : In b (run_list ws ce cn node)
  b_in = rw split.whole (in_second b split.front (b ∷ (e ∷ split.rest)) (member_first b (e ∷ split.rest)))

  pub unlink_entry : e < ce
  unlink_entry = small cuttable e e e_in

  pub unlink_before : b < ce
  unlink_before = small cuttable e b b_in

  -- the run is not empty
  pub unlink_full : count_at ws ce cn node ≢ 0
  unlink_full none = in_none e (rw (run_empty none (run_before pre.editable pre.marked)) at e_in)

  w : Line (cell ws (3 * ce)) 0 counts.edges.bound (first_at ws ce cn node) (tail_at ws ce cn node) (run_list ws ce cn node)
  w = line cuttable e unlink_full

  -- where the words stand
  abbrev tail' : ℕ
  tail' = 4 * ce + 2 * cn + node

  abbrev count' : ℕ
  count' = 4 * ce + 3 * cn + node

  -- the length and the link are stored
  abbrev counted : List ℕ
  counted = set ws count' (count_at ws ce cn node - 1)

  abbrev relinked : List ℕ
  relinked = set counted (3 * ce + b) (get_or counted (3 * ce + e) 0)

  relinked_other : (i : ℕ) → i ≢ 3 * ce + b → i ≢ count' → get_or relinked i 0 ≡ get_or ws i 0
  relinked_other i nb nc =
      get_or-set_other counted (3 * ce + b) i (get_or counted (3 * ce + e) 0) 0 nb ∙ get_or-set_other ws count' i (count_at ws ce cn node - 1) 0 nc

  relinked_count : get_or relinked count' 0 ≡ count_at ws ce cn node - 1
  relinked_count =
      let p = pre.editable in
      get_or-set_other counted (3 * ce + b) count' (get_or counted (3 * ce + e) 0) 0 (omega (arith, unlink_before))
      ∙ get_or-set_same ws count' (count_at ws ce cn node - 1) 0 (omega (arith, p.node_below, p.nodes_within, p.sized.room))

  relinked_link : link_at relinked ce b ≡ link_at ws ce e
  relinked_link =
      let p = pre.editable in
      get_or-set_same counted (3 * ce + b) (get_or counted (3 * ce + e) 0) 0 (simp length-set (omega (arith, unlink_before, p.sized.room)))
      ∙ get_or-set_other ws count' (3 * ce + e) (count_at ws ce cn node - 1) 0 (omega (arith, unlink_entry))

  relinked_links : (x : ℕ) → In x (run_list ws ce cn node) → x ≢ b → link_at relinked ce x ≡ link_at ws ce x
  relinked_links x m ne = let low = small cuttable e x m in relinked_other (3 * ce + x) (omega arith) (omega arith)

  pub relinked_tail : get_or relinked tail' 0 ≡ tail_at ws ce cn node
  relinked_tail =
      let p = pre.editable in
      relinked_other tail' (omega (arith, unlink_before)) (omega (arith, p.node_below, p.nodes_within))

  relinked_first : first_at relinked ce cn node ≡ first_at ws ce cn node
  relinked_first =
      let p = pre.editable in
      relinked_other (4 * ce + cn + node) (omega (arith, unlink_before)) (omega (arith, p.node_below, p.nodes_within))

  -- what is left
  left_is : without e (run_list ws ce cn node) ≡ split.front ++ (b ∷ split.rest)
  left_is = cut_without (cell relinked (3 * ce)) w split.front b e split.rest split.whole relinked_link relinked_links

  -- the entry was not the last
  pub unlink_inner : get_or relinked tail' 0 ≢ e → TakenOut ws relinked ce cn counts node e
  unlink_inner ne =
      out cuttable e relinked (simp length-set) e_in relinked_count
      (inr (rw (left_is, relinked_first, relinked_tail)
      (cut_inner (cell relinked (3 * ce)) w split.front b e split.rest split.whole relinked_link relinked_links (λ q. ne (relinked_tail ∙ q)))))
      (λ i nh nt nc nl. relinked_other i (nl b b_in) nc)

  -- the entry was the last: the one before it is now
  pub unlink_last : get_or relinked tail' 0 ≡ e → TakenOut ws (set relinked tail' b) ce cn counts node e
  unlink_last q =
      out cuttable e vs (simp length-set) e_in (other count' (omega (arith, p.node_below, p.nodes_within)) ∙ relinked_count)
      (inr (rw (left_is, other (4 * ce + cn + node) (omega (arith, p.node_below, p.nodes_within)) ∙ relinked_first, tail_is)
      (cut_last (cell vs (3 * ce)) w split.front b e split.rest split.whole (link b unlink_before ∙ relinked_link)
      (λ x m ne. link x (small cuttable e x m) ∙ relinked_links x m ne) (sym relinked_tail ∙ q))))
      (λ i nh nt nc nl. other i nt ∙ relinked_other i (nl b b_in) nc)
    where
      p : Editable ws ce cn counts node
      p = pre.editable

      vs : List ℕ
      vs = set relinked tail' b

      other : (i : ℕ) → i ≢ tail' → get_or vs i 0 ≡ get_or relinked i 0
      other i ne = get_or-set_other relinked tail' i b 0 ne

      link : (x : ℕ) → x < ce → link_at vs ce x ≡ link_at relinked ce x
      link x h = other (3 * ce + x) (omega arith)

      tail_is : tail_at vs ce cn node ≡ b
      tail_is = get_or-set_same relinked tail' b 0 (simp length-set (omega (arith, p.node_below, p.nodes_within, p.sized.room)))
