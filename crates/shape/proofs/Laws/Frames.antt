-- Which words the definitions of the shape read. Of two lists of words ws and vs, each law asks that they agree at the cells that a definition reads of ws, and
-- gives that its values are equal; and where a rule of the check holds of ws, it holds of vs. A caller shows the cells equal from what it knows of the words
-- by ranges of indices: the column, and `omega` for the place.
-- ---- the base part
use Rattle.std.specs.Prelude.{ℕ, zero, suc, ◌+◌, ◌-◌, ◌*◌, ◌≤◌, ◌<◌, ◌≡◌, refl, true, cond, ◌&&◌, ◌⊎◌, ◌≢◌, List, [], get_or, eqb, ltb, leb}
use Rattle.plain.specs.Library.{sym, ◌∙◌, inl, inr, ⊎_elim, none, arith, ltb-true, leb-true, eq-eqb, ne_eqb, eqb-true, eqb-false}
use Rattle.std.proofs.Common.{le_trans, le_refl}
use Rattle.plain.specs.Numbers.{NONE, LIMIT}
use Rattle.plain.specs.Lists.{from}
use Rattle.plain.proofs.Laws.Booleans.{by_test, and_left, and_right, below_or_not}
use Rattle.plain.proofs.Laws.ListLaws.{member_from, map_same}
use Rattle.shape.specs.Columns.{cell, end_at, adjacency_at, next_at, last_at, first_at, tail_at, count_at, mark_at, offset_at}
use Rattle.shape.specs.Chains.{ring, In, Run, Ring}
use Rattle.shape.specs.Shape.{between, base_of, run_list, run_of, ring_of}
use Rattle.shape.specs.Checked.{Indexed, Index, Rings, Runs}
use Rattle.shape.proofs.Laws.Chains.{in_none, chain_agree, run_below, run_agree, run_wider, until_agree, ring_is, ring_agree, ring_below, ring_wider}
use Rattle.shape.specs.Laws.Frames.{SameRing, SameRun}

-- the entries of a column from a up to b, where two columns agree there
pub between_agree : (f g : ℕ → ℕ) (a b : ℕ) → ((i : ℕ) → a ≤ i → i < b → f i ≡ g i) → between f a b ≡ between g a b
between_agree f g a b agree = map_same f g (from a (b - a)) (λ i m. inside i (sym (member_from i a (b - a)) ∙ m))
  where
    inside : (i : ℕ) → (leb a i && ltb i (a + (b - a))) ≡ true → f i ≡ g i
    inside i both =
        let low = leb-true a i (and_left (leb a i) (ltb i (a + (b - a))) both) in
        let high = ltb-true i (a + (b - a)) (and_right (leb a i) (ltb i (a + (b - a))) both) in
        agree i low (omega arith)

-- the base part reads the node's two offsets and the adjacency between them
pub base_of_agree : (ws vs : List ℕ) (ce cn bn x : ℕ) → (x < bn → offset_at vs ce cn x ≡ offset_at ws ce cn x)
    → (x < bn → offset_at vs ce cn (suc x) ≡ offset_at ws ce cn (suc x))
    → ((i : ℕ) → x < bn → offset_at ws ce cn x ≤ i → i < offset_at ws ce cn (suc x) → adjacency_at vs ce i ≡ adjacency_at ws ce i)
    → base_of vs ce cn bn x ≡ base_of ws ce cn bn x
unfolding base_of
base_of_agree ws vs ce cn bn x start stop entries =
    by_test (ltb x bn) (λ t. let low = ltb-true x bn t in
    rw (t, start low, stop low) (between_agree (cell vs ce) (cell ws ce) (offset_at ws ce cn x) (offset_at ws ce cn (suc x)) (λ i. entries i low)))
    (λ t. rw t)

-- a column that does not descend up to n has its greatest word there
ascending : (f : ℕ → ℕ) (n : ℕ) → ((x : ℕ) → x < n → f x ≤ f (suc x)) → (x : ℕ) → x ≤ n → f x ≤ f n
ascending f zero step x h = let same : x ≡ 0 = omega arith in rw same (le_refl (f 0))
ascending f (suc n) step x h =
    ⊎_elim (λ low. le_trans (ascending f n (λ y k. step y (omega arith)) x (omega arith)) (step n (omega arith)))
    (λ high. let same : x ≡ suc n = omega arith in rw same (le_refl (f (suc n)))) (below_or_not x (suc n))

-- the offsets are at most the number of entries
pub offset_within : {ws : List ℕ} {ce cn bn be : ℕ} → Indexed ws ce cn bn be → (x : ℕ) → x ≤ bn → offset_at ws ce cn x ≤ be
offset_within {ws} {ce} {cn} {bn} ok x h = rw (← ok.stops) (ascending (cell ws (4 * ce + 5 * cn)) bn ok.ascends x h)

module _
    {ws : List ℕ}
    {ce cn bn be : ℕ}
    (vs : List ℕ)
    (base_within : bn ≤ cn)
    (edges_within : be ≤ ce)
    (index : Index ws ce cn bn be)
    (adjacency : (i : ℕ) → ce ≤ i → i < 2 * ce → get_or vs i 0 ≡ get_or ws i 0)
    (offsets : (i : ℕ) → 4 * ce + 5 * cn ≤ i → i < 4 * ce + 6 * cn + 1 → get_or vs i 0 ≡ get_or ws i 0)
  where
    -- the cells of the index are as before
    offset_same : (x : ℕ) → x ≤ bn → offset_at vs ce cn x ≡ offset_at ws ce cn x
    offset_same x h = offsets (4 * ce + 5 * cn + x) (omega arith) (omega arith)

    adjacency_same : (i : ℕ) → i < be → adjacency_at vs ce i ≡ adjacency_at ws ce i
    adjacency_same i h = adjacency (ce + i) (omega arith) (omega arith)

    -- every base part is as before where the columns of the index are
    pub base_kept : (x : ℕ) → base_of vs ce cn bn x ≡ base_of ws ce cn bn x
    base_kept x =
        base_of_agree ws vs ce cn bn x (λ h. offset_same x (omega arith)) (λ h. offset_same (suc x) (omega arith))
        (λ i h low high. ⊎_elim (λ q. absurd (omega (arith, q.0)))
        (λ ok. let few = offset_within ok (suc x) (omega arith) in adjacency_same i (omega arith)) index)

    -- rule 4 stays where the columns of the index are as before
    pub index_kept : Index vs ce cn bn be
    index_kept = ⊎_elim (λ q. inl q) (λ ok. inr (moved ok)) index
      where
        moved : Indexed ws ce cn bn be → Indexed vs ce cn bn be
        moved ok =
            record {
              starts = offset_same 0 (omega arith) ∙ ok.starts;
              ascends = λ x h. rw (offset_same x (omega arith), offset_same (suc x) (omega arith)) (ok.ascends x h);
              stops = offset_same bn (omega arith) ∙ ok.stops;
              entries = λ i h. rw (adjacency_same i h) (ok.entries i h);
            }

-- ---- runs

module _ (ws vs : List ℕ) (ce cn x : ℕ) (same : SameRun ws vs ce cn x) where
  -- the entries of a run
  pub run_list_agree : run_list vs ce cn x ≡ run_list ws ce cn x
  unfolding run_list
  run_list_agree =
      rw same.mark
      (by_test (eqb (mark_at ws ce cn x) 0) (λ t. rw t)
      (λ t. rw (t, same.count, same.first)
      (chain_agree (cell ws (3 * ce)) (cell vs (3 * ce)) (count_at ws ce cn x) (first_at ws ce cn x) (λ e m. same.links e (rw t m)))))

  -- the run, or none
  pub run_of_agree : run_of vs ce cn x ≡ run_of ws ce cn x
  unfolding run_of
  run_of_agree = rw (same.mark, run_list_agree)

-- a node without a mark has no run's entries
pub run_list_unmarked : (ws : List ℕ) (ce cn x : ℕ) → mark_at ws ce cn x ≡ 0 → run_list ws ce cn x ≡ []
unfolding run_list
run_list_unmarked ws ce cn x h = rw (eq-eqb (mark_at ws ce cn x) 0 h)

-- and no run
pub run_of_unmarked : (ws : List ℕ) (ce cn x : ℕ) → mark_at ws ce cn x ≡ 0 → run_of ws ce cn x ≡ none
unfolding run_of
run_of_unmarked ws ce cn x h = rw (eq-eqb (mark_at ws ce cn x) 0 h)

-- each entry of a run is below the bound
pub run_list_below : {ws : List ℕ} {ce cn nb eb : ℕ} → Runs ws ce cn nb eb → (x e : ℕ) → x < nb → In e (run_list ws ce cn x) → e < eb
run_list_below {ws} {ce} {cn} old x e h m =
    by_test (eqb (mark_at ws ce cn x) 0) (λ t. in_none e (rw (run_list_unmarked ws ce cn x (eqb-true (mark_at ws ce cn x) 0 t)) at m))
    (λ t. run_below (old.run x h (eqb-false (mark_at ws ce cn x) 0 t)) e m)

-- rule 6 stays where each node's run is as before, or the node has none; the bounds may have risen
module _
    {ws : List ℕ}
    {ce cn nb eb : ℕ}
    (vs : List ℕ)
    (nb' eb' : ℕ)
    (rise : eb ≤ eb')
    (old : Runs ws ce cn nb eb)
    (each : (x : ℕ) → x < nb' → (mark_at vs ce cn x ≡ 0) ⊎ ((x < nb) × SameRun ws vs ce cn x × (tail_at vs ce cn x ≡ tail_at ws ce cn x)))
  where
    -- a member of a run is one that it was before
    before : (x e : ℕ) → x < nb' → In e (run_list vs ce cn x) → (x < nb) × In e (run_list ws ce cn x)
    before x e h m =
        ⊎_elim (λ q. in_none e (rw (run_list_unmarked vs ce cn x q) at m)) (λ s. (s.0, rw (run_list_agree ws vs ce cn x s.1) at m)) (each x h)

    -- rule 6 of vs
    pub runs_agree : Runs vs ce cn nb' eb'
    runs_agree =
        record {
          run = λ x h some. ⊎_elim (λ q. absurd (some q)) (λ s. moved x s.0 s.1 s.2 some) (each x h);
          apart = λ x y e h k m n.
              let at = before x e h m in
              let there = before y e k n in
              old.apart x y e at.0 there.0 at.1 there.1;
        }
      where
        moved : (x : ℕ) → x < nb → (same : SameRun ws vs ce cn x) → tail_at vs ce cn x ≡ tail_at ws ce cn x → (mark_at vs ce cn x ≡ 0 → ⊥)
            → Run (cell vs (3 * ce)) eb' (first_at vs ce cn x) (tail_at vs ce cn x) (count_at vs ce cn x) (run_list vs ce cn x)
        moved x h same tail some =
            rw (same.first, tail, same.count, run_list_agree ws vs ce cn x same)
            (run_wider rise (run_agree (cell vs (3 * ce)) same.links (old.run x h (λ q. some (same.mark ∙ q)))))

-- every run is as before where the links and the columns of the runs are
module _
    {ws : List ℕ}
    {ce cn nb eb : ℕ}
    (vs : List ℕ)
    (nodes_within : nb ≤ cn)
    (edges_within : eb ≤ ce)
    (old : Runs ws ce cn nb eb)
    (links : (i : ℕ) → 3 * ce ≤ i → i < 4 * ce → get_or vs i 0 ≡ get_or ws i 0)
    (columns : (i : ℕ) → 4 * ce + cn ≤ i → i < 4 * ce + 5 * cn → get_or vs i 0 ≡ get_or ws i 0)
  where
    -- each run is read from the same words
    same_run : (x : ℕ) → x < nb → SameRun ws vs ce cn x
    same_run x h =
        record {
          mark = columns (4 * ce + 4 * cn + x) (omega arith) (omega arith);
          count = columns (4 * ce + 3 * cn + x) (omega arith) (omega arith);
          first = columns (4 * ce + cn + x) (omega arith) (omega arith);
          links = λ e m. let low = run_list_below old x e h m in links (3 * ce + e) (omega arith) (omega arith);
        }

    -- so its entries are as before
    pub run_list_kept : (x : ℕ) → x < nb → run_list vs ce cn x ≡ run_list ws ce cn x
    run_list_kept x h = run_list_agree ws vs ce cn x (same_run x h)

    -- and the run, or that there is none
    pub run_kept : (x : ℕ) → x < nb → run_of vs ce cn x ≡ run_of ws ce cn x
    run_kept x h = run_of_agree ws vs ce cn x (same_run x h)

    -- and rule 6 stays, also under a higher edge bound
    pub runs_kept : (eb' : ℕ) → eb ≤ eb' → Runs vs ce cn nb eb'
    runs_kept eb' rise =
        runs_agree vs nb eb' rise old (λ x h. inr (h, same_run x h, columns (4 * ce + 2 * cn + x) (omega arith) (omega arith)))

-- ---- rings

-- the ring reads the node's last edge, the link of that, and the links of its own entries
pub ring_of_agree : (ws vs : List ℕ) (ce be eb x : ℕ) → last_at vs ce x ≡ last_at ws ce x
    → (last_at ws ce x ≢ NONE → next_at vs ce (last_at ws ce x) ≡ next_at ws ce (last_at ws ce x))
    → ((e : ℕ) → In e (ring_of ws ce be eb x) → next_at vs ce e ≡ next_at ws ce e) → ring_of vs ce be eb x ≡ ring_of ws ce be eb x
unfolding ring_of ring
ring_of_agree ws vs ce be eb x last first next =
    rw last
    (by_test (eqb (last_at ws ce x) NONE) (λ t. rw t)
    (λ t. rw (t, first (eqb-false (last_at ws ce x) NONE t))
    (until_agree (cell ws (2 * ce)) (cell vs (2 * ce)) (last_at ws ce x) (eb - be) (next_at ws ce (last_at ws ce x)) (λ e m. next e (rw t m)))))

-- a node whose last edge is NONE has the empty ring
pub ring_of_none : (ws : List ℕ) (ce be eb x : ℕ) → last_at ws ce x ≡ NONE → ring_of ws ce be eb x ≡ []
unfolding ring_of ring
ring_of_none ws ce be eb x h = rw (eq-eqb (last_at ws ce x) NONE h)

-- rule 5 from lists that are the rings of their nodes
module _
    (ws : List ℕ)
    (ce nb be eb : ℕ)
    (small : eb ≤ LIMIT)
    (lists : ℕ → List ℕ)
    (ring : (x : ℕ) → x < nb → Ring (cell ws (2 * ce)) be eb (last_at ws ce x) (lists x))
    (own : (x e : ℕ) → x < nb → In e (lists x) → end_at ws e ≡ x)
  where
    -- they are what the words give
    pub ring_of_is : (x : ℕ) → x < nb → ring_of ws ce be eb x ≡ lists x
    unfolding ring_of
    ring_of_is x h = ring_is small (ring x h)

    -- rule 5 of them
    pub rings_are : Rings ws ce nb be eb
    rings_are = record { ring = λ x h. rw (ring_of_is x h) (ring x h); own = λ x e h m. own x e h (rw (ring_of_is x h) at m) }

-- one node's ring is now xs, and every other node's is as before; the bounds may have risen
module _
    {ws : List ℕ}
    {ce nb be eb : ℕ}
    (vs : List ℕ)
    (nb' eb' node : ℕ)
    (xs : List ℕ)
    (rise : eb ≤ eb')
    (small : eb' ≤ LIMIT)
    (old : Rings ws ce nb be eb)
    (here : Ring (cell vs (2 * ce)) be eb' (last_at vs ce node) xs)
    (own : (e : ℕ) → In e xs → end_at vs e ≡ node)
    (others : (x : ℕ) → x < nb' → x ≢ node → (x < nb) × SameRing ws vs ce be eb x)
  where
    -- the rings of vs
    lists : ℕ → List ℕ
    lists x = cond (eqb x node) xs (ring_of ws ce be eb x)

    -- each is a ring by the links of vs
    each : (x : ℕ) → x < nb' → Ring (cell vs (2 * ce)) be eb' (last_at vs ce x) (lists x)
    unfolding lists
    each x h =
        by_test (eqb x node) (λ t. rw (t, eqb-true x node t) here)
        (λ t. let kept = others x h (eqb-false x node t) in
        rw (t, kept.1.last) (ring_wider rise (ring_agree (cell vs (2 * ce)) kept.1.next (old.ring x kept.0))))

    -- and its entries end at its node
    owned : (x e : ℕ) → x < nb' → In e (lists x) → end_at vs e ≡ x
    unfolding lists
    owned x e h m =
        by_test (eqb x node) (λ t. own e (rw t at m) ∙ sym (eqb-true x node t))
        (λ t. let kept = others x h (eqb-false x node t) in
        let was : In e (ring_of ws ce be eb x) = rw t at m in
        kept.1.ends e was ∙ old.own x e kept.0 was)

    -- the node's ring
    pub ring_new : node < nb' → ring_of vs ce be eb' node ≡ xs
    unfolding lists
    ring_new h = ring_of_is vs ce nb' be eb' small lists each owned node h ∙ rw (eq-eqb node node refl)

    -- the ring of another node
    pub ring_others : (x : ℕ) → x < nb' → x ≢ node → ring_of vs ce be eb' x ≡ ring_of ws ce be eb x
    unfolding lists
    ring_others x h ne = ring_of_is vs ce nb' be eb' small lists each owned x h ∙ rw (ne_eqb x node ne)

    -- rule 5 of vs
    pub rings_new : Rings vs ce nb' be eb'
    rings_new = rings_are vs ce nb' be eb' small lists each owned

-- every ring is as before where each node's is read from the same words, and rule 5 stays
module _
    {ws : List ℕ}
    {ce nb be eb : ℕ}
    (vs : List ℕ)
    (small : eb ≤ LIMIT)
    (old : Rings ws ce nb be eb)
    (same : (x : ℕ) → x < nb → SameRing ws vs ce be eb x)
  where
    -- each ring is one by the links of vs
    still : (x : ℕ) → x < nb → Ring (cell vs (2 * ce)) be eb (last_at vs ce x) (ring_of ws ce be eb x)
    still x h = rw (same x h).last (ring_agree (cell vs (2 * ce)) (same x h).next (old.ring x h))

    -- and its entries end at its node
    still_own : (x e : ℕ) → x < nb → In e (ring_of ws ce be eb x) → end_at vs e ≡ x
    still_own x e h m = (same x h).ends e m ∙ old.own x e h m

    -- each ring is as before
    pub ring_agrees : (x : ℕ) → x < nb → ring_of vs ce be eb x ≡ ring_of ws ce be eb x
    ring_agrees = ring_of_is vs ce nb be eb small (ring_of ws ce be eb) still still_own

    -- rule 5 of vs
    pub rings_agree : Rings vs ce nb be eb
    rings_agree = rings_are vs ce nb be eb small (ring_of ws ce be eb) still still_own

-- so it is where the ends, the links and the last edges are as before
module _
    {ws : List ℕ}
    {ce nb be eb : ℕ}
    (vs : List ℕ)
    (edges_within : eb ≤ ce)
    (small : ce ≤ LIMIT)
    (old : Rings ws ce nb be eb)
    (ends : (i : ℕ) → i < ce → get_or vs i 0 ≡ get_or ws i 0)
    (links : (i : ℕ) → 2 * ce ≤ i → i < 3 * ce → get_or vs i 0 ≡ get_or ws i 0)
    (lasts : (i : ℕ) → 4 * ce ≤ i → i < 4 * ce + nb → get_or vs i 0 ≡ get_or ws i 0)
  where
    -- each ring is read from the same words
    same_ring : (x : ℕ) → x < nb → SameRing ws vs ce be eb x
    same_ring x h =
        record {
          last = lasts (4 * ce + x) (omega arith) (omega arith);
          next = λ e m. let low = ring_below (old.ring x h) e m in links (2 * ce + e) (omega arith) (omega arith);
          ends = λ e m. let low = ring_below (old.ring x h) e m in ends e (omega arith);
        }

    -- each ring is as before
    pub ring_kept : (x : ℕ) → x < nb → ring_of vs ce be eb x ≡ ring_of ws ce be eb x
    ring_kept = ring_agrees vs (le_trans edges_within small) old same_ring

    -- rule 5 of vs
    pub rings_kept : Rings vs ce nb be eb
    rings_kept = rings_agree vs (le_trans edges_within small) old same_ring
