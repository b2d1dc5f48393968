-- The loop that copies the live entries of a base part to an empty run, and the start of a run.
use Rattle.std.specs.Prelude.{ℕ, ◌+◌, ◌*◌, ◌≤◌, ◌<◌, ◌≡◌, refl, Bool, true, ◌≢◌, List, [], ◌∷◌, ◌++◌, length, get_or, set}
use Rattle.plain.specs.Library.{sym, ap, ◌∙◌, subst, inl, inr, ⊎_elim, Option, none, some, append-nil, length-set, get_or-set_same, get_or-set_other, append_snoc, arith}
use Rattle.plain.specs.declared.Counts.{Counts}
use Rattle.plain.specs.Lists.{keep}
use Rattle.plain.proofs.Laws.Booleans.{true_false, both_true}
use Rattle.plain.proofs.Laws.ListLaws.{member_first, member_keep, distinct_left, distinct_apart}
use Rattle.shape.specs.Columns.{cell, adjacency_at, mark_at}
use Rattle.shape.specs.Chains.{In}
use Rattle.shape.specs.Shape.{adjacency_in, raw, hiding, live_in, between, base_of, run_list, run_of, ring_of}
use Rattle.shape.specs.Steps.{live_entries, run_or_base, taken}
use Rattle.shape.specs.Checked.{Indexed}
use Rattle.shape.proofs.Laws.Chains.{in_front, in_none}
use Rattle.shape.proofs.Laws.Frames.{run_list_below, run_of_unmarked}
use Rattle.shape.proofs.Laws.NewBase.{base_between, base_range}
use Rattle.shape.proofs.Laws.Walking.{between_none, between_some}
use Rattle.shape.proofs.Laws.Taking.{keep_append, keep_again}
use Rattle.shape.proofs.Laws.Keeping.{in_keep, in_either, in_second}
use Rattle.adjacency.specs.Index.{base_bounds}
use Rattle.adjacency.specs.declared.index.BaseBounds.{BaseBounds}
use Rattle.runs.specs.Runs.{Edited, Grown, Keepable}
use Rattle.runs.specs.Laws.Runs.{run_of_marked}
use Rattle.runs.specs.Laws.Editing.{edited, edited_none, edited_again, edited_wider, edited_list, edited_mark, edited_new, edited_other, edited_ring, edited_rings}
use Rattle.runs.specs.Overlay.{flags_of, Ready, Remade, Copyable, Copied, Started, Drainable, Drained, TakenOver}
use Rattle.runs.specs.Laws.Remaking.{edited_base, edited_index, edited_remade}

-- ---- copying

-- `done` of the base part has been looked at; what is to come stands from `at` up to `end`.
pub record Copying (ws vs : List ℕ) (ce cn : ℕ) (counts : Counts) (live : List ℕ) (node at end : ℕ) : Type 0 where
  pub done : List ℕ
  pub whole : base_of ws ce cn counts.nodes.base node ≡ done ++ between (cell ws ce) at end
  pub now : Edited ws vs ce cn counts node (live_entries (flags_of live counts) done) (base_of ws ce cn counts.nodes.base node)
  pub long : length vs ≡ length ws
  pub within : end ≤ counts.edges.base

module _ {ws : List ℕ} {ce cn : ℕ} {counts : Counts} {live : List ℕ} {node : ℕ} (pre : Copyable ws ce cn counts live node) where
  abbrev flags : List Bool
  flags = flags_of live counts

  abbrev base : List ℕ
  base = base_of ws ce cn counts.nodes.base node

  -- nothing is done yet
  start : Edited ws ws ce cn counts node [] base
  start = subst (λ (l : List ℕ). Edited ws ws ce cn counts node l base) pre.empty (edited_none pre.editable pre.marked)

  pub copy_start : {bounds : BaseBounds} → bounds ≡ base_bounds ws ce cn counts.nodes.base node
      → Copying ws ws ce cn counts live node bounds.start bounds.end
  unfolding base_bounds keep
  copy_start is =
      rw is
      (record {
        done = [];
        whole = base_between ws ce cn counts.nodes.base node;
        now = start;
        long = refl;
        within = (base_range ws ce cn counts.nodes.base pre.index node).1;
      })

  -- a turn
  module _ {vs : List ℕ} {at end : ℕ} (some_left : at < end) (s : Copying ws vs ce cn counts live node at end) where
    abbrev entry : ℕ
    entry = adjacency_at vs ce at

    abbrev rest : List ℕ
    rest = between (cell ws ce) (at + 1) end

    -- there is an index
    indexed : Indexed ws ce cn counts.nodes.base counts.edges.base
    indexed = ⊎_elim (λ q. absurd (omega (arith, q.1, s.within))) (λ ok. ok) pre.index

    -- the adjacency column is as it was
    read : adjacency_at vs ce at ≡ adjacency_at ws ce at
    read = s.now.below (ce + at) (omega (arith, s.within, pre.edges_based, pre.editable.edges_within))

    -- the base part, split before the entry
    split : base ≡ s.done ++ (entry ∷ rest)
    split = s.whole ∙ ap (λ (l : List ℕ). s.done ++ l) (between_some (cell ws ce) at end some_left ∙ ap (λ (z : ℕ). z ∷ rest) (sym read))

    pub copy_below : entry < counts.edges.bound
    copy_below = rw read (let few = indexed.entries at (omega (arith, s.within)) in omega (arith, pre.edges_based))

    -- the entry is in the base part
    here : In entry base
    here = rw split (in_second entry s.done (entry ∷ rest) (member_first entry rest))

    -- a live entry is not among those that were kept
    fresh : live_in flags entry ≡ true → In entry (live_entries flags s.done) → ⊥
    fresh alive k =
        true_false (member_keep (live_in flags) entry (entry ∷ rest) ∙ both_true (member_first entry rest) alive)
        (distinct_apart (live_entries flags s.done) (live_entries flags (entry ∷ rest))
        (rw (split, keep_append (live_in flags) s.done (entry ∷ rest)) at pre.once) entry k)

    pub copy_keep : Keepable vs ce cn counts node live entry
    copy_keep =
        record {
          editable = s.now.editable;
          marked = edited_mark s.now;
          edge_below = copy_below;
          live_long = pre.live_long;
          new = λ alive. edited_new s.now entry (fresh alive) (λ x h ne. pre.alone x entry h ne alive here);
        }

    pub copy_more : {us : List ℕ} → length us ≡ length vs → Grown vs us ce cn counts node (live_entries flags (entry ∷ []))
        → Copying ws us ce cn counts live node (at + 1) end
    copy_more len grown =
        record {
          done = s.done ++ (entry ∷ []);
          whole = split ∙ sym (append_snoc s.done entry rest);
          now = edited_again s.now (rw (keep_append (live_in flags) s.done (entry ∷ []), ← edited_list s.now) (edited_wider kept grown));
          long = len ∙ s.long;
          within = s.within;
        }
      where
        -- what was kept is of the base part
        kept : (e : ℕ) → In e (run_list vs ce cn node) → In e base
        kept e m = rw split (in_front e s.done (entry ∷ rest) (in_keep (live_in flags) e s.done (rw (edited_list s.now) at m)))

  -- at the end all has been looked at
  pub copy_end : {vs : List ℕ} {at end : ℕ} → end ≤ at → Copying ws vs ce cn counts live node at end → Copied ws vs ce cn counts live node
  copy_end {vs} {at} {end} h s =
      let all : base ≡ s.done = s.whole ∙ ap (λ (l : List ℕ). s.done ++ l) (between_none (cell ws ce) at end h) ∙ append-nil s.done in
      subst (λ (l : List ℕ). Edited ws vs ce cn counts node (live_entries flags l) base) (sym all) s.now

-- ---- starting

module _ (flags : List Bool) where
  -- a run that is started walks as the base part did
  started_live : (run : Option (List ℕ)) (base ring : List ℕ) → live_entries flags (run_or_base flags run base ++ ring) ≡ live_entries flags (hiding run base ++ ring)
  started_live none base ring =
      keep_append (live_in flags) (live_entries flags base) ring ∙ ap (λ (l : List ℕ). l ++ live_entries flags ring) (keep_again (live_in flags) base)
      ∙ sym (keep_append (live_in flags) base ring)
  started_live (some run) base ring = refl

  -- and its entries were there
  started_in : (run : Option (List ℕ)) (base ring : List ℕ) (e : ℕ) → In e (run_or_base flags run base ++ ring) → In e (hiding run base ++ ring)
  started_in none base ring e m =
      in_either e (live_entries flags base) ring m (λ k. in_front e base ring (in_keep (live_in flags) e base k)) (in_second e base ring)
  started_in (some run) base ring e m = m

module _ {ws : List ℕ} {ce cn : ℕ} {counts : Counts} {live : List ℕ} {node : ℕ} (pre : Ready ws ce cn counts live node) where
  abbrev signs : List Bool
  signs = flags_of live counts

  -- the base part and the ring before
  abbrev base_before : List ℕ
  base_before = base_of ws ce cn counts.nodes.base node

  abbrev ring_before : List ℕ
  ring_before = ring_of ws ce counts.edges.base counts.edges.bound node

  -- a node with a run keeps it
  pub start_marked : mark_at ws ce cn node ≢ 0 → Started ws ws ce cn counts live node
  start_marked marked =
      rw (ap (λ r. run_or_base signs r base_before) (run_of_marked ws ce cn node marked)) (edited_none pre.editable marked)

  module _ (unmarked : mark_at ws ce cn node ≡ 0) where
    -- where mark and count stand
    abbrev mark : ℕ
    mark = 4 * ce + 4 * cn + node

    abbrev count : ℕ
    count = 4 * ce + 3 * cn + node

    -- the words after the two stores
    abbrev us : List ℕ
    us = set (set ws mark 1) count 0

    other : (i : ℕ) → i ≢ mark → i ≢ count → get_or us i 0 ≡ get_or ws i 0
    other i nm nc = get_or-set_other (set ws mark 1) count i 0 0 nc ∙ get_or-set_other ws mark i 1 0 nm

    mark_set : get_or us mark 0 ≡ 1
    mark_set =
        let e = pre.editable in
        get_or-set_other (set ws mark 1) count mark 0 0 (omega (arith, e.node_below, e.nodes_within))
        ∙ get_or-set_same ws mark 1 0 (omega (arith, e.node_below, e.nodes_within, e.sized.room))

    count_set : get_or us count 0 ≡ 0
    count_set =
        let e = pre.editable in
        get_or-set_same (set ws mark 1) count 0 0 (simp length-set (omega (arith, e.node_below, e.nodes_within, e.sized.room)))

    -- the node has the empty run
    opened : Edited ws us ce cn counts node [] (raw (adjacency_in ws ce cn counts node))
    opened =
        let e = pre.editable in
        edited e us [] (simp length-set) (λ q. let z : 1 ≡ 0 = sym mark_set ∙ q in omega arith) (record { counted = count_set; line = inl refl })
        (λ x f h ne m k. in_none f m)
        (λ x f h ne m. let low = run_list_below e.runs x f h m in
        other (3 * ce + f) (omega (arith, e.edges_within)) (omega (arith, e.edges_within)))
        (λ i h. other i (omega arith) (omega arith)) (λ i l h. other i (omega arith) (omega arith)) (λ i h f t c m. other i m c) (inr (unmarked, mark_set))
        (λ f h out. other (3 * ce + f) (omega arith) (omega arith))

    -- the base part is as before
    same_base : base_of us ce cn counts.nodes.base node ≡ base_before
    same_base = edited_base opened pre.nodes_based pre.edges_based pre.index node

    -- what the node reads is its base part and its ring
    based : raw (adjacency_in ws ce cn counts node) ≡ base_before ++ ring_before
    based = ap (λ r. hiding r base_before ++ ring_before) (run_of_unmarked ws ce cn node unmarked)

    pub start_copy : Copyable us ce cn counts live node
    start_copy =
        record {
          editable = opened.editable;
          index = edited_index opened pre.nodes_based pre.edges_based pre.index;
          nodes_based = pre.nodes_based;
          edges_based = pre.edges_based;
          live_long = pre.live_long;
          marked = edited_mark opened;
          empty = edited_list opened;
          once =
              rw same_base
              (distinct_left (live_entries signs base_before) (live_entries signs ring_before)
              (rw (based, keep_append (live_in signs) base_before ring_before) at pre.once));
          alone = λ x e h ne alive m k.
              pre.alone x e h ne alive (rw based (in_front e base_before ring_before (rw same_base at m))) (rw (edited_other opened x h ne) at k);
        }

    pub start_end : {vs : List ℕ} → Copied us vs ce cn counts live node → Started ws vs ce cn counts live node
    start_end copied =
        rw (ap (λ r. run_or_base signs r base_before) (run_of_unmarked ws ce cn node unmarked))
        (edited_again opened (edited_wider (λ e m. rw based (in_front e base_before ring_before m)) (rw same_base at copied)))

  -- ---- taking over

  module _ {us : List ℕ} (started : Started ws us ce cn counts live node) where
    -- the run that was started
    abbrev first : List ℕ
    first = run_or_base signs (run_of ws ce cn node) base_before

    -- the ring is as before
    same_ring : ring_of us ce counts.edges.base counts.edges.bound node ≡ ring_before
    same_ring = edited_ring started counts.edges.base pre.rings node pre.editable.node_below

    -- what the node reads now
    now_raw : raw (adjacency_in us ce cn counts node) ≡ first ++ ring_before
    now_raw =
        ap (λ r. hiding r (base_of us ce cn counts.nodes.base node) ++ ring_of us ce counts.edges.base counts.edges.bound node) started.here
        ∙ ap (λ (l : List ℕ). first ++ l) same_ring

    pub take_drain : Drainable us ce cn counts live node
    take_drain =
        record {
          ready =
              record {
                editable = started.editable;
                rings = edited_rings started counts.edges.base pre.rings;
                index = edited_index started pre.nodes_based pre.edges_based pre.index;
                nodes_based = pre.nodes_based;
                edges_based = pre.edges_based;
                live_long = pre.live_long;
                once = rw (now_raw, started_live signs (run_of ws ce cn node) base_before ring_before) pre.once;
                alone = λ x e h ne alive m k.
                    pre.alone x e h ne alive (started_in signs (run_of ws ce cn node) base_before ring_before e (rw now_raw at m))
                    (rw (edited_other started x h ne) at k);
              };
          marked = edited_mark started;
        }

    pub take_end : {vs : List ℕ} → Drained us vs ce cn counts live node → TakenOver ws vs ce cn counts live node
    unfolding taken
    take_end {vs} drained =
        edited_remade pre (λ e m. m) (λ e m. started_in signs (run_of ws ce cn node) base_before ring_before e (rw now_raw at m)) started
        (subst (λ (l : List ℕ). Remade us vs ce cn counts node l)
        (ap (λ (l : List ℕ). l ++ live_entries signs (ring_of us ce counts.edges.base counts.edges.bound node)) (edited_list started)
        ∙ ap (λ (l : List ℕ). first ++ live_entries signs l) same_ring) drained)
