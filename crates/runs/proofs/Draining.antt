-- The loop that moves a ring to the end of a run, and what is left when the ring is forgotten.
use Rattle.std.specs.Prelude.{ℕ, suc, ◌+◌, ◌*◌, ◌≤◌, ◌<◌, ◌≡◌, refl, Bool, true, ◌≢◌, List, [], ◌∷◌, ◌++◌, length, get_or}
use Rattle.plain.specs.Library.{sym, ap, ◌∙◌, subst, inl, ⊎_elim, append-nil, append_assoc, length-append, append_snoc, arith}
use native.Mathlib.Nat.{le_trans, le_refl}
use Rattle.plain.specs.declared.Counts.{Counts}
use Rattle.plain.specs.Numbers.{NONE}
use Rattle.plain.specs.Lists.{member, distinct, keep}
use Rattle.plain.proofs.Laws.Booleans.{true_false, both_true, refuted}
use Rattle.plain.proofs.Laws.ListLaws.{member_first, member_keep, distinct_apart}
use Rattle.shape.specs.Columns.{cell, next_at, last_at}
use Rattle.shape.specs.Chains.{In, Line, until}
use Rattle.shape.specs.Shape.{adjacency_in, raw, hiding, live_in, run_list, run_of, ring_of, base_of}
use Rattle.shape.specs.Steps.{live_entries}
use Rattle.shape.proofs.Laws.Chains.{in_front, in_none, line_stop, line_step, line_first, line_short, ring_once, until_is}
use Rattle.shape.proofs.Laws.Frames.{base_kept, index_kept, run_kept, runs_kept, ring_of_none}
use Rattle.shape.specs.Checked.{Rings, Index}
use Rattle.shape.specs.Kept.{AxisKept, axis_kept_again}
use Rattle.shape.proofs.Laws.Taking.{keep_append}
use Rattle.shape.proofs.Laws.Keeping.{in_keep, in_either, in_second}
use Rattle.adjacency.specs.declared.rings.RingEnds.{RingEnds}
use Rattle.adjacency.specs.Rings.{EndsReadable, ring_ends, Detached}
use Rattle.adjacency.specs.Laws.Rings.{ends_readable, ends_ring}
use Rattle.runs.specs.Runs.{Edited, Grown, Keepable}
use Rattle.runs.specs.Laws.Runs.{run_of_marked}
use Rattle.runs.specs.Laws.Editing.{edited_none, edited_again, edited_wider, edited_list, edited_mark, edited_new, edited_rings, edited_kept, edited_writes}
use Rattle.runs.specs.Overlay.{flags_of, Ready, Remade, Drainable, Drained}
use Rattle.runs.specs.Laws.Remaking.{node_same, edited_base, edited_index, edited_node, remade_run}

-- a line is what the function reads of it
line_until : {link : ℕ → ℕ} {lo hi f t : ℕ} {xs : List ℕ} (n : ℕ) → length xs ≤ n → Line link lo hi f t xs → until link t n f ≡ xs
line_until {link} {t = t} n few w =
    let once : distinct (w.front ++ (t ∷ [])) ≡ true = rw w.ends at w.once in
    let room : length w.front < n = omega (arith, simp length-append at (ap length w.ends)) in
    until_is link t n _ w.front w.visits
    (refuted (member t w.front) (λ m. true_false (member_first t []) (distinct_apart w.front (t ∷ []) once t m))) room
    ∙ sym w.ends

-- `done` of the ring has been looked at; what is to come is visited from p to the last entry.
pub record Draining (ws vs : List ℕ) (ce cn : ℕ) (counts : Counts) (live : List ℕ) (node last p : ℕ) : Type 0 where
  pub done : List ℕ
  pub rest : List ℕ
  pub whole : ring_of ws ce counts.edges.base counts.edges.bound node ≡ done ++ rest
  pub line : Line (cell ws (2 * ce)) counts.edges.base counts.edges.bound p last rest
  pub now : Edited ws vs ce cn counts node (run_list ws ce cn node ++ live_entries (flags_of live counts) done) (raw (adjacency_in ws ce cn counts node))
  pub long : length vs ≡ length ws

-- what is to come
pub to_come : List ℕ → ℕ → Counts → ℕ → ℕ → List ℕ
to_come ws ce counts last p = until (cell ws (2 * ce)) last counts.edges.bound p

-- an edit, and then the ring is forgotten
module _
    {ws us vs : List ℕ}
    {ce cn : ℕ}
    {counts : Counts}
    {live : List ℕ}
    {node : ℕ}
    {ys : List ℕ}
    (pre : Ready ws ce cn counts live node)
    (done : Edited ws us ce cn counts node ys (raw (adjacency_in ws ce cn counts node)))
    (long : length vs ≡ length us)
    (gone : Detached us vs ce node)
  where
    -- the rings before
    rings : Rings us ce counts.nodes.bound counts.edges.base counts.edges.bound
    rings = edited_rings done counts.edges.base pre.rings

    -- the words of base parts and runs are as before
    index : Index us ce cn counts.nodes.base counts.edges.base
    index = edited_index done pre.nodes_based pre.edges_based pre.index

    adjacency : (i : ℕ) → ce ≤ i → i < 2 * ce → get_or vs i 0 ≡ get_or us i 0
    adjacency i l h = gone.kept i (omega arith)

    offsets : (i : ℕ) → 4 * ce + 5 * cn ≤ i → i < 4 * ce + 6 * cn + 1 → get_or vs i 0 ≡ get_or us i 0
    offsets i l h = gone.kept i (omega (arith, pre.editable.node_below, pre.editable.nodes_within))

    links : (i : ℕ) → 3 * ce ≤ i → i < 4 * ce → get_or vs i 0 ≡ get_or us i 0
    links i l h = gone.kept i (omega arith)

    columns : (i : ℕ) → 4 * ce + cn ≤ i → i < 4 * ce + 5 * cn → get_or vs i 0 ≡ get_or us i 0
    columns i l h = gone.kept i (omega (arith, pre.editable.node_below, pre.editable.nodes_within))

    -- so are base parts and runs
    base : (x : ℕ) → base_of vs ce cn counts.nodes.base x ≡ base_of us ce cn counts.nodes.base x
    base =
        base_kept vs (le_trans pre.nodes_based pre.editable.nodes_within) (le_trans pre.edges_based pre.editable.edges_within) index adjacency
        offsets

    run_same : (x : ℕ) → x < counts.nodes.bound → run_of vs ce cn x ≡ run_of us ce cn x
    run_same = run_kept vs pre.editable.nodes_within pre.editable.edges_within done.editable.runs links columns

    -- of the words that no operation writes none is
    detached_kept : AxisKept us vs ce cn counts.nodes.bound counts.nodes.bound counts.edges.bound
    detached_kept =
        let low = pre.editable.node_below in
        let within = pre.editable.nodes_within in
        let few = pre.editable.edges_within in
        record {
          ends = λ i l h. gone.kept i (omega arith);
          adjacency = λ i l h. gone.kept i (omega arith);
          next = λ i l h. gone.kept i (omega arith);
          links = λ i l h. gone.kept i (omega arith);
          last = λ i l h. gone.kept i (omega arith);
          first = λ i l h. gone.kept i (omega arith);
          tail = λ i l h. gone.kept i (omega arith);
          count = λ i l h. gone.kept i (omega arith);
          mark = λ i l h. gone.kept i (omega arith);
          marks = λ i l h. inl (gone.kept i (omega arith));
          new_marks = λ i l h. absurd (omega arith);
          offsets = λ i l. gone.kept i (omega arith);
        }

    -- the node is remade
    pub detached_remade : Remade ws vs ce cn counts node ys
    detached_remade =
        let e = done.editable in
        record {
          here =
              node_same (base node ∙ edited_base done pre.nodes_based pre.edges_based pre.index node) (run_same node e.node_below ∙ done.here)
              (gone.here counts.edges.base counts.edges.bound);
          others = λ x h ne.
              node_same (base x) (run_same x h)
              (gone.others counts.nodes.bound counts.edges.base counts.edges.bound x e.edges_within rings h ne)
              ∙ edited_node done pre.nodes_based pre.edges_based pre.index pre.rings x h ne;
          editable =
              record {
                sized = record { edges_within = e.sized.edges_within; nodes_within = e.sized.nodes_within; room = rw long e.sized.room };
                runs = runs_kept vs e.nodes_within e.edges_within e.runs links columns counts.edges.bound (le_refl counts.edges.bound);
                node_below = e.node_below;
                nodes_within = e.nodes_within;
                edges_within = e.edges_within;
              };
          rings = gone.rings counts.nodes.bound counts.edges.base counts.edges.bound e.edges_within rings;
          index =
              index_kept vs (le_trans pre.nodes_based e.nodes_within) (le_trans pre.edges_based e.edges_within) index adjacency offsets;
          below = λ i h. gone.kept i (omega arith) ∙ done.below i h;
          frame = axis_kept_again (edited_kept done) detached_kept;
          writes = λ i l o. gone.kept i (λ q. o (inl q)) ∙ edited_writes done i l o;
        }

module _ {ws : List ℕ} {ce cn : ℕ} {counts : Counts} {live : List ℕ} {node : ℕ} (pre : Drainable ws ce cn counts live node) where
  abbrev flags : List Bool
  flags = flags_of live counts

  abbrev ring : List ℕ
  ring = ring_of ws ce counts.edges.base counts.edges.bound node

  abbrev run : List ℕ
  run = run_list ws ce cn node

  -- the node's adjacency is its run and its ring
  all_raw : raw (adjacency_in ws ce cn counts node) ≡ run ++ ring
  all_raw = ap (λ r. hiding r (base_of ws ce cn counts.nodes.base node) ++ ring) (run_of_marked ws ce cn node pre.marked)

  -- the ends of the ring can be read
  pub drain_readable : EndsReadable ws ce node
  drain_readable =
      let e = pre.ready.editable in
      ends_readable e.edges_within pre.ready.rings node e.node_below e.sized e.nodes_within

  -- no entry is twice in the ring
  once : distinct ring ≡ true
  once = ring_once (pre.ready.rings.ring node pre.ready.editable.node_below)

  -- a live entry of the ring is in no run
  unused : (e : ℕ) → In e ring → live_in flags e ≡ true → (x : ℕ) → x < counts.nodes.bound → x ≢ node → In e (run_list ws ce cn x) → ⊥
  unused e m alive x h ne k = pre.ready.alone x e h ne alive (rw all_raw (in_second e run ring m)) k

  -- nor in the node's own
  unused_here : (e : ℕ) → In e ring → live_in flags e ≡ true → In e run → ⊥
  unused_here e m alive k =
      true_false (live_member ring m)
      (distinct_apart (live_entries flags run) (live_entries flags ring)
      (rw (all_raw, keep_append (live_in flags) run ring) at pre.ready.once) e (live_member run k))
    where
      live_member : (l : List ℕ) → In e l → In e (live_entries flags l)
      live_member l i = member_keep (live_in flags) e l ∙ both_true i alive

  -- an empty ring
  pub drain_none : last_at ws ce node ≡ NONE → Drained ws ws ce cn counts live node
  unfolding keep
  drain_none none =
      let empty : ring ≡ [] = ring_of_none ws ce counts.edges.base counts.edges.bound node none in
      remade_run {own = []} pre.ready.nodes_based pre.ready.edges_based pre.ready.index pre.ready.rings empty (λ e m. in_none e m)
      (rw (empty, append-nil run) (edited_none pre.ready.editable pre.marked))

  -- a ring with a last entry
  pub drain_start : {r : RingEnds} → r ≡ ring_ends ws ce node → last_at ws ce node ≢ NONE → Draining ws ws ce cn counts live node r.last r.first
  unfolding keep ring_ends
  drain_start {r} is some-last =
      let e = pre.ready.editable in
      record {
        done = [];
        rest = ring;
        whole = refl;
        line =
            ⊎_elim (λ q. absurd (some-last q.1))
            (λ w. subst (λ (z : RingEnds). Line (cell ws (2 * ce)) counts.edges.base counts.edges.bound z.first z.last ring) (sym is) w)
            (ends_ring e.edges_within pre.ready.rings node e.node_below e.sized.edges_within);
        now = rw (append-nil run) (edited_none e pre.marked);
        long = refl;
      }

  -- a turn, of which p is the entry
  module _ {vs : List ℕ} {last p : ℕ} (s : Draining ws vs ce cn counts live node last p) where
    -- p is in the ring
    here : In p ring
    here = rw s.whole (in_second p s.done s.rest (line_first s.line))

    pub drain_below : p < counts.edges.bound
    drain_below = s.line.below p (line_first s.line)

    -- p is not among the entries that have been taken
    fresh : live_in flags p ≡ true → In p (run ++ live_entries flags s.done) → ⊥
    fresh alive m =
        in_either p run (live_entries flags s.done) m (unused_here p here alive)
        (λ k. true_false (line_first s.line)
        (distinct_apart s.done s.rest (rw s.whole at once) p (in_keep (live_in flags) p s.done k)))

    -- p can be appended
    pub drain_keep : Keepable vs ce cn counts node live p
    drain_keep =
        record {
          editable = s.now.editable;
          marked = edited_mark s.now;
          edge_below = drain_below;
          live_long = pre.ready.live_long;
          new = λ alive. edited_new s.now p (fresh alive) (unused p here alive);
        }

    -- the run with p at its end where p is live
    taken : {us : List ℕ} → Grown vs us ce cn counts node (live_entries flags (p ∷ []))
        → Edited ws us ce cn counts node (run ++ live_entries flags (s.done ++ (p ∷ []))) (raw (adjacency_in ws ce cn counts node))
    taken grown =
        edited_again s.now
        (rw (keep_append (live_in flags) s.done (p ∷ []), ← append_assoc run (live_entries flags s.done) (live_entries flags (p ∷ [])), ← edited_list s.now)
        (edited_wider within grown))
      where
        -- what the run has is of the node's adjacency
        within : (e : ℕ) → In e (run_list vs ce cn node) → In e (raw (adjacency_in ws ce cn counts node))
        within e m =
            rw all_raw
            (in_either e run (live_entries flags s.done) (rw (edited_list s.now) at m) (in_front e run ring)
            (λ k. in_second e run ring (rw s.whole (in_front e s.done s.rest (in_keep (live_in flags) e s.done k)))))

    -- the ring link of p is as it was
    pub drain_link : next_at vs ce p ≡ next_at ws ce p
    drain_link = let low = drain_below in s.now.below (2 * ce + p) (omega (arith, pre.ready.editable.edges_within))

    -- p is not the last entry: the turn is done
    pub drain_more : {us : List ℕ} → p ≢ last → length us ≡ length vs → Grown vs us ce cn counts node (live_entries flags (p ∷ []))
        → Draining ws us ce cn counts live node last (next_at vs ce p)
    drain_more {us} ne len grown =
        let next = line_step ne s.line in
        record {
          done = s.done ++ (p ∷ []);
          rest = next.0;
          whole = s.whole ∙ ap (λ (l : List ℕ). s.done ++ l) next.1 ∙ sym (append_snoc s.done p next.0);
          line = rw drain_link next.2;
          now = taken grown;
          long = len ∙ s.long;
        }

    -- and less is to come
    pub drain_less : p ≢ last → length (to_come ws ce counts last (next_at vs ce p)) < length (to_come ws ce counts last p)
    unfolding to_come
    drain_less ne =
        let next = line_step ne s.line in
        let few = line_short s.line in
        let size : length s.rest ≡ suc (length next.0) = ap length next.1 in
        rw (drain_link, line_until counts.edges.bound (omega arith) s.line, line_until counts.edges.bound (omega arith) next.2) (omega arith)

    -- p is the last entry: the whole ring is taken, and is forgotten
    pub drain_last : {us zs : List ℕ} → p ≡ last → length us ≡ length vs → Grown vs us ce cn counts node (live_entries flags (p ∷ []))
        → length zs ≡ length us → Detached us zs ce node → Drained ws zs ce cn counts live node
    drain_last {us} {zs} q len grown same gone =
        let end : s.rest ≡ p ∷ [] = line_stop q s.line ∙ ap (λ (z : ℕ). z ∷ []) (sym q) in
        let all : ring ≡ s.done ++ (p ∷ []) = s.whole ∙ ap (λ (l : List ℕ). s.done ++ l) end in
        detached_remade pre.ready
        (subst (λ (l : List ℕ). Edited ws us ce cn counts node (run ++ live_entries flags l) (raw (adjacency_in ws ce cn counts node))) (sym all) (taken grown)) same gone
