-- Taking the dead entries out of a run: the run is made to end before the first of them, and the live ones of what came behind are appended again.
use Rattle.std.specs.Prelude.{ℕ, ◌+◌, ◌-◌, ◌*◌, ◌≤◌, ◌<◌, ◌≡◌, refl, Bool, false, ◌≢◌, List, [], ◌∷◌, ◌++◌, length, get_or, set, take, drop}
use Rattle.plain.specs.Library.{sym, ap, ap₂, ◌∙◌, subst, inl, append-nil, append_assoc, length-set, get_or-set_same, get_or-set_other, append_snoc, arith}
use lib.ListN.{take-append-drop}
use Rattle.plain.specs.declared.Counts.{Counts}
use Rattle.plain.specs.Lists.{keep}
use Rattle.plain.proofs.Laws.Booleans.{true_false}
use Rattle.plain.proofs.Laws.ListLaws.{member_first, member_later, distinct_right, distinct_apart}
use Rattle.liveness.specs.Flags.{live_flags}
use Rattle.shape.specs.Columns.{cell, link_at}
use Rattle.shape.specs.Chains.{In, chain}
use Rattle.shape.specs.Shape.{live_in, run_list}
use Rattle.shape.specs.Steps.{live_entries, swept, LiveOnly}
use Rattle.shape.proofs.Laws.Chains.{in_front, in_none, chain_none, chain_some, chain_agree, run_once, run_agree}
use Rattle.shape.proofs.Laws.Frames.{run_list_below}
use Rattle.shape.proofs.Laws.Taking.{keep_append, swept_live, swept_all}
use Rattle.shape.proofs.Laws.Keeping.{in_either, in_keep, in_second}
use Rattle.runs.specs.declared.Front.{Front}
use Rattle.runs.specs.Runs.{Edited, Grown, Keepable, Scanned, Shortenable, Shortened, Appendable, Appended, Sweepable, Swept}
use Rattle.runs.specs.Laws.Editing.{edited, edited_none, edited_again, edited_wider, edited_list, edited_mark, edited_new}
use Rattle.runs.specs.Laws.Pushing.{run_before}

-- what is taken was there
in_take : (n : ℕ) (l : List ℕ) (e : ℕ) → In e (take n l) → In e l
in_take n l e m = subst (λ (k : List ℕ). In e k) (take-append-drop n l) (in_front e (take n l) (drop n l) m)

-- ---- a shorter run

module _ {ws : List ℕ} {ce cn : ℕ} {counts : Counts} {node last n : ℕ} (pre : Shortenable ws ce cn counts node last n) where
  -- where the two words stand
  abbrev tail : ℕ
  tail = 4 * ce + 2 * cn + node

  abbrev count : ℕ
  count = 4 * ce + 3 * cn + node

  -- the words after the two stores
  abbrev cut : List ℕ
  cut = set (set ws tail last) count n

  pub shorten_done : Shortened ws cut ce cn counts node n
  shorten_done =
      let within = pre.editable.nodes_within in
      let low = pre.editable.node_below in
      let room = pre.editable.sized.room in
      let first-there = other (4 * ce + cn + node) (omega arith) (omega arith) in
      let tail_there : get_or cut tail 0 ≡ last
      = get_or-set_other (set ws tail last) count tail n 0 (omega arith) ∙ get_or-set_same ws tail last 0 (omega arith) in
      let count_there : get_or cut count 0 ≡ n = get_or-set_same (set ws tail last) count n 0 (simp length-set (omega arith)) in
      let mark_there = other (4 * ce + 4 * cn + node) (omega arith) (omega arith) in
      edited pre.editable cut (take n (run_list ws ce cn node)) (simp length-set) (λ q. pre.marked (sym mark_there ∙ q))
      (rw (first-there, tail_there, count_there)
      (run_agree (cell cut (3 * ce)) (λ e m. link e (run_list_below pre.editable.runs node e low (in_take n (run_list ws ce cn node) e m))) pre.front))
      (λ x e h ne m k. ne (pre.editable.runs.apart x node e h low k (in_take n (run_list ws ce cn node) e m)))
      (λ x e h ne m. link e (run_list_below pre.editable.runs x e h m)) (λ i h. other i (omega arith) (omega arith)) (λ i l h. other i (omega arith) (omega arith))
      (λ i h f t c m. other i t c) (inl mark_there) (λ e h out. other (3 * ce + e) (omega arith) (omega arith))
    where
      other : (i : ℕ) → i ≢ tail → i ≢ count → get_or cut i 0 ≡ get_or ws i 0
      other i nt nc = get_or-set_other (set ws tail last) count i n 0 nc ∙ get_or-set_other ws tail i last 0 nt

      link : (e : ℕ) → e < counts.edges.bound → link_at cut ce e ≡ link_at ws ce e
      link e h = other (3 * ce + e) (omega (arith, pre.editable.edges_within)) (omega (arith, pre.editable.edges_within))

-- ---- the live edges of a chain, appended

-- `done` is what has been looked at, and `left` entries from p on are to come.
pub record Appending (ws vs : List ℕ) (ce cn : ℕ) (counts : Counts) (node : ℕ) (live : List ℕ) (first n p left : ℕ) : Type 0 where
  pub done : List ℕ
  pub whole : chain (cell ws (3 * ce)) n first ≡ done ++ chain (cell vs (3 * ce)) left p
  pub now : Edited ws vs ce cn counts node (run_list ws ce cn node ++ live_entries (live_flags live counts.edges.bound) done)
      (run_list ws ce cn node ++ chain (cell ws (3 * ce)) n first)
  pub long : length vs ≡ length ws

module _ {ws : List ℕ} {ce cn : ℕ} {counts : Counts} {node : ℕ} {live : List ℕ} {first n : ℕ} (pre : Appendable ws ce cn counts node live first n) where
  abbrev flags : List Bool
  flags = live_flags live counts.edges.bound

  abbrev run : List ℕ
  run = run_list ws ce cn node

  abbrev edges : List ℕ
  edges = chain (cell ws (3 * ce)) n first

  -- nothing has been looked at
  pub append_start : Appending ws ws ce cn counts node live first n first n
  unfolding keep
  append_start =
      record {
        done = [];
        whole = refl;
        now = rw (append-nil run) (edited_none pre.editable pre.marked);
        long = refl;
      }

  -- a turn, of which p is the entry
  module _ {vs : List ℕ} {p left : ℕ} (some_left : 0 < left) (s : Appending ws vs ce cn counts node live first n p left) where
    abbrev rest : List ℕ
    rest = chain (cell vs (3 * ce)) (left - 1) (link_at vs ce p)

    -- the edges, split before p
    split : edges ≡ s.done ++ (p ∷ rest)
    split = s.whole ∙ ap (λ (l : List ℕ). s.done ++ l) (chain_some (cell vs (3 * ce)) left p some_left)

    -- one to come is among them
    coming : (e : ℕ) → In e (p ∷ rest) → In e edges
    coming e m = rw split (in_second e s.done (p ∷ rest) m)

    pub append_below : p < counts.edges.bound
    append_below = pre.below p (coming p (member_first p rest))

    -- and not in the run as it is now
    fresh : (e : ℕ) → In e (p ∷ rest) → In e (run ++ live_entries flags s.done) → ⊥
    fresh e m k =
        in_either e run (live_entries flags s.done) k (pre.new node e pre.editable.node_below (coming e m))
        (λ q. true_false m (distinct_apart s.done (p ∷ rest) (rw split at pre.once) e (in_keep (live_in flags) e s.done q)))

    -- p can be appended
    pub append_keep : Keepable vs ce cn counts node live p
    append_keep =
        let m = member_first p rest in
        record {
          editable = s.now.editable;
          marked = edited_mark s.now;
          edge_below = append_below;
          live_long = pre.live_long;
          new = λ alive. edited_new s.now p (fresh p m) (λ x h ne. pre.new x p h (coming p m));
        }

    -- and then the turn is done
    pub append_more : {us : List ℕ} → length us ≡ length vs → Grown vs us ce cn counts node (live_entries flags (p ∷ []))
        → Appending ws us ce cn counts node live first n (link_at vs ce p) (left - 1)
    append_more {us} len grown =
        record {
          done = s.done ++ (p ∷ []);
          whole =
              split ∙ sym (append_snoc s.done p rest)
              ∙ ap (λ (l : List ℕ). (s.done ++ (p ∷ [])) ++ l) (sym (chain_agree (cell vs (3 * ce)) (cell us (3 * ce)) (left - 1) (link_at vs ce p) links));
          now =
              subst (λ (l : List ℕ). Edited ws us ce cn counts node l (run ++ edges)) more (edited_again s.now (edited_wider kept grown));
          long = len ∙ s.long;
        }
      where
        -- the run afterwards
        more : run_list vs ce cn node ++ live_entries flags (p ∷ []) ≡ run ++ live_entries flags (s.done ++ (p ∷ []))
        more =
            ap (λ (l : List ℕ). l ++ live_entries flags (p ∷ [])) (edited_list s.now)
            ∙ append_assoc run (live_entries flags s.done) (live_entries flags (p ∷ []))
            ∙ ap (λ (l : List ℕ). run ++ l) (sym (keep_append (live_in flags) s.done (p ∷ [])))

        -- what was kept is in the run, or was among the edges
        kept : (e : ℕ) → In e (run_list vs ce cn node) → In e (run ++ edges)
        kept e m =
            in_either e run (live_entries flags s.done) (rw (edited_list s.now) at m) (λ q. in_front e run edges q)
            (λ q. in_second e run edges (rw split (in_front e s.done (p ∷ rest) (in_keep (live_in flags) e s.done q))))

        links : (e : ℕ) → In e rest → link_at us ce e ≡ link_at vs ce e
        links e m =
            let k = member_later e p rest m in
            let low = pre.below e (coming e k) in
            grown.links e (omega (arith, pre.editable.edges_within)) (λ i. fresh e k (rw (edited_list s.now) at i))

  -- at the end all has been looked at
  pub append_end : {vs : List ℕ} {p left : ℕ} → left ≤ 0 → Appending ws vs ce cn counts node live first n p left
      → Appended ws vs ce cn counts node live first n
  append_end {vs} {p} {left} h s =
      let none : left ≡ 0 = omega arith in
      let all : edges ≡ s.done = s.whole ∙ ap (λ (l : List ℕ). s.done ++ l) (chain_none (cell vs (3 * ce)) left p none) ∙ append-nil s.done in
      subst (λ (l : List ℕ). Edited ws vs ce cn counts node (run ++ live_entries flags l) (run ++ edges)) (sym all) s.now

-- ---- sweeping

module _ {ws : List ℕ} {ce cn : ℕ} {counts : Counts} {node : ℕ} {live : List ℕ} {tombstoned : Bool} (pre : Sweepable ws ce cn counts node live tombstoned) where
  abbrev marks : List Bool
  marks = live_flags live counts.edges.bound

  abbrev entries : List ℕ
  entries = run_list ws ce cn node

  -- a swept run holds live edges only
  sweep_run : {vs : List ℕ} → Edited ws vs ce cn counts node (swept marks entries) entries → Swept ws vs ce cn counts node live
  sweep_run done = record { edited = done; live_only = rw (edited_list done) (swept_live marks entries) }

  -- a run of live edges is left
  pub sweep_same : LiveOnly marks entries → Swept ws ws ce cn counts node live
  sweep_same alive = sweep_run (rw (swept_all marks entries alive) (edited_none pre.scannable.editable pre.scannable.marked))

  -- an entry of the run is an edge
  small : (e : ℕ) → In e entries → e < counts.edges.bound
  small e m = run_list_below pre.scannable.editable.runs node e pre.scannable.editable.node_below m

  -- where no edge is removed, nothing is dropped
  pub sweep_none : tombstoned ≡ false → Swept ws ws ce cn counts node live
  sweep_none off = sweep_same (λ e m. pre.all_live off e (small e m))

  module _ {f : Front} (seen : Scanned ws ce cn counts node live f) where
    abbrev front : List ℕ
    front = take f.length entries

    abbrev behind : List ℕ
    behind = drop f.length entries

    -- the run, divided
    divided : entries ≡ front ++ behind
    divided = sym (take-append-drop f.length entries)

    module _ {us : List ℕ} (short : Shortened ws us ce cn counts node f.length) where
      -- what is behind the front is in the run
      later : (e : ℕ) → In e behind → In e entries
      later e m = rw divided (in_second e front behind m)

      -- and in its chain still
      chained : chain (cell us (3 * ce)) f.left f.next ≡ behind
      chained =
          chain_agree (cell ws (3 * ce)) (cell us (3 * ce)) f.left f.next
          (λ e m. short.links e (within e m) (λ k. in_none e k)) ∙ sym seen.rest
        where
          within : (e : ℕ) → In e (chain (cell ws (3 * ce)) f.left f.next) → e < ce
          within e m = let low = small e (later e (rw seen.rest m)) in omega (arith, pre.scannable.editable.edges_within)

      -- its live ones can be appended
      pub sweep_append : Appendable us ce cn counts node live f.next f.left
      sweep_append =
          let once = rw divided at (run_once (run_before pre.scannable.editable pre.scannable.marked)) in
          record {
            editable = short.editable;
            marked = edited_mark short;
            live_long = pre.scannable.live_long;
            below = λ e m. small e (later e (rw chained at m));
            once = rw chained (distinct_right front behind once);
            new = λ x e h m. let there : In e behind = rw chained at m in
                edited_new short e (λ k. true_false there (distinct_apart front behind once e k))
                (λ y l ne k. ne (pre.scannable.editable.runs.apart y node e l pre.scannable.editable.node_below k (later e there))) x h;
          }

      -- and then the run is swept
      pub sweep_done : {vs : List ℕ} → Appended us vs ce cn counts node live f.next f.left → Swept ws vs ce cn counts node live
      sweep_done {vs} more =
          sweep_run (edited_again (edited_wider (λ e m. in_none e m) short)
          (subst (λ (l : List ℕ). Edited us vs ce cn counts node l entries) left (edited_wider written more)))
        where
          left : run_list us ce cn node ++ live_entries marks (chain (cell us (3 * ce)) f.left f.next) ≡ swept marks entries
          left =
              ap₂ (λ (a b : List ℕ). a ++ live_entries marks b) (edited_list short) chained
              ∙ ap (λ (l : List ℕ). l ++ live_entries marks behind) (sym (swept_all marks front seen.live_only))
              ∙ sym (keep_append (live_in marks) front behind) ∙ ap (live_entries marks) (sym divided)

          written : (e : ℕ) → In e (run_list us ce cn node ++ chain (cell us (3 * ce)) f.left f.next) → In e entries
          written e m =
              in_either e (run_list us ce cn node) (chain (cell us (3 * ce)) f.left f.next) m
              (λ k. in_take f.length entries e (rw (edited_list short) at k)) (λ k. later e (rw chained at k))
