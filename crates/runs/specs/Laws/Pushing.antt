-- What appending an entry to a run does: the stores of its two ways, and the runs after them; and appending where the entry is live.
use Rattle.std.specs.Prelude.{ℕ, ◌+◌, ◌*◌, ◌≤◌, ◌<◌, ◌≡◌, Bool, true, false, ◌≢◌, List, [], ◌∷◌, ◌++◌, length, get_or, set}
use Rattle.plain.specs.Library.{sym, ◌∙◌, inl, inr, ⊎_elim, append-nil, length-set, length-append, get_or-set_same, get_or-set_other, arith}
use Rattle.std.proofs.Common.{zero-le}
use Rattle.plain.specs.declared.Counts.{Counts}
use Rattle.plain.specs.Lists.{member, keep}
use Rattle.plain.proofs.Laws.Booleans.{refuted}
use Rattle.liveness.specs.Flags.{live_flags}
use Rattle.shape.specs.Columns.{cell, link_at, first_at, tail_at, count_at, mark_at}
use Rattle.shape.specs.Chains.{In, Line, Run}
use Rattle.shape.specs.Shape.{live_in, run_list}
use Rattle.shape.specs.Steps.{live_entries}
use Rattle.shape.proofs.Laws.Chains.{in_snoc, line_one, line_more, line_last, run_short, run_empty, run_line}
use Rattle.shape.proofs.Laws.Frames.{run_list_below}
use Rattle.runs.specs.Runs.{Editable, Grown, Pushable, Keepable}
use Rattle.runs.specs.Laws.Editing.{edited, edited_none}

-- the run of a node with a mark
pub run_before : {ws : List ℕ} {ce cn : ℕ} {counts : Counts} {node : ℕ} → Editable ws ce cn counts node → mark_at ws ce cn node ≢ 0
    → Run (cell ws (3 * ce)) counts.edges.bound (first_at ws ce cn node) (tail_at ws ce cn node) (count_at ws ce cn node) (run_list ws ce cn node)
run_before {node = node} pre marked = pre.runs.run node pre.node_below marked

module _ {ws : List ℕ} {ce cn : ℕ} {counts : Counts} {node e : ℕ} (pre : Pushable ws ce cn counts node e) where
  -- the run, its length and its last entry before
  abbrev run : List ℕ
  run = run_list ws ce cn node

  abbrev n : ℕ
  n = count_at ws ce cn node

  abbrev t : ℕ
  t = tail_at ws ce cn node

  -- where the three words of the node stand
  abbrev first : ℕ
  first = 4 * ce + cn + node

  abbrev tail : ℕ
  tail = 4 * ce + 2 * cn + node

  abbrev count : ℕ
  count = 4 * ce + 3 * cn + node

  -- a run is no longer than there are edges
  pub push_short : n ≤ ce
  push_short = let few = run_short (run_before pre.editable pre.marked) in omega (arith, pre.editable.edges_within)

  -- the last entry of a run that is not empty is an edge
  before : n ≢ 0 → Line (cell ws (3 * ce)) 0 counts.edges.bound (first_at ws ce cn node) t run
  before full = run_line full (run_before pre.editable pre.marked)

  pub push_last : n ≢ 0 → t < ce
  push_last full = let w = before full in let low = w.below t (line_last w) in omega (arith, pre.editable.edges_within)

  -- the new entry is not in the run
  absent : member e run ≡ false
  absent = refuted (member e run) (pre.new node pre.editable.node_below)

  -- the words after the stores: the run has the entry at its end, and no other word than those differs
  module _
      (vs : List ℕ)
      (long : length vs ≡ length ws)
      (counted : count_at vs ce cn node ≡ n + 1)
      (line : Line (cell vs (3 * ce)) 0 counts.edges.bound (first_at vs ce cn node) (tail_at vs ce cn node) (run ++ (e ∷ [])))
      (same : (i : ℕ) → i ≢ first → i ≢ tail → i ≢ count → (n ≢ 0 → i ≢ 3 * ce + t) → get_or vs i 0 ≡ get_or ws i 0)
    where
      -- links of other edges than the last entry
      links : (x : ℕ) → x < ce → (In x run → ⊥) → link_at vs ce x ≡ link_at ws ce x
      links x h out =
          same (3 * ce + x) (omega arith) (omega arith) (omega arith)
          (λ full q. let at : x ≡ t = omega arith in out (rw at (line_last (before full))))

      -- an entry of the longer run is in no other run
      alone : (x f : ℕ) → x < counts.nodes.bound → x ≢ node → In f (run ++ (e ∷ [])) → In f (run_list ws ce cn x) → ⊥
      alone x f h ne m k =
          ⊎_elim (λ old. ne (pre.editable.runs.apart x node f h pre.editable.node_below k old)) (λ q. pre.new x h (rw q at k)) (in_snoc f run e m)

      -- the links of another run
      elsewhere : (x f : ℕ) → x < counts.nodes.bound → x ≢ node → In f (run_list ws ce cn x) → link_at vs ce f ≡ link_at ws ce f
      elsewhere x f h ne k =
          let low = run_list_below pre.editable.runs x f h k in
          links f (omega (arith, pre.editable.edges_within)) (λ m. ne (pre.editable.runs.apart x node f h pre.editable.node_below k m))

      -- so the run has grown
      grown : Grown ws vs ce cn counts node (e ∷ [])
      grown =
          let within = pre.editable.nodes_within in
          let low = pre.editable.node_below in
          let size = (run_before pre.editable pre.marked).counted in
          edited pre.editable vs (run ++ (e ∷ [])) long (λ q. pre.marked (sym (same (4 * ce + 4 * cn + node) (omega arith) (omega arith) (omega arith) linked) ∙ q))
          (record { counted = counted ∙ simp length-append (omega arith); line = inr line }) alone elsewhere
          (λ i h. same i (omega arith) (omega arith) (omega arith) (λ full. omega arith))
          (λ i l h. same i (omega arith) (omega arith) (omega arith) (λ full. let at = (before full).below t (line_last (before full)) in omega arith))
          (λ i h f l c m. same i f l c (λ full. let at = push_last full in omega arith))
          (inl (same (4 * ce + 4 * cn + node) (omega arith) (omega arith) (omega arith) linked)) links
        where
          linked : n ≢ 0 → 4 * ce + 4 * cn + node ≢ 3 * ce + t
          linked full = let at = push_last full in omega arith

  -- the length and the last entry are stored
  abbrev placed : List ℕ
  placed = set (set ws count (n + 1)) tail e

  -- both are in place, and the other words are as before
  placed_count : get_or placed count 0 ≡ n + 1
  placed_count =
      let within = pre.editable.nodes_within in
      let low = pre.editable.node_below in
      get_or-set_other (set ws count (n + 1)) tail count e 0 (omega arith) ∙ get_or-set_same ws count (n + 1) 0 (omega (arith, pre.editable.sized.room))

  placed_tail : get_or placed tail 0 ≡ e
  placed_tail =
      let within = pre.editable.nodes_within in
      let low = pre.editable.node_below in
      get_or-set_same (set ws count (n + 1)) tail e 0 (simp length-set (omega (arith, pre.editable.sized.room)))

  placed_other : (i : ℕ) → i ≢ tail → i ≢ count → get_or placed i 0 ≡ get_or ws i 0
  placed_other i nt nc = get_or-set_other (set ws count (n + 1)) tail i e 0 nt ∙ get_or-set_other ws count i (n + 1) 0 nc

  -- the third store, at a place that is neither
  module _ (at : ℕ) (nt : at ≢ tail) (nc : at ≢ count) (in-room : at < length ws) where
    abbrev vs : List ℕ
    vs = set placed at e

    -- the stored word, and the others
    there : get_or vs at 0 ≡ e
    there = get_or-set_same placed at e 0 (simp length-set in-room)

    other : (i : ℕ) → i ≢ at → get_or vs i 0 ≡ get_or placed i 0
    other i ne = get_or-set_other placed at i e 0 ne

    long : length vs ≡ length ws
    long = simp length-set

    tail_there : get_or vs tail 0 ≡ e
    tail_there = other tail (λ q. nt (sym q)) ∙ placed_tail

    count_there : get_or vs count 0 ≡ n + 1
    count_there = other count (λ q. nc (sym q)) ∙ placed_count

  -- the first entry of a run
  pub push_first : n ≡ 0 → Grown ws (set placed first e) ce cn counts node (e ∷ [])
  push_first none =
      let within = pre.editable.nodes_within in
      let low = pre.editable.node_below in
      let nt : first ≢ tail = omega arith in
      let nc : first ≢ count = omega arith in
      let room : first < length ws = omega (arith, pre.editable.sized.room) in
      let empty = run_empty none (run_before pre.editable pre.marked) in
      grown (vs first nt nc room) (long first nt nc room) (count_there first nt nc room)
      (rw (there first nt nc room, tail_there first nt nc room, empty) (line_one (cell (vs first nt nc room) (3 * ce)) e zero-le pre.edge_below))
      (λ i nf nt' nc' _. other first nt nc room i nf ∙ placed_other i nt' nc')

  -- one more entry of a run
  pub push_more : n ≢ 0 → Grown ws (set placed (3 * ce + t) e) ce cn counts node (e ∷ [])
  push_more full =
      let within = pre.editable.nodes_within in
      let low = pre.editable.node_below in
      let last = push_last full in
      let at = 3 * ce + t in
      let nt : at ≢ tail = omega arith in
      let nc : at ≢ count = omega arith in
      let nf : first ≢ at = omega arith in
      let room : at < length ws = omega (arith, pre.editable.sized.room) in
      let w = before full in
      let first-there : get_or (vs at nt nc room) first 0 ≡ first_at ws ce cn node
      = other at nt nc room first nf ∙ placed_other first (omega arith) (omega arith) in
      grown (vs at nt nc room) (long at nt nc room) (count_there at nt nc room)
      (rw (first-there, tail_there at nt nc room)
      (line_more (cell (vs at nt nc room) (3 * ce)) e zero-le pre.edge_below absent (there at nt nc room)
      (λ x m ne. let h = w.below x m in
      other at nt nc room (3 * ce + x) (omega arith)
      ∙ placed_other (3 * ce + x) (omega (arith, pre.editable.edges_within)) (omega (arith, pre.editable.edges_within))) w))
      (λ i nf' nt' nc' nl. other at nt nc room i (nl full) ∙ placed_other i nt' nc')

-- ---- where the entry is live

module _ {ws : List ℕ} {ce cn : ℕ} {counts : Counts} {node : ℕ} {live : List ℕ} {e : ℕ} (pre : Keepable ws ce cn counts node live e) where
  abbrev flags : List Bool
  flags = live_flags live counts.edges.bound

  -- a live entry can be appended
  pub keep_push : live_in flags e ≡ true → Pushable ws ce cn counts node e
  keep_push alive = record { editable = pre.editable; marked = pre.marked; edge_below = pre.edge_below; new = pre.new alive }

  -- and is what is kept
  pub keep_live : live_in flags e ≡ true → {vs : List ℕ} → Grown ws vs ce cn counts node (e ∷ []) → Grown ws vs ce cn counts node (live_entries flags (e ∷ []))
  unfolding keep
  keep_live alive push = rw alive push

  -- of a dead one nothing is
  pub keep_dead : live_in flags e ≡ false → Grown ws ws ce cn counts node (live_entries flags (e ∷ []))
  unfolding keep
  keep_dead dead =
      rw (dead, append-nil (run_list ws ce cn node)) (edited_none pre.editable pre.marked)
