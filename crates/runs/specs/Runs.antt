-- What the functions that edit one node's run ask and promise, of the words of an axis at entry, `ws`, and at exit, `vs`. All of them promise an `Edited`: which
-- run the node has now, and that everything else is as before.
use Rattle.std.specs.Prelude.{ℕ, ◌+◌, ◌*◌, ◌≤◌, ◌<◌, ◌≡◌, Bool, true, false, cond, ◌≢◌, List, [], ◌∷◌, ◌++◌, length, get_or, take, drop, eqb, Option, MatchOption}
use Rattle.plain.specs.Library.{some}
use Rattle.plain.specs.declared.Counts.{Counts}
use Rattle.plain.specs.Numbers.{NONE, LIMIT}
use Rattle.plain.specs.Lists.{distinct, without}
use Rattle.liveness.specs.Flags.{live_flags}
use Rattle.shape.specs.Columns.{Sized, cell, link_at, first_at, mark_at}
use Rattle.shape.specs.Chains.{In, Run, chain}
use Rattle.shape.specs.Shape.{live_in, run_list, run_of}
use Rattle.shape.specs.Steps.{live_entries, swept, LiveOnly}
use Rattle.shape.specs.Checked.{Runs}
use Rattle.shape.specs.Kept.{Mark}
use Rattle.runs.specs.declared.Front.{Front}

-- What it takes to edit the run of a node.
pub record Editable (ws : List ℕ) (ce cn : ℕ) (counts : Counts) (node : ℕ) : Type 0 where
  pub sized : Sized ws ce cn
  pub runs : Runs ws ce cn counts.nodes.bound counts.edges.bound
  pub node_below : node < counts.nodes.bound
  pub nodes_within : counts.nodes.bound ≤ cn
  pub edges_within : counts.edges.bound ≤ ce

-- The node's run is now ys; only run links of the edges `own` are written.
pub record Edited (ws vs : List ℕ) (ce cn : ℕ) (counts : Counts) (node : ℕ) (ys own : List ℕ) : Type 0 where
  pub here : run_of vs ce cn node ≡ some ys
  pub others : (x : ℕ) → x < counts.nodes.bound → x ≢ node → run_of vs ce cn x ≡ run_of ws ce cn x
  pub editable : Editable vs ce cn counts node
  -- ends, adjacency and ring links are as before
  pub below : (i : ℕ) → i < 3 * ce → get_or vs i 0 ≡ get_or ws i 0
  -- so are the run links of other edges
  pub links : (e : ℕ) → e < ce → (In e own → ⊥) → link_at vs ce e ≡ link_at ws ce e
  -- and those past the bound
  pub past : (i : ℕ) → 3 * ce + counts.edges.bound ≤ i → i < 4 * ce → get_or vs i 0 ≡ get_or ws i 0
  -- and everything past the run links but first, tail, count and mark of the node
  pub above : (i : ℕ) → 4 * ce ≤ i → i ≢ 4 * ce + cn + node → i ≢ 4 * ce + 2 * cn + node → i ≢ 4 * ce + 3 * cn + node → i ≢ 4 * ce + 4 * cn + node
      → get_or vs i 0 ≡ get_or ws i 0
  -- the mark is as before, or 1 where it was 0
  pub mark : Mark (mark_at ws ce cn node) (mark_at vs ce cn node)

-- More entries stand at the end of the node's run; only links of its entries are written.
abbrev pub Grown : (ws vs : List ℕ) (ce cn : ℕ) (counts : Counts) (node : ℕ) (more : List ℕ) → Type 0
Grown ws vs ce cn counts node more = Edited ws vs ce cn counts node (run_list ws ce cn node ++ more) (run_list ws ce cn node)

-- What it takes to append an entry to the run of a node: it has one, and the entry is an edge that is in no run.
pub record Pushable (ws : List ℕ) (ce cn : ℕ) (counts : Counts) (node e : ℕ) : Type 0 where
  pub editable : Editable ws ce cn counts node
  pub marked : mark_at ws ce cn node ≢ 0
  pub edge_below : e < counts.edges.bound
  pub new : (x : ℕ) → x < counts.nodes.bound → In e (run_list ws ce cn x) → ⊥

-- What it takes to append an entry where it is live: only then it has to be in no run.
pub record Keepable (ws : List ℕ) (ce cn : ℕ) (counts : Counts) (node : ℕ) (live : List ℕ) (e : ℕ) : Type 0 where
  pub editable : Editable ws ce cn counts node
  pub marked : mark_at ws ce cn node ≢ 0
  pub edge_below : e < counts.edges.bound
  pub live_long : counts.edges.bound ≤ 64 * length live
  pub new : live_in (live_flags live counts.edges.bound) e ≡ true → (x : ℕ) → x < counts.nodes.bound → In e (run_list ws ce cn x) → ⊥

-- What it takes to look for a dead entry in the run of a node.
pub record Scannable (ws : List ℕ) (ce cn : ℕ) (counts : Counts) (node : ℕ) (live : List ℕ) : Type 0 where
  pub editable : Editable ws ce cn counts node
  pub marked : mark_at ws ce cn node ≢ 0
  pub live_long : counts.edges.bound ≤ 64 * length live

-- The run is divided: its front is a run of live entries by itself, and the chain from `next` on is the rest.
pub record Scanned (ws : List ℕ) (ce cn : ℕ) (counts : Counts) (node : ℕ) (live : List ℕ) (f : Front) : Type 0 where
  pub front : Run (cell ws (3 * ce)) counts.edges.bound (first_at ws ce cn node) f.last f.length (take f.length (run_list ws ce cn node))
  pub live_only : LiveOnly (live_flags live counts.edges.bound) (take f.length (run_list ws ce cn node))
  pub rest : drop f.length (run_list ws ce cn node) ≡ chain (cell ws (3 * ce)) f.left f.next

-- Where no entry is dead there is nothing to divide.
abbrev pub Divided : List ℕ → ℕ → ℕ → Counts → ℕ → List ℕ → Option Front → Type 0
Divided ws ce cn counts node live found =
    MatchOption found (LiveOnly (live_flags live counts.edges.bound) (run_list ws ce cn node)) (λ f. Scanned ws ce cn counts node live f)

-- What it takes to make the run of a node end after its first n entries: these are a run by themselves.
pub record Shortenable (ws : List ℕ) (ce cn : ℕ) (counts : Counts) (node last n : ℕ) : Type 0 where
  pub editable : Editable ws ce cn counts node
  pub marked : mark_at ws ce cn node ≢ 0
  pub front : Run (cell ws (3 * ce)) counts.edges.bound (first_at ws ce cn node) last n (take n (run_list ws ce cn node))

-- The first n entries of the run are left, and no link is written.
abbrev pub Shortened : (ws vs : List ℕ) (ce cn : ℕ) (counts : Counts) (node n : ℕ) → Type 0
Shortened ws vs ce cn counts node n = Edited ws vs ce cn counts node (take n (run_list ws ce cn node)) []

-- What it takes to append the live ones of n edges that are chained from `first` on: they are different, and in no run.
pub record Appendable (ws : List ℕ) (ce cn : ℕ) (counts : Counts) (node : ℕ) (live : List ℕ) (first n : ℕ) : Type 0 where
  pub editable : Editable ws ce cn counts node
  pub marked : mark_at ws ce cn node ≢ 0
  pub live_long : counts.edges.bound ≤ 64 * length live
  pub below : (e : ℕ) → In e (chain (cell ws (3 * ce)) n first) → e < counts.edges.bound
  pub once : distinct (chain (cell ws (3 * ce)) n first) ≡ true
  pub new : (x e : ℕ) → x < counts.nodes.bound → In e (chain (cell ws (3 * ce)) n first) → In e (run_list ws ce cn x) → ⊥

-- The live ones stand at the end of the run; only links of its entries and of the chain are written.
abbrev pub Appended : (ws vs : List ℕ) (ce cn : ℕ) (counts : Counts) (node : ℕ) (live : List ℕ) (first n : ℕ) → Type 0
Appended ws vs ce cn counts node live first n =
    Edited ws vs ce cn counts node (run_list ws ce cn node ++ live_entries (live_flags live counts.edges.bound) (chain (cell ws (3 * ce)) n first))
    (run_list ws ce cn node ++ chain (cell ws (3 * ce)) n first)

-- What it takes to sweep the run of a node: `tombstoned` says whether some edge may be removed.
pub record Sweepable (ws : List ℕ) (ce cn : ℕ) (counts : Counts) (node : ℕ) (live : List ℕ) (tombstoned : Bool) : Type 0 where
  pub scannable : Scannable ws ce cn counts node live
  pub all_live : tombstoned ≡ false → (e : ℕ) → e < counts.edges.bound → live_in (live_flags live counts.edges.bound) e ≡ true

-- The run is swept: it holds live edges only.
pub record Swept (ws vs : List ℕ) (ce cn : ℕ) (counts : Counts) (node : ℕ) (live : List ℕ) : Type 0 where
  pub edited : Edited ws vs ce cn counts node (swept (live_flags live counts.edges.bound) (run_list ws ce cn node)) (run_list ws ce cn node)
  pub live_only : LiveOnly (live_flags live counts.edges.bound) (run_list vs ce cn node)

-- the entry before e in a list, NONE where there is none
unfoldable pub before_in : ℕ → List ℕ → ℕ
before_in e [] = NONE
before_in e (x ∷ []) = NONE
before_in e (x ∷ y ∷ l) = cond (eqb e y) x (before_in e (y ∷ l))

-- What a search for it answers.
abbrev pub Found : ℕ → Option ℕ → Type 0
Found before found = MatchOption found (before ≡ NONE) (λ b. (b ≡ before) × (b ≢ NONE))

-- What it takes to go along a chain of links: it is not empty, and its entries are edges.
pub record Searchable (ws : List ℕ) (ce first n : ℕ) : Type 0 where
  pub edges_within : ce ≤ LIMIT
  pub room : 4 * ce ≤ length ws
  pub full : 0 < n
  pub below : (e : ℕ) → In e (chain (cell ws (3 * ce)) n first) → e < ce

-- What it takes to take an entry out of the run of a node: the node has one.
pub record Cuttable (ws : List ℕ) (ce cn : ℕ) (counts : Counts) (node : ℕ) : Type 0 where
  pub editable : Editable ws ce cn counts node
  pub marked : mark_at ws ce cn node ≢ 0

-- What it takes to unlink an entry that is known to stand after `before`.
pub record Unlinkable (ws : List ℕ) (ce cn : ℕ) (counts : Counts) (node before e : ℕ) : Type 0 where
  pub editable : Editable ws ce cn counts node
  pub marked : mark_at ws ce cn node ≢ 0
  pub follows : before ≡ before_in e (run_list ws ce cn node)
  pub some_before : before ≢ NONE

-- The run is without the entry.
abbrev pub TakenOut : (ws vs : List ℕ) (ce cn : ℕ) (counts : Counts) (node e : ℕ) → Type 0
TakenOut ws vs ce cn counts node e = Edited ws vs ce cn counts node (without e (run_list ws ce cn node)) (run_list ws ce cn node)
