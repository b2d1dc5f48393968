-- Laws of walks: the columns as slices, what a started walk reads, and that a walk that spares the live bits reads the same.
use Rattle.std.specs.Prelude.{ℕ, zero, suc, ◌+◌, ◌*◌, ◌≤◌, ◌<◌, ◌≡◌, refl, Bool, true, false, cond, List, [], ◌∷◌, ◌++◌, length, drop, eqb}
use Rattle.plain.specs.Library.{sym, ap, ◌∙◌, length-drop, length-append, arith, eqb-true}
use Rattle.std.proofs.Common.{le_of_suc-le-suc, not-suc-le-zero, length-take, get_or-take, get_or-drop}
use Rattle.plain.specs.declared.Counts.{Counts}
use Rattle.plain.specs.Numbers.{NONE, LIMIT}
use Rattle.plain.specs.Lists.{member, keep, count}
use Rattle.plain.specs.Reads.{live_count}
use Rattle.plain.proofs.Laws.Booleans.{by_test, and_left}
use Rattle.plain.proofs.Laws.ListLaws.{member_keep, count_length}
use Rattle.liveness.specs.Flags.{live_flags}
use Rattle.liveness.specs.Laws.Flags.{length_flags}
use Rattle.plain.proofs.Laws.Deleting.{keep_all}
use Rattle.shape.proofs.Laws.Taking.{keep_agree}
use Rattle.shape.proofs.Laws.CheckedShape.{raw_below}
use Rattle.shape.specs.Columns.{cell}
use Rattle.shape.specs.Chains.{In}
use Rattle.shape.specs.Shape.{adjacency_in, part, raw, live_in}
use Rattle.shape.proofs.Laws.Chains.{in_none}
use Rattle.cursor.specs.declared.Start.{Start}
use Rattle.cursor.specs.Cursor.{word, part_left, part_count, ring_left, remaining, listed, listed_left, Within, Seekable}
use Rattle.cursor.specs.Laws.Sought.{Writable}
use Rattle.cursor.specs.Laws.Cursor.{part_counted}
use Rattle.cursor.specs.Laws.Reading.{kept_short}
use Rattle.adjacency.specs.Walk.{walk_in, tombstoned_in, column, entries_column, next_column, Readable, Walkable, Started}

-- ---- columns

module _ (ws : List ℕ) (at size : ℕ) where
  -- a column is as long as it is
  pub column_length : at + size ≤ length ws → length (column ws at size) ≡ size
  column_length h = simp (length-take, length-drop) (omega arith)

  -- a word of a column
  pub column_word : (x : ℕ) → x < size → word (column ws at size) x ≡ cell ws at x
  column_word x h = get_or-take size (drop at ws) x 0 h ∙ get_or-drop at ws x 0

-- ---- a node that can be read

module _ {ws : List ℕ} {ce cn : ℕ} {counts : Counts} {x : ℕ} (r : Readable ws ce cn counts x) where
  -- the columns are as long as there are edges
  pub next_length : length (next_column ws ce) ≡ ce
  next_length = let s = r.sized in column_length ws (2 * ce) ce (omega arith)

  -- all that a walk reads is below the edge bound
  pub read_below : (e : ℕ) → In e (raw (adjacency_in ws ce cn counts x)) → e < counts.edges.bound
  read_below = raw_below ws ce cn counts r.edges.base_within r.index r.runs x r.node r.rings

  -- so a column with a word for each edge has one for each entry
  pub entries_within : (live : Bool) (column : List ℕ) → ce ≤ length column → Within column (cond live (raw (adjacency_in ws ce cn counts x)) [])
  entries_within true column long e m = let low = read_below e m in let bounded = r.edges in omega arith
  entries_within false column long e m = in_none e m

-- ---- what a started walk reads

module _ {ws : List ℕ} {ce cn : ℕ} {counts : Counts} {x : ℕ} {live : Bool} {s : Start} (t : Started ws ce cn counts x live s) where
  -- the run or base part and the ring of a live node
  pub started_left : remaining s.linked (entries_column ws ce s.linked) (next_column ws ce) s.cursor
      ≡ cond live (raw (adjacency_in ws ce cn counts x)) []
  unfolding remaining
  started_left = rw (t.part_is, t.ring_is) (both live)
    where
      both : (b : Bool) → cond b (part (adjacency_in ws ce cn counts x)) [] ++ cond b (adjacency_in ws ce cn counts x).ring []
          ≡ cond b (raw (adjacency_in ws ce cn counts x)) []
      both true = refl
      both false = refl

  -- with columns that were handed out, and live words that are long enough, it can be read
  pub started_seekable : {entries next live_edges : List ℕ} {slots : ℕ} → entries ≡ entries_column ws ce s.linked → next ≡ next_column ws ce
      → slots ≤ 64 * length live_edges → Seekable s.linked entries next live_edges slots s.cursor
  started_seekable are-entries is-next long = rw (are-entries, is-next) (record { ready = t.ready; live_long = long })

-- all flags are set where as many are as there are
flag_set : (flags : List Bool) (i : ℕ) → live_count flags ≡ length flags → i < length flags → live_in flags i ≡ true
unfolding count
flag_set [] i full h = absurd (not-suc-le-zero h)
flag_set (true ∷ flags) zero full h = refl
flag_set (true ∷ flags) (suc i) full h = flag_set flags i (omega arith) (le_of_suc-le-suc h)
flag_set (false ∷ flags) i full h = absurd (omega (arith, count_length (λ f. f) flags))

module _ {ws : List ℕ} {ce cn : ℕ} {counts : Counts} {live_edges : List ℕ} {x : ℕ} (w : Walkable ws ce cn counts live_edges x) where
  abbrev flags : List Bool
  flags = live_flags live_edges counts.edges.bound

  -- an edge below the bound is listed where it is live, whether the bits are spared or not
  listed_live : (e : ℕ) → e < counts.edges.bound → listed (tombstoned_in counts) flags e ≡ live_in flags e
  listed_live e h =
      by_test (eqb counts.edges.live counts.edges.bound)
      (λ q. rw q (sym (flag_set flags e (full q) (rw (length_flags live_edges counts.edges.bound) h)))) (λ q. rw q)
    where
      full : eqb counts.edges.live counts.edges.bound ≡ true → live_count flags ≡ length flags
      full q =
          sym w.live_right.live_right ∙ eqb-true counts.edges.live counts.edges.bound q ∙ sym (length_flags live_edges counts.edges.bound)

  -- a walk has edges below the bound
  pub walk_below : (live : Bool) (e : ℕ) → In e (walk_in ws ce cn counts live_edges x live) → e < counts.edges.bound
  walk_below true e m =
      read_below w.readable e
      (and_left (member e (raw (adjacency_in ws ce cn counts x))) (live_in flags e) (sym (member_keep (live_in flags) e (raw (adjacency_in ws ce cn counts x))) ∙ m))
  walk_below false e m = in_none e m

  -- so a column with a word for each edge has one for each edge of a walk
  pub walk_within : (live : Bool) (column : List ℕ) → ce ≤ length column → Within column (walk_in ws ce cn counts live_edges x live)
  walk_within live column long e m = let low = walk_below live e m in let bounded = w.readable.edges in omega arith

  -- the listed ones of a live node's entries are its walk
  pub listed_walk : (live : Bool)
      → keep (listed (tombstoned_in counts) flags) (cond live (raw (adjacency_in ws ce cn counts x)) []) ≡ walk_in ws ce cn counts live_edges x live
  unfolding keep
  listed_walk true =
      keep_agree (listed (tombstoned_in counts) flags) (live_in flags) (raw (adjacency_in ws ce cn counts x))
      (λ e m. listed_live e (read_below w.readable e m))
  listed_walk false = refl

  module _ {live : Bool} {s : Start} (t : Started ws ce cn counts x live s) where
    -- the listed entries of it are the node's walk
    pub started_walk : listed_left s.linked (entries_column ws ce s.linked) (next_column ws ce) (tombstoned_in counts) live_edges
        counts.edges.bound s.cursor ≡ walk_in ws ce cn counts live_edges x live
    started_walk = rw (started_left t) (listed_walk live)

    -- where no edge is removed, the walk is as long as the run or base part and the ring together
    started_degree : tombstoned_in counts ≡ false
        → part_count s.linked s.cursor.base s.cursor.base_end + length (ring_left (next_column ws ce) s.cursor.delta s.cursor.delta_last)
        ≡ length (walk_in ws ce cn counts live_edges x live)
    unfolding remaining
    started_degree whole =
        let entries = entries_column ws ce s.linked in
        let before = part_left s.linked entries s.cursor.base s.cursor.base_end in
        let ring = ring_left (next_column ws ce) s.cursor.delta s.cursor.delta_last in
        let all : walk_in ws ce cn counts live_edges x live ≡ before ++ ring = sym started_walk ∙ rw whole (keep_all (before ++ ring)) in
        let sum = ap length all ∙ length-append before ring in
        let size = part_counted s.linked entries s.cursor.base s.cursor.base_end in
        omega arith

    -- a walk is short
    pub walk_short : length (walk_in ws ce cn counts live_edges x live) ≤ NONE + LIMIT
    walk_short = rw (← started_walk) (kept_short (listed (tombstoned_in counts) flags) t.ready)

    -- ---- the same with columns that were handed out

    -- the degree, from the two counts
    pub given_degree : {next : List ℕ} {a b : ℕ} → tombstoned_in counts ≡ false → next ≡ next_column ws ce
        → a ≡ part_count s.linked s.cursor.base s.cursor.base_end
        → b ≡ length (ring_left next s.cursor.delta s.cursor.delta_last) → a + b ≡ length (walk_in ws ce cn counts live_edges x live)
    given_degree whole is-next of_part of-ring = rw (of_part, of-ring, is-next) (started_degree whole)

    module _ {entries next : List ℕ} (are-entries : entries ≡ entries_column ws ce s.linked) (is-next : next ≡ next_column ws ce) where
      -- the walk can be read
      pub given_seekable : Seekable s.linked entries next live_edges counts.edges.bound s.cursor
      given_seekable = started_seekable t are-entries is-next w.live_long

      -- its listed entries are the node's walk
      pub given_walk : {tombstoned : Bool} → tombstoned ≡ tombstoned_in counts
          → listed_left s.linked entries next tombstoned live_edges counts.edges.bound s.cursor ≡ walk_in ws ce cn counts live_edges x live
      given_walk q = rw (are-entries, is-next, q) started_walk

      -- and it can be written where there is room
      pub given_writable : {tombstoned : Bool} {out : List ℕ} → tombstoned ≡ tombstoned_in counts
          → length (walk_in ws ce cn counts live_edges x live) ≤ length out
          → Writable s.linked entries next tombstoned live_edges counts.edges.bound s.cursor out
      given_writable q h = record { seekable = given_seekable; fits = rw (given_walk q) h }
