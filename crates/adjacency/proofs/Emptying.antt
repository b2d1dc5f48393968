-- What emptying the ring of a node does, of a new node and of one whose ring is forgotten.
use Rattle.std.specs.Prelude.{ℕ, ◌+◌, ◌*◌, ◌≤◌, ◌<◌, ◌≡◌, refl, ◌⊎◌, ◌≢◌, List, [], get_or, set, eqb}
use Rattle.plain.specs.Library.{◌∙◌, inl, inr, length-set, get_or-set_same, get_or-set_other, arith, eqb-true, eqb-false}
use native.Mathlib.Nat.{le_refl, le_trans}
use Rattle.plain.specs.Numbers.{NONE, LIMIT}
use Rattle.plain.proofs.Laws.Booleans.{by_test}
use Rattle.shape.specs.Columns.{cell, last_at, tail_at, mark_at}
use Rattle.shape.specs.Chains.{Ring}
use Rattle.shape.specs.Shape.{ring_of}
use Rattle.shape.specs.Checked.{Rings, Runs}
use Rattle.shape.proofs.Laws.Chains.{in_none, ring_below}
use Rattle.shape.specs.Laws.Frames.{SameRun, SameRing}
use Rattle.shape.proofs.Laws.Frames.{ring_of_none, run_of_agree, run_of_unmarked, run_list_below, runs_agree, ring_others, rings_new}
use Rattle.adjacency.specs.Rings.{Openable, Opened, Detachable, Detached}

-- the node's last edge is NONE, and the words up to the last edges of the nodes below nb' are otherwise as they were
module _
    {ws : List ℕ}
    {ce nb be eb : ℕ}
    (vs : List ℕ)
    (nb' node : ℕ)
    (within : eb ≤ ce)
    (small : ce ≤ LIMIT)
    (old : Rings ws ce nb be eb)
    (last : last_at vs ce node ≡ NONE)
    (same : (i : ℕ) → i < 4 * ce + nb' → i ≢ 4 * ce + node → get_or vs i 0 ≡ get_or ws i 0)
    (each : (x : ℕ) → x < nb' → x ≢ node → x < nb)
  where
    -- the node's ring is empty
    here : Ring (cell vs (2 * ce)) be eb (last_at vs ce node) []
    here = inl (last, refl)

    -- the others are read from the same words
    others : (x : ℕ) → x < nb' → x ≢ node → (x < nb) × SameRing ws vs ce be eb x
    others x h ne =
        let k = each x h ne in (
          k,
          record {
            last = same (4 * ce + x) (omega arith) (omega arith);
            next = λ e m. let low = ring_below (old.ring x k) e m in same (2 * ce + e) (omega arith) (omega arith);
            ends = λ e m. let low = ring_below (old.ring x k) e m in same e (omega arith) (omega arith);
          },
        )

    -- so they are as before
    pub emptied_others : (x : ℕ) → x < nb' → x ≢ node → ring_of vs ce be eb x ≡ ring_of ws ce be eb x
    emptied_others = ring_others vs nb' eb node [] (le_refl eb) (le_trans within small) old here (λ e. in_none e) others

    -- and rule 5 holds
    pub emptied_rings : Rings vs ce nb' be eb
    emptied_rings = rings_new vs nb' eb node [] (le_refl eb) (le_trans within small) old here (λ e. in_none e) others

-- a ring is forgotten
pub detached : {ws : List ℕ} {ce node : ℕ} → Detachable ws ce node → Detached ws (set ws (4 * ce + node) NONE) ce node
detached {ws} {ce} {node} pre =
    record {
      here = λ be eb. ring_of_none vs ce be eb node last;
      others = λ nb be eb x h old. emptied_others vs nb node h pre.edges_within old last (λ i _. kept i) (λ y k ne. k) x;
      rings = λ nb be eb h old. emptied_rings vs nb node h pre.edges_within old last (λ i _. kept i) (λ y k ne. k);
      kept = kept;
    }
  where
    vs : List ℕ
    vs = set ws (4 * ce + node) NONE

    last : last_at vs ce node ≡ NONE
    last = get_or-set_same ws (4 * ce + node) NONE 0 pre.room

    kept : (i : ℕ) → i ≢ 4 * ce + node → get_or vs i 0 ≡ get_or ws i 0
    kept i ne = get_or-set_other ws (4 * ce + node) i NONE 0 ne

-- a node is opened
module _ {ws : List ℕ} {ce cn node : ℕ} (pre : Openable ws ce cn node) where
  -- where the node's last edge and its mark stand
  abbrev at : ℕ
  at = 4 * ce + node

  abbrev marked : ℕ
  marked = 4 * ce + 4 * cn + node

  -- the words after the two stores
  abbrev blank : List ℕ
  blank = set (set ws at NONE) marked 0

  -- the other words are as before
  kept : (i : ℕ) → i ≢ at → i ≢ marked → get_or blank i 0 ≡ get_or ws i 0
  kept i na nm = get_or-set_other (set ws at NONE) marked i 0 0 nm ∙ get_or-set_other ws at i NONE 0 na

  -- the two cells
  last : last_at blank ce node ≡ NONE
  last = get_or-set_other (set ws at NONE) marked at 0 0 (omega (arith, pre.room)) ∙ get_or-set_same ws at NONE 0 (omega arith)

  mark : mark_at blank ce cn node ≡ 0
  mark = get_or-set_same (set ws at NONE) marked 0 0 (simp length-set (omega arith))

  -- the words up to the node's last edge
  kept_below : (i : ℕ) → i < 4 * ce + (node + 1) → i ≢ at → get_or blank i 0 ≡ get_or ws i 0
  kept_below i h ne = kept i ne (omega (arith, pre.room))

  -- the run of another node is read from the same words
  same_run : {eb : ℕ} → eb ≤ ce → Runs ws ce cn node eb → (x : ℕ) → x < node → SameRun ws blank ce cn x
  same_run within old x h =
      let room = pre.room in
      record {
        mark = kept (4 * ce + 4 * cn + x) (omega arith) (omega arith);
        count = kept (4 * ce + 3 * cn + x) (omega arith) (omega arith);
        first = kept (4 * ce + cn + x) (omega arith) (omega arith);
        links = λ e m. let low = run_list_below old x e h m in kept (3 * ce + e) (omega arith) (omega arith);
      }

  -- of every node below the new bound: the new one has no mark, the others have their runs
  run_each : {eb : ℕ} → eb ≤ ce → Runs ws ce cn node eb → (x : ℕ) → x < node + 1
      → (mark_at blank ce cn x ≡ 0) ⊎ ((x < node) × SameRun ws blank ce cn x × (tail_at blank ce cn x ≡ tail_at ws ce cn x))
  run_each within old x h =
      by_test (eqb x node) (λ t. inl (rw (eqb-true x node t) mark))
      (λ t.
      let ne = eqb-false x node t in
      let low : x < node = omega arith in
      let room = pre.room in
      inr (low, same_run within old x low, kept (4 * ce + 2 * cn + x) (omega arith) (omega arith)))

  -- so the node is open
  pub opened : Opened ws blank ce cn node
  opened =
      let small = pre.sized.edges_within in
      record {
        ring = λ be eb. ring_of_none blank ce be eb node last;
        run = run_of_unmarked blank ce cn node mark;
        other_rings = λ be eb x h old low. emptied_others blank (node + 1) node h small old last kept_below (λ y k ne. omega arith) x (omega arith) (omega arith);
        other_runs = λ eb x h old low. run_of_agree ws blank ce cn x (same_run h old x low);
        rings = λ be eb h old. emptied_rings blank (node + 1) node h small old last kept_below (λ y k ne. omega arith);
        runs = λ eb h old. runs_agree blank (node + 1) eb (le_refl eb) old (run_each h old);
        kept = kept;
      }
