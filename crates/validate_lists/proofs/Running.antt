-- Runs: the chain of one, and the runs of all nodes, one after the other: what the nodes from one on decide, where the entries before are marked.
use Rattle.std.specs.Prelude.{ℕ, suc, ◌+◌, ◌-◌, ◌*◌, ◌≤◌, ◌<◌, ◌≡◌, refl, Bool, true, false, ◌&&◌, ◌||◌, not, List, [], ◌∷◌, map, length, get_or, eqb, ltb}
use Rattle.plain.specs.Library.{sym, ap, ◌∙◌, arith, eq-eqb, ne_eqb}
use Rattle.plain.specs.Numbers.{LIMIT}
use Rattle.plain.specs.declared.Counts.{Counts}
use Rattle.plain.specs.Lists.{member, distinct, all, from, joined}
use Rattle.plain.proofs.Laws.Booleans.{true_false, refuted, and_left, and_right, both_true}
use Rattle.shape.specs.Columns.{cell, tail_at, mark_at, count_at, first_at}
use Rattle.shape.specs.Chains.{chain}
use Rattle.shape.specs.Shape.{run_list}
use Rattle.shape.specs.Rules.{last_of, run_right}
use Rattle.validate_words.specs.Laws.Passing.{slots_from, slots_more, slots_none}
use Rattle.marks.specs.Marks.{marked, Passed, fresh, passes, Followed}
use Rattle.validate_lists.specs.Runs.{entry_test, ends_in, RunReadable, RunsReadable}
use Rattle.marks.specs.Laws.Following.{Following, follow_start, follow_done, pass_fails, pass_more}
use Rattle.marks.specs.Laws.Fresh.{fresh_clear, fresh_append}

-- the run of a node with a mark is its chain
pub run_chain : (ws : List ℕ) (ce cn x : ℕ) → (mark_at ws ce cn x ≡ 0 → ⊥) → chain (cell ws (3 * ce)) (count_at ws ce cn x) (first_at ws ce cn x) ≡ run_list ws ce cn x
unfolding run_list
run_chain ws ce cn x n = rw (ne_eqb (mark_at ws ce cn x) 0 n)

-- a node with no run passes
pub no_run : (test : ℕ → Bool) (tail : ℕ) (seen : List ℕ) → Followed test (ends_in [] tail) [] seen true seen
unfolding last_of
no_run test tail seen = rw (eq-eqb tail tail refl) (follow_done (follow_start test [] seen) true refl)

-- the run of a node can be followed
pub run_readable : {ws : List ℕ} {ce cn : ℕ} {counts : Counts} {live_nodes live_edges : List ℕ} (r : RunsReadable ws ce cn counts live_nodes live_edges)
    → {x : ℕ} → x < counts.nodes.bound → {seen : List ℕ} → LIMIT ≤ 64 * length seen → RunReadable ws ce cn live_edges counts.edges.bound x seen
run_readable r l long =
    let a = r.axis in
    record {
      chains = record { few = a.sized.edges_within; room = omega (arith, a.sized.room); edges_within = a.edges.bound_within; live_long = r.edges_long; marks_long = long };
      sized = a.sized;
      node_below = omega (arith, l, a.nodes.bound_within);
    }

-- ---- a chain that is followed

module _ (test : ℕ → Bool) (link : ℕ → ℕ) (n first tail : ℕ) where
  -- Of the entries of a chain those from e on are still to be followed, i being passed and marked; the last of them is `last`, or the tail where there is none.
  pub record Chaining (seen₀ seen : List ℕ) (i e last : ℕ) : Type 0 where
    pub following : Following test (chain link n first) seen₀ seen (chain link (n - i) e)
    pub ends : last_of (chain link n first) tail ≡ last_of (chain link (n - i) e) last

  pub chaining_start : (seen : List ℕ) → Chaining seen seen 0 first tail
  chaining_start seen = let q : n - 0 ≡ n = omega arith in record { following = rw q (follow_start test (chain link n first) seen); ends = rw q refl }

  module _ {seen₀ seen : List ℕ} {i e last : ℕ} (c : Chaining seen₀ seen i e last) where
    -- past the last
    pub chaining_done : n ≤ i → Followed test (ends_in (chain link n first) tail) (chain link n first) seen₀ (eqb last tail) seen
    unfolding chain last_of
    chaining_done l =
        let none : chain link (n - i) e ≡ [] = (let q : n - i ≡ 0 = omega arith in rw q refl) in
        let ends : last_of (chain link n first) tail ≡ last = c.ends ∙ rw none refl in
        rw ends (follow_done c.following (eqb last tail) none)

    module _ {exit : List ℕ} {answer : Bool} (l : i < n) (p : Passed (test e) seen e answer exit) where
      -- an entry, and those after it
      next : chain link (n - i) e ≡ e ∷ chain link (n - (i + 1)) (link e)
      unfolding chain
      next = let q : n - i ≡ suc (n - (i + 1)) = omega arith in ap (λ (z : ℕ). chain link z e) q

      pub chaining_fails : answer ≡ false → Followed test (ends_in (chain link n first) tail) (chain link n first) seen₀ false exit
      chaining_fails a = pass_fails c.following next p (ends_in (chain link n first) tail) a

      pub chaining_on : answer ≡ true → length exit ≡ length seen → Chaining seen₀ exit (i + 1) (link e) e
      unfolding last_of
      chaining_on a long = record { following = pass_more c.following next p a long; ends = c.ends ∙ rw next refl }

-- ---- the tests of one run

module _ (f g : ℕ → Bool) where
  -- all pass two tests
  all_and : (l : List ℕ) → all (λ e. f e && g e) l ≡ (all f l && all g l)
  unfolding all
  all_and [] = refl
  all_and (e ∷ l) = rw (all_and l) (swap (f e) (g e) (all f l) (all g l))
    where
      swap : (a b c d : Bool) → ((a && b) && (c && d)) ≡ ((a && c) && (b && d))
      swap true true c d = refl
      swap true false true d = refl
      swap true false false d = refl
      swap false b c d = refl

-- all pass where they need not
all_or : (b : Bool) (g : ℕ → Bool) (l : List ℕ) → all (λ e. b || g e) l ≡ (b || all g l)
unfolding all
all_or true g [] = refl
all_or true g (e ∷ l) = all_or true g l
all_or false g l = refl

-- what makes a run right
pub record Right (ws : List ℕ) (ce cn eb : ℕ) (live : Bool) (flags : List Bool) (marks : ℕ → Bool) (x : ℕ) : Type 0 where
  pub right : run_right ce cn eb ws x ≡ true
  pub once : fresh marks (run_list ws ce cn x) ≡ true
  pub dead : (live || all (λ e. not (get_or flags e false)) (run_list ws ce cn x)) ≡ true

module _ (ws : List ℕ) (ce cn eb : ℕ) (live : Bool) (flags : List Bool) (marks : ℕ → Bool) (x : ℕ) where
  run_passes : Bool
  run_passes = (passes (entry_test eb live flags) marks (run_list ws ce cn x) && ends_in (run_list ws ce cn x) (tail_at ws ce cn x))

  below_test : Bool
  below_test = all (λ e. ltb e eb) (run_list ws ce cn x)

  dead_test : Bool
  dead_test = live || all (λ e. not (get_or flags e false)) (run_list ws ce cn x)

  last_test : Bool
  last_test = eqb (last_of (run_list ws ce cn x) (tail_at ws ce cn x)) (tail_at ws ce cn x)

  once_test : Bool
  once_test = fresh marks (run_list ws ce cn x)

  parts : run_passes ≡ (((below_test && dead_test) && once_test) && last_test)
  unfolding run_passes below_test dead_test last_test once_test passes entry_test
  parts =
      rw (
        all_and (λ e. ltb e eb) (λ e. live || not (get_or flags e false)) (run_list ws ce cn x),
        all_or live (λ e. not (get_or flags e false)) (run_list ws ce cn x),
      )

  -- a run that passes is right
  pub passes_right : (passes (entry_test eb live flags) marks (run_list ws ce cn x) && ends_in (run_list ws ce cn x) (tail_at ws ce cn x)) ≡ true → Right ws ce cn eb live flags marks x
  unfolding run_passes below_test dead_test last_test once_test
  passes_right h =
      let k = sym parts ∙ h in
      let l = and_left ((below_test && dead_test) && once_test) last_test k in
      let both = and_left (below_test && dead_test) once_test l in
      record {
        right = both_true (and_left below_test dead_test both) (and_right ((below_test && dead_test) && once_test) last_test k);
        once = and_right (below_test && dead_test) once_test l;
        dead = and_right below_test dead_test both;
      }

  -- and the other way round
  pub right_passes : Right ws ce cn eb live flags marks x → (passes (entry_test eb live flags) marks (run_list ws ce cn x) && ends_in (run_list ws ce cn x) (tail_at ws ce cn x)) ≡ true
  unfolding run_passes below_test dead_test last_test once_test
  right_passes r =
      parts ∙ both_true (both_true (both_true (and_left below_test last_test r.right) r.dead) r.once) (and_right below_test last_test r.right)

-- ---- the runs from a node on

-- the tests of the runs of some nodes, where `once` says that no entry comes twice
unfoldable pub tests_of : List ℕ → ℕ → ℕ → ℕ → List Bool → List Bool → Bool → List ℕ → Bool
tests_of ws ce cn eb nodes edges once slots =
    all (run_right ce cn eb ws) slots && (once && all (λ x. get_or nodes x false || all (λ e. not (get_or edges e false)) (run_list ws ce cn x)) slots)

-- all entries of the runs of some nodes
abbrev pub entries_of : List ℕ → ℕ → ℕ → List ℕ → List ℕ
entries_of ws ce cn slots = joined (map (run_list ws ce cn) slots)

module _ (ws : List ℕ) (ce cn nb eb : ℕ) (nodes edges : List Bool) where
  -- whether the runs of the nodes from x on are right
  unfoldable pub runs_from : (ℕ → Bool) → ℕ → Bool
  runs_from marks x = tests_of ws ce cn eb nodes edges (fresh marks (entries_of ws ce cn (slots_from x nb))) (slots_from x nb)

  -- all nodes, nothing marked
  pub runs_first : (seen : List ℕ) → ((e : ℕ) → marked seen e ≡ false) → tests_of ws ce cn eb nodes edges (distinct (entries_of ws ce cn (from 0 nb))) (from 0 nb) ≡ runs_from (marked seen) 0
  unfolding runs_from
  runs_first seen clear =
      let q : nb ≡ nb - 0 = omega arith in
      ap (λ (z : ℕ). tests_of ws ce cn eb nodes edges (distinct (entries_of ws ce cn (from 0 z))) (from 0 z)) q
      ∙ ap (λ (b : Bool). tests_of ws ce cn eb nodes edges b (from 0 (nb - 0))) (sym (fresh_clear (marked seen) (entries_of ws ce cn (from 0 (nb - 0))) clear))

  -- none is left
  pub runs_none : (marks : ℕ → Bool) (x : ℕ) → nb ≤ x → runs_from marks x ≡ true
  unfolding runs_from tests_of all fresh distinct joined
  runs_none marks x l = rw (slots_none x nb l)

  module _ (x : ℕ) (l : x < nb) where
    later : List ℕ
    later = slots_from (x + 1) nb

    right : Bool
    right = run_right ce cn eb ws x

    dead : Bool
    dead = get_or nodes x false || all (λ e. not (get_or edges e false)) (run_list ws ce cn x)

    rights : Bool
    rights = all (run_right ce cn eb ws) later

    deads : Bool
    deads = all (λ x. get_or nodes x false || all (λ e. not (get_or edges e false)) (run_list ws ce cn x)) later

    -- a node, and those after it
    split : (marks more : ℕ → Bool) → ((e : ℕ) → more e ≡ (marks e || member e (run_list ws ce cn x)))
        → runs_from marks x ≡ ((right && rights) && ((fresh marks (run_list ws ce cn x) && fresh more (entries_of ws ce cn later)) && (dead && deads)))
    unfolding runs_from tests_of later right dead rights deads all joined
    split marks more step = rw (slots_more x nb l, fresh_append marks more (run_list ws ce cn x) (entries_of ws ce cn (slots_from (x + 1) nb)) step)

    -- its run passes: those after it decide, with its entries marked
    pub runs_more : {live answer : Bool} {seen exit : List ℕ} → live ≡ get_or nodes x false
        → Followed (entry_test eb live edges) (ends_in (run_list ws ce cn x) (tail_at ws ce cn x)) (run_list ws ce cn x) seen answer exit → answer ≡ true → runs_from (marked seen) x ≡ runs_from (marked exit) (x + 1)
    unfolding runs_from tests_of later right dead rights deads
    runs_more {live} {seen = seen} {exit} same f q =
        let r = rw same at (passes_right ws ce cn eb live edges (marked seen) x (sym f.answers ∙ q)) in
        split (marked seen) (marked exit) (f.marks q) ∙ rw (r.right, r.once, r.dead)

    -- it does not
    pub runs_fail : {live answer : Bool} {seen exit : List ℕ} → live ≡ get_or nodes x false
        → Followed (entry_test eb live edges) (ends_in (run_list ws ce cn x) (tail_at ws ce cn x)) (run_list ws ce cn x) seen answer exit → answer ≡ false → runs_from (marked seen) x ≡ false
    unfolding right dead
    runs_fail {live} {seen = seen} same f q =
        refuted (runs_from (marked seen) x)
        (λ h. let more : ℕ → Bool = λ e. marked seen e || member e (run_list ws ce cn x) in
        let once = fresh (marked seen) (run_list ws ce cn x) in
        let onces = fresh more (entries_of ws ce cn later) in
        let k = sym (split (marked seen) more (λ e. refl)) ∙ h in
        let both = and_right (right && rights) ((once && onces) && (dead && deads)) k in
        true_false
        (right_passes ws ce cn eb live edges (marked seen) x (rw same (record {
          right = and_left right rights (and_left (right && rights) ((once && onces) && (dead && deads)) k);
          once = and_left once onces (and_left (once && onces) (dead && deads) both);
          dead = and_left dead deads (and_right (once && onces) (dead && deads) both);
        })))
        (sym f.answers ∙ q))
