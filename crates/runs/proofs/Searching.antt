-- The entry before another in a list: the loop that finds it along a chain, and what it says of the list.
use Rattle.std.specs.Prelude.{ℕ, ◌-◌, ◌*◌, ◌<◌, ◌≡◌, refl, true, false, not, ◌≢◌, List, [], ◌∷◌, ◌++◌, eqb}
use Rattle.plain.specs.Library.{sym, ap, ap₂, ◌∙◌, eq-eqb, ne_eqb, eqb-true}
use Rattle.plain.specs.Numbers.{NONE}
use Rattle.plain.specs.Lists.{member, without, distinct}
use Rattle.plain.proofs.Laws.Booleans.{by_test, true_false, refuted}
use Rattle.plain.proofs.Laws.ListLaws.{member_first, member_later, distinct_head, distinct_right, distinct_apart, without_keep, without_absent}
use Rattle.shape.specs.Columns.{cell, link_at}
use Rattle.shape.specs.Chains.{In, chain}
use Rattle.shape.proofs.Laws.Chains.{chain_none, chain_some}
use Rattle.shape.proofs.Laws.Taking.{keep_append}
use Rattle.runs.specs.Runs.{before_in, Searchable}

-- ---- the loop

-- the search goes on from an entry, with `left` entries after it
pub record Searching (ws : List ℕ) (ce first n entry before left : ℕ) : Type 0 where
  pub same : before_in entry (chain (cell ws (3 * ce)) n first) ≡ before_in entry (before ∷ chain (cell ws (3 * ce)) left (link_at ws ce before))
  pub below : (e : ℕ) → In e (before ∷ chain (cell ws (3 * ce)) left (link_at ws ce before)) → e < ce

module _ {ws : List ℕ} {ce first n : ℕ} (entry : ℕ) (pre : Searchable ws ce first n) where
  -- at the start
  pub search_start : Searching ws ce first n entry first (n - 1)
  search_start =
      let whole = chain_some (cell ws (3 * ce)) n first pre.full in
      record { same = ap (before_in entry) whole; below = λ e m. pre.below e (rw whole m) }

  module _ {before left : ℕ} (s : Searching ws ce first n entry before left) where
    -- the present entry is an edge
    pub search_below : before < ce
    search_below = s.below before (member_first before (chain (cell ws (3 * ce)) left (link_at ws ce before)))

    -- the next entry and those after it
    next : 0 < left → chain (cell ws (3 * ce)) left (link_at ws ce before)
        ≡ link_at ws ce before ∷ chain (cell ws (3 * ce)) (left - 1) (link_at ws ce (link_at ws ce before))
    next h = chain_some (cell ws (3 * ce)) left (link_at ws ce before) h

    -- it is the entry
    pub search_found : 0 < left → link_at ws ce before ≡ entry → before ≡ before_in entry (chain (cell ws (3 * ce)) n first)
    unfolding before_in
    search_found h q = sym (s.same ∙ rw (next h, eq-eqb entry (link_at ws ce before) (sym q)))

    -- it is another
    pub search_more : 0 < left → link_at ws ce before ≢ entry → Searching ws ce first n entry (link_at ws ce before) (left - 1)
    unfolding before_in
    search_more h ne =
        record {
          same = s.same ∙ rw (next h, ne_eqb entry (link_at ws ce before) (λ q. ne (sym q)));
          below = λ e m. s.below e (rw (next h) (member_later e before _ m));
        }

    -- there is no next
    pub search_none : left ≡ 0 → before_in entry (chain (cell ws (3 * ce)) n first) ≡ NONE
    unfolding before_in
    search_none none = s.same ∙ rw (chain_none (cell ws (3 * ce)) left (link_at ws ce before) none)

-- ---- what it says of the list

-- where no entry is before e, and the first is another, e is not in the list
pub before_none : (e x : ℕ) (l : List ℕ) → before_in e (x ∷ l) ≡ NONE → ((y : ℕ) → In y (x ∷ l) → y ≢ NONE) → x ≢ e → member e (x ∷ l) ≡ false
unfolding before_in member
before_none e x [] none small ne = rw (ne_eqb e x (λ q. ne (sym q)))
before_none e x (y ∷ l) none small ne =
    by_test (eqb e y)
    (λ t. absurd (small x (member_first x (y ∷ l)) (rw t at none)))
    (λ t. rw (ne_eqb e x (λ q. ne (sym q))) (before_none e y l (rw t at none) (λ z m. small z (member_later z x (y ∷ l) m)) (λ q. true_false (eq-eqb e y (sym q)) t)))

-- a list, split at an entry that has one before it
pub record Split (e b : ℕ) (l : List ℕ) : Type 0 where
  pub front : List ℕ
  pub rest : List ℕ
  pub whole : l ≡ front ++ (b ∷ (e ∷ rest))

pub before_split : (e b : ℕ) (l : List ℕ) → b ≡ before_in e l → b ≢ NONE → Split e b l
unfolding before_in
before_split e b [] is some_before = absurd (some_before is)
before_split e b (x ∷ []) is some_before = absurd (some_before is)
before_split e b (x ∷ y ∷ l) is some_before =
    by_test (eqb e y)
    (λ t. let here = eqb-true e y t in let at : b ≡ x = rw t at is in record { front = []; rest = l; whole = rw (at, here) })
    (λ t. let later = before_split e b (y ∷ l) (rw t at is) some_before in
    record { front = x ∷ later.front; rest = later.rest; whole = ap (λ (z : List ℕ). x ∷ z) later.whole })

-- deleting an entry of a list without repeats leaves what is before it and what is after it
pub without_middle : (e : ℕ) (p q : List ℕ) → distinct (p ++ (e ∷ q)) ≡ true → without e (p ++ (e ∷ q)) ≡ p ++ q
unfolding without
without_middle e p q once =
    without_keep e (p ++ (e ∷ q)) ∙ keep_append (λ y. not (eqb e y)) p (e ∷ q)
    ∙ ap₂ (λ (a b : List ℕ). a ++ b) (sym (without_keep e p) ∙ without_absent e p (refuted (member e p) (λ m. true_false (member_first e q) (distinct_apart p (e ∷ q) once e m))))
    (sym (without_keep e (e ∷ q)) ∙ rw (eq-eqb e e refl) (without_absent e q (distinct_head e q (distinct_right p (e ∷ q) once))))
