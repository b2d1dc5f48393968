-- A clear map, and lists of which no entry is marked and none comes twice: entry by entry, and list by list, where what is passed is marked.
use Rattle.std.specs.Prelude.{ℕ, ◌/◌, ◌%◌, ◌≡◌, refl, Bool, true, false, ◌&&◌, ◌||◌, not, List, [], ◌∷◌, ◌++◌, get_or, replicate, eqb}
use Rattle.plain.specs.Library.{sym, ap, ◌∙◌, ⊎_elim, length-replicate, get_or-eq_default, pow_pos, eq-eqb, ne_eqb, not-true}
use Rattle.std.proofs.lemmas.List.{get_or-replicate}
use Rattle.plain.specs.Lists.{member, distinct, all}
use Rattle.plain.proofs.Laws.Booleans.{by_test, below_or_not, same_truth, true_false, refuted, and_left, and_right, both_true, and_false, and_true, or_true, or_false}
use Rattle.plain.proofs.Laws.ListLaws.{all_of, all_member}
use Rattle.liveness.specs.Flags.{live_bit}
use Rattle.liveness.specs.Laws.Bits.{bit_past}
use Rattle.marks.specs.Marks.{marked, fresh, passes}

-- nothing is marked in a clear map
pub clear_map : (n e : ℕ) → marked (replicate n 0) e ≡ false
unfolding live_bit
clear_map n e =
    let word : ◌≡◌ {A = ℕ} (get_or (replicate n 0) (e / 64) 0) 0 =
    ⊎_elim (λ l. get_or-replicate n (e / 64) 0 0 l) (λ l. get_or-eq_default (replicate n 0) 0 (rw (length-replicate {A = ℕ} n 0) l)) (below_or_not (e / 64) n) in
    rw (word, bit_past 0 (e % 64) (pow_pos (e % 64)))

-- the order of three alternatives does not matter
pub or_swap : (a b c : Bool) → (b || (a || c)) ≡ ((a || b) || c)
or_swap true b c = or_true b
or_swap false b c = refl

-- an entry is not marked: it is marked from there on
pub fresh_more : (marks more : ℕ → Bool) (e : ℕ) (l : List ℕ) → ((i : ℕ) → more i ≡ (eqb i e || marks i)) → marks e ≡ false → fresh marks (e ∷ l) ≡ fresh more l
unfolding fresh distinct all
fresh_more marks more e l step new = rw new (same_truth ((n && d) && u) (d && v) onward back)
  where
    n : Bool
    n = not (member e l)

    d : Bool
    d = distinct l

    u : Bool
    u = all (λ i. not (marks i)) l

    v : Bool
    v = all (λ i. not (more i)) l

    unmarked : (i : ℕ) → more i ≡ false → marks i ≡ false
    unmarked i h = refuted (marks i) (λ q. true_false (step i ∙ rw (q, or_true (eqb i e))) h)

    onward : ((n && d) && u) ≡ true → (d && v) ≡ true
    onward h =
        both_true (and_right n d (and_left (n && d) u h))
        (all_of (λ i. not (more i)) l (λ i m. rw (
          step i,
          ne_eqb i e (λ q. true_false (ap (λ (z : ℕ). member z l) (sym q) ∙ m) (not-true (member e l) (and_left n d (and_left (n && d) u h)))),
          not-true (marks i) (all_member (λ i. not (marks i)) l (and_right (n && d) u h) i m),
        )))

    back : (d && v) ≡ true → ((n && d) && u) ≡ true
    back h =
        both_true
        (both_true
        (ap not (refuted (member e l) (λ m. true_false (step e ∙ rw (eq-eqb e e refl)) (not-true (more e) (all_member (λ i. not (more i)) l (and_right d v h) e m)))))
        (and_left d v h))
        (all_of (λ i. not (marks i)) l (λ i m. ap not (unmarked i (not-true (more i) (all_member (λ i. not (more i)) l (and_right d v h) i m)))))

-- an entry is marked
pub fresh_marked : (marks : ℕ → Bool) (e : ℕ) (l : List ℕ) → marks e ≡ true → fresh marks (e ∷ l) ≡ false
unfolding fresh all
fresh_marked marks e l h = rw (h, and_false (distinct (e ∷ l)))

-- nothing is marked
pub fresh_clear : (marks : ℕ → Bool) (l : List ℕ) → ((i : ℕ) → marks i ≡ false) → fresh marks l ≡ distinct l
unfolding fresh
fresh_clear marks l h = rw (all_of (λ i. not (marks i)) l (λ i m. ap not (h i)), and_true (distinct l))

-- a list, and then another, where the first's entries are marked
pub fresh_append : (marks more : ℕ → Bool) (xs ys : List ℕ) → ((i : ℕ) → more i ≡ (marks i || member i xs)) → fresh marks (xs ++ ys) ≡ (fresh marks xs && fresh more ys)
unfolding fresh distinct all member
fresh_append marks more [] ys h = ap (λ (z : Bool). distinct ys && z) (same ys)
  where
    same : (l : List ℕ) → all (λ i. not (marks i)) l ≡ all (λ i. not (more i)) l
    same [] = refl
    same (i ∷ l) = rw (h i, or_false (marks i), same l)
fresh_append marks more (e ∷ xs) ys h =
    by_test (marks e) (λ q. fresh_marked marks e (xs ++ ys) q ∙ sym (rw (fresh_marked marks e xs q)))
    (λ q. fresh_more marks here e (xs ++ ys) (λ i. refl) q ∙ fresh_append here more xs ys (λ i. h i ∙ or_swap (eqb i e) (marks i) (member i xs))
    ∙ ap (λ (z : Bool). z && fresh more ys) (sym (fresh_more marks here e xs (λ i. refl) q)))
  where
    here : ℕ → Bool
    here i = eqb i e || marks i

-- ---- entries that pass a test besides

module _ (test marks : ℕ → Bool) where
  -- nothing is left
  pub passes_none : passes test marks [] ≡ true
  unfolding passes all fresh distinct
  passes_none = refl

  module _ (e : ℕ) (l : List ℕ) where
    -- an entry fails
    pub passes_fails : test e ≡ false → passes test marks (e ∷ l) ≡ false
    unfolding passes all
    passes_fails h = rw h

    -- an entry is marked
    pub passes_marked : marks e ≡ true → passes test marks (e ∷ l) ≡ false
    unfolding passes
    passes_marked h = rw (fresh_marked marks e l h, and_false (all test (e ∷ l)))

    -- an entry passes
    pub passes_more : (more : ℕ → Bool) → ((i : ℕ) → more i ≡ (eqb i e || marks i)) → test e ≡ true → marks e ≡ false → passes test marks (e ∷ l) ≡ passes test more l
    unfolding passes all
    passes_more more step h new = rw (h, fresh_more marks more e l step new)
