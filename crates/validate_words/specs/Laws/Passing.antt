-- Tests one after the other, and a loop over slots that stops at the first that fails a test: what is still to be answered from each place on.
use Rattle.std.specs.Prelude.{ℕ, zero, suc, ◌+◌, ◌-◌, ◌≤◌, ◌<◌, ◌≡◌, refl, Bool, true, false, cond, ◌&&◌, not, List, ◌∷◌, [], length, take, drop, get_or}
use Rattle.plain.specs.Library.{sym, ap, subst, ◌∙◌, arith, not-true, not-false, ltb-true}
use Rattle.std.proofs.lemmas.Grind.{common_steps}
use Rattle.plain.specs.Lists.{member, all, from, count}
use Rattle.plain.proofs.Laws.Booleans.{by_test, same_truth}
use Rattle.plain.proofs.Laws.ListLaws.{all_of, all_member, member_below}

-- a test passed: what follows decides
pub passed : {a b r : Bool} → a ≡ true → r ≡ b → r ≡ (a && b)
passed h k = rw h k

-- a test by a call that answers it, whose answer was not true, and was
pub refused : {a r : Bool} → r ≡ a → not r ≡ true → a ≡ false
refused {r = r} h k = sym h ∙ not-true r k

pub accepted : {a r : Bool} → r ≡ a → not r ≡ false → a ≡ true
accepted {r = r} h k = sym h ∙ not-false r k

-- the slots from i on, below n
abbrev pub slots_from : ℕ → ℕ → List ℕ
slots_from i n = from i (n - i)

-- a slot, and those after it
pub slots_more : (i n : ℕ) → i < n → slots_from i n ≡ i ∷ slots_from (i + 1) n
unfolding from
slots_more i n l =
    let q : n - i ≡ suc (n - (i + 1)) = omega arith in
    let s : suc i ≡ i + 1 = omega arith in
    ap (from i) q ∙ ap (λ (z : ℕ). i ∷ from z (n - (i + 1))) s

-- past the last there are none
pub slots_none : (i n : ℕ) → n ≤ i → slots_from i n ≡ []
unfolding from
slots_none i n l = let q : n - i ≡ 0 = omega arith in ap (from i) q

module _ (test : ℕ → Bool) where
  -- whether all slots from i on pass
  abbrev pub rest : ℕ → ℕ → Bool
  rest i n = all test (slots_from i n)

  -- all slots, from the first on
  pub rest_first : (n : ℕ) → all test (from 0 n) ≡ rest 0 n
  rest_first n = let q : n ≡ n - 0 = omega arith in ap (λ (z : ℕ). all test (from 0 z)) q

  -- one passes: the rest decides
  pub rest_more : (i n : ℕ) → i < n → test i ≡ true → rest i n ≡ rest (i + 1) n
  unfolding all
  rest_more i n l h = rw (slots_more i n l, h)

  -- one fails
  pub rest_fails : (i n : ℕ) → i < n → test i ≡ false → rest i n ≡ false
  unfolding all
  rest_fails i n l h = rw (slots_more i n l, h)

  -- none is left
  pub rest_none : (i n : ℕ) → n ≤ i → rest i n ≡ true
  unfolding all
  rest_none i n l = rw (slots_none i n l)

-- the first slots, one after the other: none, and one more, which passes as `step` says
module _ (test : ℕ → Bool) where
  pub first_none : true ≡ all test (from 0 0)
  unfolding all from
  first_none = refl

  all_next : (a n : ℕ) → all test (from a (suc n)) ≡ (all test (from a n) && test (a + n))
  unfolding all from
  all_next a zero = grind arith
  all_next a (suc n) = grind (arith, all_next (suc a) n)

  pub first_more : {right step : Bool} (i : ℕ) → right ≡ all test (from 0 i) → step ≡ test i → (right && step) ≡ all test (from 0 (i + 1))
  first_more i h k =
      let s : suc i ≡ i + 1 = omega arith in
      let z : 0 + i ≡ i = omega arith in
      rw (h, k) (ap (λ (j : ℕ). all test (from 0 i) && test j) (sym z) ∙ sym (all_next 0 i) ∙ ap (λ (j : ℕ). all test (from 0 j)) s)

-- a word of a part of a slice
pub part_word : (ws : List ℕ) (at n i : ℕ) → i < length (take n (drop at ws)) → get_or (take n (drop at ws)) i 0 ≡ get_or ws (at + i) 0
part_word ws at n i l = grind (arith, common_steps)

-- tests that agree on the entries of a list, and on all slots
module _ (f g : ℕ → Bool) where
  pub entries_agree : (l : List ℕ) → ((e : ℕ) → member e l ≡ true → f e ≡ g e) → all f l ≡ all g l
  entries_agree l same =
      same_truth (all f l) (all g l) (λ h. all_of g l (λ e m. sym (same e m) ∙ all_member f l h e m)) (λ h. all_of f l (λ e m. same e m ∙ all_member g l h e m))

  pub slots_agree : (n : ℕ) → ((e : ℕ) → e < n → f e ≡ g e) → all f (from 0 n) ≡ all g (from 0 n)
  slots_agree n same = entries_agree (from 0 n) (λ e m. same e (ltb-true e n (sym (member_below e n) ∙ m)))

counts_agree : (f g : ℕ → Bool) (a n : ℕ) → ((i : ℕ) → i < a + n → f i ≡ g i) → count f (from a n) ≡ count g (from a n)
unfolding count from
counts_agree f g a zero same = refl
counts_agree f g a (suc n) same = rw (same a (omega arith), counts_agree f g (suc a) n (λ i l. same i (omega (arith, l)))) refl

-- a part of a slice, n words from one on, by the words of the slice
module _ (ws : List ℕ) (at n : ℕ) (there : at + n ≤ length ws) where
  -- what a range from one on and up to another takes
  abbrev part : List ℕ
  part = take (at + n - at) (drop at ws)

  pub part_long : length part ≡ n
  part_long = grind (arith, common_steps)

  pub part_at : (i : ℕ) → i < n → get_or part i 0 ≡ get_or ws (at + i) 0
  part_at i l = part_word ws at (at + n - at) i (omega (arith, part_long, l))

  pub part_all : (test : ℕ → Bool) → all (λ i. test (get_or part i 0)) (from 0 (length part)) ≡ all (λ i. test (get_or ws (at + i) 0)) (from 0 n)
  part_all test = rw part_long (slots_agree (λ i. test (get_or part i 0)) (λ i. test (get_or ws (at + i) 0)) n (λ i l. ap test (part_at i l)))

  pub part_count : (test : ℕ → Bool) → count (λ i. test (get_or part i 0)) (from 0 (length part)) ≡ count (λ i. test (get_or ws (at + i) 0)) (from 0 n)
  part_count test = rw part_long (counts_agree (λ i. test (get_or part i 0)) (λ i. test (get_or ws (at + i) 0)) 0 n (λ i l. ap test (part_at i (omega (arith, l)))))

-- its first n words
module _ (ws : List ℕ) (n : ℕ) (there : n ≤ length ws) where
  pub front_long : length (take n ws) ≡ n
  front_long = grind (arith, common_steps)

  pub front_at : (i : ℕ) → i < n → get_or (take n ws) i 0 ≡ get_or ws i 0
  front_at i l = grind (arith, common_steps)

  pub front_all : (test : ℕ → Bool) → all (λ i. test (get_or (take n ws) i 0)) (from 0 (length (take n ws))) ≡ all (λ i. test (get_or ws i 0)) (from 0 n)
  front_all test = rw front_long (slots_agree (λ i. test (get_or (take n ws) i 0)) (λ i. test (get_or ws i 0)) n (λ i l. ap test (front_at i l)))

-- slots that pass a test are counted, one after the other: those from i on are still to be
module _ (test : ℕ → Bool) where
  -- Of the slots below n so many of those before i pass, and so many in all.
  pub record Counting (n all i some : ℕ) : Type 0 where
    pub counted : some + count test (slots_from i n) ≡ all
    pub few : some ≤ i

  pub count_start : (n : ℕ) → Counting n (count test (from 0 n)) 0 0
  count_start n = record { counted = let q : n - 0 ≡ n = omega arith in rw q (omega arith); few = omega arith }

  pub count_on : {n all i some step : ℕ} → Counting n all i some → i < n → step ≡ cond (test i) 1 0 → Counting n all (i + 1) (some + step)
  unfolding count
  count_on {n} {all} {i} {some} {step} c l q = record {
    counted = let more : count test (slots_from i n) ≡ cond (test i) 1 0 + count test (slots_from (i + 1) n) = rw (slots_more i n l) in omega (arith, c.counted);
    few = let one : cond (test i) 1 0 ≤ 1 = by_test (test i) (λ t. rw t (omega arith)) (λ t. rw t (omega arith)) in omega (arith, c.few);
  }

  -- one that passes, and one that does not
  pub count_more : {n all i some : ℕ} → Counting n all i some → i < n → test i ≡ true → Counting n all (i + 1) (some + 1)
  count_more c l q = count_on c l (rw q refl)

  pub count_skip : {n all i some : ℕ} → Counting n all i some → i < n → test i ≡ false → Counting n all (i + 1) some
  count_skip {n} {all} {i} {some} c l q = let same : some + 0 ≡ some = omega arith in subst (Counting n all (i + 1)) same (count_on c l (rw q refl))

  pub count_done : {n all i some : ℕ} → Counting n all i some → n ≤ i → some ≡ all
  unfolding count
  count_done {n} {all} {i} {some} c l = let none : count test (slots_from i n) ≡ 0 = rw (slots_none i n l) in omega (arith, c.counted)
