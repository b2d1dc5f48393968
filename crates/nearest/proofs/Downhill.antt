-- The way forward: from the first lot, at each lot the first edge of its out-list that leads one nearer. It is the nearest chain.
use Rattle.std.specs.Prelude.{ℕ, zero, suc, ◌≤◌, ◌<◌, ◌≡◌, refl, Bool, true, false, cond, List, [], ◌∷◌, ◌++◌, length, get_or, eqb}
use Rattle.plain.specs.Library.{sym, ap, ◌∙◌, subst, Option, none, some, append_assoc, arith, eqb-true, eq-eqb}
use native.Mathlib.Nat.{suc_inj}
use Rattle.plain.specs.Lists.{member, keep}
use Rattle.plain.specs.Reads.{first_or_none}
use Rattle.plain.proofs.Laws.Booleans.{by_test, true_false, or_other, refuted}
use Rattle.plain.proofs.Laws.ListLaws.{member_first, member_later}
use Rattle.shape.proofs.Laws.Taking.{keep_agree}
use Rattle.cursor.specs.Finding.{first_of}
use Rattle.nearest.specs.Chains.{Chain, nearest}
use Rattle.nearest.specs.Laws.Chains.{by_option, first_chain, first_chain_zero, first_chain_suc, first_chain_chain, first_step, onward, nearest_is, nearest_chain, Within, simple, simple_short}
use Rattle.nearest.specs.Search.{Network, Consistent, Distance, Search}
use Rattle.nearest.specs.Forwards.{leads, downhill, Labelled}
use Rattle.nearest.proofs.SearchLaws.{distance_step, word_distance, search_words, search_none}

-- ---- the first that passes

-- the first of a list passes
first_of_here : (test : ℕ → Bool) (e : ℕ) (es : List ℕ) → test e ≡ true → first_of test (e ∷ es) ≡ e
unfolding first_of keep
first_of_here test e es q = rw q

-- it does not
first_of_on : (test : ℕ → Bool) (e : ℕ) (es : List ℕ) → test e ≡ false → first_of test (e ∷ es) ≡ first_of test es
unfolding first_of keep
first_of_on test e es q = rw q

-- tests that agree on the members find the same
pub first_of_same : (a b : ℕ → Bool) (es : List ℕ) → ((e : ℕ) → member e es ≡ true → a e ≡ b e) → first_of a es ≡ first_of b es
unfolding first_of
first_of_same a b es same = ap first_or_none (keep_agree a b es same)

-- where one passes, so does what is found
first_of_passes : (test : ℕ → Bool) (es : List ℕ) (k : ℕ) → member k es ≡ true → test k ≡ true
    → (member (first_of test es) es ≡ true) × (test (first_of test es) ≡ true)
unfolding member
first_of_passes test [] k m t = true_false m refl
first_of_passes test (e ∷ es) k m t =
    by_test (test e)
    (λ q. subst (λ (a : ℕ). (member a (e ∷ es) ≡ true) × (test a ≡ true)) (sym (first_of_here test e es q)) (member_first e es, q))
    (λ q. let rest = first_of_passes test es k (or_other m (refuted (eqb k e) (λ r. true_false t (ap test (eqb-true k e r) ∙ q)))) t in
    subst (λ (a : ℕ). (member a (e ∷ es) ≡ true) × (test a ≡ true)) (sym (first_of_on test e es q)) (member_later (first_of test es) e es rest.0, rest.1))

-- a first step goes through the first edge that passes, if what passes leads on and nothing else does
first_step_of : (g : ℕ → Option (List ℕ)) (test : ℕ → Bool) (way : ℕ → List ℕ) (es : List ℕ)
    → ((e : ℕ) → member e es ≡ true → test e ≡ true → g e ≡ some (way e)) → ((e : ℕ) → member e es ≡ true → test e ≡ false → g e ≡ none)
    → (k : ℕ) → member k es ≡ true → test k ≡ true → first_step g es ≡ some (first_of test es ∷ way (first_of test es))
unfolding first_step member
first_step_of g test way [] pass fail k m t = true_false m refl
first_step_of g test way (e ∷ es) pass fail k m t =
    by_test (test e)
    (λ q. ap (λ (o : Option (List ℕ)). onward e o (first_step g es)) (pass e (member_first e es) q)
    ∙ ap (λ (a : ℕ). some (a ∷ way a)) (sym (first_of_here test e es q)))
    (λ q. ap (λ (o : Option (List ℕ)). onward e o (first_step g es)) (fail e (member_first e es) q)
    ∙ first_step_of g test way es (λ j n. pass j (member_later j e es n)) (λ j n. fail j (member_later j e es n)) k
    (or_other m (refuted (eqb k e) (λ r. true_false t (ap test (eqb-true k e r) ∙ q)))) t
    ∙ ap (λ (a : ℕ). some (a ∷ way a)) (sym (first_of_on test e es q)))

-- ---- the way forward

module _ (out : ℕ → List ℕ) (target : ℕ → ℕ) where
  -- an edge with a chain of the right length leads to a word one less
  leads_on : {y d : ℕ} {dist : List ℕ} → Labelled out target y d dist → (k x e : ℕ) (c : List ℕ) → suc k ≤ d → Distance out target y x (suc k) → member e (out x) ≡ true
      → Chain out target (target e) c y → length c ≡ k → leads target dist (suc k) e ≡ true
  leads_on {dist = dist} l k x e c low far m chain long =
      eq-eqb (get_or dist (target e) 0) (suc k) (l.whole (target e) k low (distance_step out target e c far m chain long))

  -- the way forward is the first chain of its length
  pub downhill_first : {y d : ℕ} {dist : List ℕ} → Labelled out target y d dist → (k x : ℕ) → k ≤ d → Distance out target y x k
      → first_chain out target k x y ≡ some (downhill out target dist k x)
  unfolding downhill
  downhill_first {y} {d} {dist} l zero x low far =
      first_chain_zero out target x y
      ∙ ap (λ (b : Bool). cond b (some []) none) (eq-eqb x y (at far.way far.is_chain far.long))
    where
      at : (c : List ℕ) → Chain out target x c y → length c ≡ 0 → x ≡ y
      at [] chain long = chain
      at (e ∷ c) chain long = absurd (omega arith)
  downhill_first {y} {d} {dist} l (suc k) x low far =
      first_chain_suc out target k x y
      ∙ there far.way far.is_chain far.long
      (first_step_of (λ e. first_chain out target k (target e) y) (leads target dist (suc k)) (λ e. downhill out target dist k (target e)) (out x)
      (λ e m t. downhill_first l k (target e) (omega arith) (l.right (target e) k (eqb-true (get_or dist (target e) 0) (suc k) t)))
      (λ e m t. by_option (first_chain out target k (target e) y)
      (λ c some-c. let chain = first_chain_chain out target k (target e) y c some-c in true_false (leads_on l k x e c low far m chain.0 chain.1) t)
      (λ nothing. nothing)))
    where
      there : {P : Type 0} (c : List ℕ) → Chain out target x c y → length c ≡ suc k
          → ((e : ℕ) → member e (out x) ≡ true → leads target dist (suc k) e ≡ true → P) → P
      there [] chain long on = absurd (omega arith)
      there (e ∷ c) chain long on = on e chain.0 (leads_on l k x e c low far chain.0 chain.1 (suc_inj long))

  -- and the nearest of all
  pub downhill_nearest : {y d : ℕ} {dist : List ℕ} → Labelled out target y d dist → (n a : ℕ) → Within out target n → a < n → Distance out target y a d
      → nearest out target n a y ≡ some (downhill out target dist d a)
  downhill_nearest {y} {d} {dist} l n a within low far =
      nearest_is out target n a y d (downhill out target dist d a)
      (let s = simple out target a y far.way far.is_chain in
      let short = simple_short out target n a y within low s in
      let less = far.least s.edges s.is_chain in
      omega arith)
      (downhill_first l d a (omega arith) far)
      (λ j less. by_option (first_chain out target j a y)
      (λ c given. let chain = first_chain_chain out target j a y c given in let long = far.least c chain.0 in let same = chain.1 in absurd (omega arith))
      (λ nothing. nothing))

-- the way forward has as many edges as it is told
pub length_downhill : (out : ℕ → List ℕ) (target : ℕ → ℕ) (dist : List ℕ) (d x : ℕ) → length (downhill out target dist d x) ≡ d
unfolding downhill
length_downhill out target dist zero x = refl
length_downhill out target dist (suc d) x = ap suc (length_downhill out target dist d (target (first_of (leads target dist (suc d)) (out x))))

-- one edge forward: what is written so far, and the rest of the way
pub downhill_step : (out : ℕ → List ℕ) (target : ℕ → ℕ) (dist : List ℕ) (d x : ℕ) (before : List ℕ)
    → before ++ downhill out target dist (suc d) x
    ≡ (before ++ (first_of (leads target dist (suc d)) (out x) ∷ [])) ++ downhill out target dist d (target (first_of (leads target dist (suc d)) (out x)))
unfolding downhill
downhill_step out target dist d x before =
    sym (append_assoc before (first_of (leads target dist (suc d)) (out x) ∷ [])
    (downhill out target dist d (target (first_of (leads target dist (suc d)) (out x)))))

module _ (out : ℕ → List ℕ) (target : ℕ → ℕ) where
  -- the edge that is taken is one of the out-list, and leads one nearer
  pub downhill_next : {y d : ℕ} {dist : List ℕ} → Labelled out target y d dist → (k x : ℕ) → suc k ≤ d → Distance out target y x (suc k)
      → (member (first_of (leads target dist (suc k)) (out x)) (out x) ≡ true) × Distance out target y (target (first_of (leads target dist (suc k)) (out x))) k
  downhill_next {y} {d} {dist} l k x low far =
      let found = there far.way far.is_chain far.long in (
        found.0,
        l.right (target (first_of (leads target dist (suc k)) (out x))) k
            (eqb-true (get_or dist (target (first_of (leads target dist (suc k)) (out x))) 0) (suc k) found.1),
      )
    where
      there : (c : List ℕ) → Chain out target x c y → length c ≡ suc k
          → (member (first_of (leads target dist (suc k)) (out x)) (out x) ≡ true) × (leads target dist (suc k) (first_of (leads target dist (suc k)) (out x)) ≡ true)
      there [] chain long = absurd (omega arith)
      there (e ∷ c) chain long =
          first_of_passes (leads target dist (suc k)) (out x) e chain.0 (leads_on out target l k x e c low far chain.0 chain.1 (suc_inj long))

-- ---- what the search comes to, once it stops

module _ {t : Network} (consistent : Consistent t) {y : ℕ} {dist order : List ℕ} {head : ℕ} {past : List ℕ} (s : Search t y dist order head past) where
  pub search_labelled : (a d : ℕ) → get_or dist a 0 ≡ suc d → Labelled t.out t.target y d dist
  search_labelled a d w = record { right = word_distance consistent s; whole = search_words consistent s a d w }

  -- the first lot has a word: the nearest chain is the way forward, and one less than the word is its length
  pub search_found : (n a d : ℕ) → Within t.out t.target n → a < n → get_or dist a 0 ≡ suc d
      → nearest t.out t.target n a y ≡ some (downhill t.out t.target dist d a)
  search_found n a d within low w = downhill_nearest t.out t.target (search_labelled a d w) n a within low (word_distance consistent s a d w)

  -- the queue is done and it has none: there is no chain
  pub search_denied : (n a : ℕ) → length order ≤ head → get_or dist a 0 ≡ 0 → nearest t.out t.target n a y ≡ none
  search_denied n a all w =
      by_option (nearest t.out t.target n a y)
      (λ c given. absurd (search_none consistent s a all w c (nearest_chain t.out t.target n a y c given))) (λ nothing. nothing)
