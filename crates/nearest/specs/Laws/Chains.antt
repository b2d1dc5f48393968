-- Laws of chains over any out-lists. What document 02 says of the nearest one: `nearest_chain`, `nearest_shortest`, `nearest_first`, `nearest_none`; and that
-- these sentences determine it: `first_unique`, `first_nearest`.
use Rattle.std.specs.Prelude.{ℕ, zero, suc, ◌+◌, ◌≤◌, ◌<◌, ◌≡◌, refl, Bool, true, false, cond, not, ◌⊎◌, List, [], ◌∷◌, ◌++◌, map, length, eqb}
use Rattle.plain.specs.Library.{sym, ap, ap₂, ◌∙◌, subst, inl, inr, ⊎_elim, Option, none, some, length-map, arith, eqb-true, eqb-false, eq-eqb, lt-ltb}
use Prim.Native.Nat.{zero-le}
use Rattle.std.proofs.Math.Nat.{suc_inj}
use Rattle.std.proofs.Math.Option.{some-injective}
use Rattle.plain.specs.Lists.{member, distinct, from, joined}
use Rattle.plain.proofs.Laws.Booleans.{by_test, true_false, below_or_not, or_other, both_true, refuted}
use Rattle.plain.proofs.Laws.ListLaws.{member_first, member_later, distinct_within, distinct_tail, length_from, member_below}
use Rattle.nearest.specs.Chains.{position, first_candidate, or_else, Chain, Before, chains, nearest_from, nearest}

-- by cases on a candidate
pub by_option : {A P : Type 0} (o : Option A) → ((a : A) → o ≡ some a → P) → (o ≡ none → P) → P
by_option none s n = n refl
by_option (some a) s n = s a refl

-- something is not nothing
pub some_none : {A P : Type 0} {o : Option A} {a : A} → o ≡ some a → o ≡ none → P
some_none s n = let z : ◌≡◌ {A = ℕ} 0 1 = cc in absurd (omega arith)

-- ---- positions

pub position_first : (e : ℕ) (es : List ℕ) → position e (e ∷ es) ≡ 0
unfolding position
position_first e es = rw (eq-eqb e e refl)

pub position_later : (e a : ℕ) (es : List ℕ) → eqb e a ≡ false → position e (a ∷ es) ≡ suc (position e es)
unfolding position
position_later e a es q = rw q

-- ---- the first chain of k edges, edge by edge

abbrev pub onward : ℕ → Option (List ℕ) → Option (List ℕ) → Option (List ℕ)
onward e none rest = rest
onward e (some c) rest = some (e ∷ c)

unfoldable pub first_step : (ℕ → Option (List ℕ)) → List ℕ → Option (List ℕ)
first_step g [] = none
first_step g (e ∷ es) = onward e (g e) (first_step g es)

first_candidate_append : (xs ys : List (List ℕ)) → first_candidate (xs ++ ys) ≡ or_else (first_candidate xs) (first_candidate ys)
unfolding first_candidate
first_candidate_append [] ys = refl
first_candidate_append (x ∷ xs) ys = refl

first_candidate_onward : (e : ℕ) (cs : List (List ℕ)) (rest : Option (List ℕ))
    → or_else (first_candidate (map (λ (c : List ℕ). e ∷ c) cs)) rest ≡ onward e (first_candidate cs) rest
unfolding first_candidate
first_candidate_onward e [] rest = refl
first_candidate_onward e (c ∷ cs) rest = refl

first_through : (f : ℕ → List (List ℕ)) (es : List ℕ)
    → first_candidate (joined (map (λ e. map (λ (c : List ℕ). e ∷ c) (f e)) es)) ≡ first_step (λ e. first_candidate (f e)) es
unfolding joined first_candidate first_step
first_through f [] = refl
first_through f (e ∷ es) =
    first_candidate_append (map (λ (c : List ℕ). e ∷ c) (f e)) (joined (map (λ e. map (λ (c : List ℕ). e ∷ c) (f e)) es))
    ∙ ap (or_else (first_candidate (map (λ (c : List ℕ). e ∷ c) (f e)))) (first_through f es)
    ∙ first_candidate_onward e (f e) (first_step (λ e. first_candidate (f e)) es)

-- What a first step found: an edge of the list from which there is a way on, and no earlier one has any.
pub record FirstStep (g : ℕ → Option (List ℕ)) (es c : List ℕ) : Type 0 where
  pub edge : ℕ
  pub rest : List ℕ
  pub whole : c ≡ edge ∷ rest
  pub there : member edge es ≡ true
  pub onwards : g edge ≡ some rest
  pub none_before : (e : ℕ) → member e es ≡ true → position e es < position edge es → g e ≡ none

found_first : (g : ℕ → Option (List ℕ)) (e : ℕ) (es c r : List ℕ) → g e ≡ some r → c ≡ e ∷ r → FirstStep g (e ∷ es) c
found_first g e es c r here is = record {
  edge = e;
  rest = r;
  whole = is;
  there = member_first e es;
  onwards = here;
  none_before = λ k m low. absurd (omega (arith, position_first e es));
}

found_later : (g : ℕ → Option (List ℕ)) (a : ℕ) (es c : List ℕ) → g a ≡ none → FirstStep g es c → FirstStep g (a ∷ es) c
unfolding member
found_later g a es c nothing f =
    let e = f.edge in
    let other : eqb e a ≡ false = refuted (eqb e a) (λ q. some_none f.onwards (ap g (eqb-true e a q) ∙ nothing)) in
    record {
      edge = e;
      rest = f.rest;
      whole = f.whole;
      there = member_later e a es f.there;
      onwards = f.onwards;
      none_before = λ k m low. by_test (eqb k a) (λ q. ap g (eqb-true k a q) ∙ nothing)
          (λ q. f.none_before k (or_other m q) (let here = position_later k a es q in let there = position_later e a es other in omega arith));
    }

pub first_step_found : (g : ℕ → Option (List ℕ)) (es c : List ℕ) → first_step g es ≡ some c → FirstStep g es c
unfolding first_step
first_step_found g [] c h = some_none h refl
first_step_found g (e ∷ es) c h =
    by_option (g e)
    (λ r here. found_first g e es c r here (some-injective c (e ∷ r) (sym h ∙ ap (λ (o : Option (List ℕ)). onward e o (first_step g es)) here)))
    (λ nothing. found_later g e es c nothing
    (first_step_found g es c (sym (ap (λ (o : Option (List ℕ)). onward e o (first_step g es)) nothing) ∙ h)))

pub first_step_none : (g : ℕ → Option (List ℕ)) (es : List ℕ) → first_step g es ≡ none → (e : ℕ) → member e es ≡ true → g e ≡ none
unfolding first_step member
first_step_none g [] h e m = true_false m refl
first_step_none g (a ∷ es) h e m =
    by_option (g a) (λ r here. some_none (ap (λ (o : Option (List ℕ)). onward a o (first_step g es)) here) h)
    (λ nothing. by_test (eqb e a) (λ q. ap g (eqb-true e a q) ∙ nothing)
    (λ q. first_step_none g es (sym (ap (λ (o : Option (List ℕ)). onward a o (first_step g es)) nothing) ∙ h) e (or_other m q)))

-- a member is at one position only
pub position_injective : (e k : ℕ) (es : List ℕ) → member e es ≡ true → member k es ≡ true → position e es ≡ position k es → e ≡ k
unfolding member
position_injective e k [] m n q = true_false m refl
position_injective e k (a ∷ es) m n q =
    by_test (eqb e a)
    (λ t. by_test (eqb k a) (λ u. eqb-true e a t ∙ sym (eqb-true k a u)) (λ u. absurd (apart e k t u q)))
    (λ t. by_test (eqb k a) (λ u. absurd (apart k e u t (sym q)))
    (λ u. position_injective e k es (or_other m t) (or_other n u)
    (suc_inj (sym (position_later e a es t) ∙ q ∙ position_later k a es u))))
  where
    apart : (x y : ℕ) → eqb x a ≡ true → eqb y a ≡ false → position x (a ∷ es) ≡ position y (a ∷ es) → ⊥
    apart x y t u q =
        let here : position x (a ∷ es) ≡ 0 = ap (λ (z : ℕ). position z (a ∷ es)) (eqb-true x a t) ∙ position_first a es in
        let there = position_later y a es u in
        omega arith

module _ (out : ℕ → List ℕ) (target : ℕ → ℕ) where
  -- the first of the chains of k edges
  unfoldable pub first_chain : ℕ → ℕ → ℕ → Option (List ℕ)
  first_chain k x y = first_candidate (chains out target k x y)

  -- of no edges: the empty one, from a lot to itself
  pub first_chain_zero : (x y : ℕ) → first_chain 0 x y ≡ cond (eqb x y) (some []) none
  unfolding first_chain chains first_candidate
  first_chain_zero x y = by_test (eqb x y) (λ q. rw q) (λ q. rw q)

  -- of more: through the first edge of the out-list from which there is a way on
  pub first_chain_suc : (k x y : ℕ) → first_chain (suc k) x y ≡ first_step (λ e. first_chain k (target e) y) (out x)
  unfolding first_chain chains
  first_chain_suc k x y = first_through (λ e. chains out target k (target e) y) (out x)

  -- what is given is a chain, of k edges
  pub first_chain_chain : (k x y : ℕ) (c : List ℕ) → first_chain k x y ≡ some c → Chain out target x c y × (length c ≡ k)
  first_chain_chain zero x y c h =
      by_test (eqb x y)
      (λ q. let empty : [] ≡ c = some-injective [] c (sym (ap (λ (b : Bool). cond b (some []) none) q) ∙ sym (first_chain_zero x y) ∙ h) in
      (subst (λ (l : List ℕ). Chain out target x l y) empty (eqb-true x y q), ap (λ (l : List ℕ). length l) (sym empty)))
      (λ q. some_none h (first_chain_zero x y ∙ ap (λ (b : Bool). cond b (some []) none) q))
  first_chain_chain (suc k) x y c h =
      let f = first_step_found (λ e. first_chain k (target e) y) (out x) c (sym (first_chain_suc k x y) ∙ h) in
      let rest = first_chain_chain k (target f.edge) y f.rest f.onwards in
      (subst (λ (l : List ℕ). Chain out target x l y) (sym f.whole) (f.there, rest.0), ap (λ (l : List ℕ). length l) f.whole ∙ ap suc rest.1)

  -- where none is given, there is no chain of k edges
  pub first_chain_none : (k x y : ℕ) (c : List ℕ) → first_chain k x y ≡ none → Chain out target x c y → length c ≡ k → ⊥
  first_chain_none zero x y [] h chain long = some_none (first_chain_zero x y ∙ ap (λ (b : Bool). cond b (some []) none) (eq-eqb x y chain)) h
  first_chain_none zero x y (e ∷ c) h chain long = omega arith
  first_chain_none (suc k) x y [] h chain long = omega arith
  first_chain_none (suc k) x y (e ∷ c) h chain long =
      first_chain_none k (target e) y c
      (first_step_none (λ e. first_chain k (target e) y) (out x) (sym (first_chain_suc k x y) ∙ h) e chain.0) chain.1 (suc_inj long)

  -- of the chains of k edges it is the first
  pub first_chain_before : (k x y : ℕ) (c other : List ℕ) → first_chain k x y ≡ some c → Chain out target x other y → length other ≡ k
      → (c ≡ other) ⊎ Before out target x c other
  first_chain_before zero x y c [] h chain long = inl (nothing c (first_chain_chain 0 x y c h).1)
    where
      nothing : (l : List ℕ) → length l ≡ 0 → l ≡ []
      nothing [] q = refl
      nothing (e ∷ l) q = absurd (omega arith)
  first_chain_before zero x y c (e ∷ other) h chain long = absurd (omega arith)
  first_chain_before (suc k) x y c [] h chain long = absurd (omega arith)
  first_chain_before (suc k) x y c (e ∷ other) h chain long =
      let f = first_step_found (λ e. first_chain k (target e) y) (out x) c (sym (first_chain_suc k x y) ∙ h) in
      subst (λ (l : List ℕ). (l ≡ e ∷ other) ⊎ Before out target x l (e ∷ other)) (sym f.whole)
      (by_test (eqb f.edge e)
      (λ q. let same = eqb-true f.edge e q in
      ⊎_elim (λ rest. inl (ap₂ {B = List ℕ} (λ (a : ℕ) (l : List ℕ). a ∷ l) same rest)) (λ rest. inr (inr (same, rest)))
      (first_chain_before k (target f.edge) y f.rest other f.onwards
      (subst (λ (z : ℕ). Chain out target (target z) other y) (sym same) chain.1) (suc_inj long)))
      (λ q. inr (inl (earlier f q (below_or_not (position f.edge (out x)) (position e (out x)))))))
    where
      earlier : (f : FirstStep (λ e. first_chain k (target e) y) (out x) c) → eqb f.edge e ≡ false
          → (position f.edge (out x) < position e (out x)) ⊎ (position e (out x) ≤ position f.edge (out x)) → position f.edge (out x) < position e (out x)
      earlier f q (inl low) = low
      earlier f q (inr high) =
          by_test (eqb (position e (out x)) (position f.edge (out x)))
          (λ t. true_false (eq-eqb f.edge e (position_injective f.edge e (out x) f.there chain.0 (sym (eqb-true _ _ t)))) q)
          (λ t. let apart = eqb-false (position e (out x)) (position f.edge (out x)) t in
          absurd (first_chain_none k (target e) y other (f.none_before e chain.0 (omega arith)) chain.1 (suc_inj long)))

  -- ---- the nearest

  -- What a search through n lengths from k on gives: the first chain of a length, with none of a lesser one; or nothing.
  pub record Nearest (k n x y : ℕ) (c : List ℕ) : Type 0 where
    pub long : ℕ
    pub from_here : k ≤ long
    pub within : long < k + n
    pub given : first_chain long x y ≡ some c
    pub none_less : (j : ℕ) → k ≤ j → j < long → first_chain j x y ≡ none

  nearest_here : (k n x y : ℕ) (c : List ℕ) → first_chain k x y ≡ some c → Nearest k (suc n) x y c
  nearest_here k n x y c h = record {
    long = k;
    from_here = omega arith;
    within = omega arith;
    given = h;
    none_less = λ j low high. absurd (omega arith);
  }

  nearest_on : (k n x y : ℕ) (c : List ℕ) → first_chain k x y ≡ none → Nearest (suc k) n x y c → Nearest k (suc n) x y c
  nearest_on k n x y c h f = record {
    long = f.long;
    from_here = omega (arith, f.from_here);
    within = omega (arith, f.within);
    given = f.given;
    none_less = λ j low high. by_test (eqb j k) (λ q. ap (λ (i : ℕ). first_chain i x y) (eqb-true j k q) ∙ h)
        (λ q. let other = eqb-false j k q in f.none_less j (omega arith) high);
  }

  nearest_from_some : (k n x y : ℕ) (c : List ℕ) → nearest_from out target k n x y ≡ some c → Nearest k n x y c
  unfolding nearest_from first_chain
  nearest_from_some k zero x y c h = some_none h refl
  nearest_from_some k (suc n) x y c h =
      by_option (first_candidate (chains out target k x y))
      (λ r here. nearest_here k n x y c (here ∙ sym (ap (λ (o : Option (List ℕ)). or_else o (nearest_from out target (suc k) n x y)) here) ∙ h))
      (λ nothing. nearest_on k n x y c nothing
      (nearest_from_some (suc k) n x y c (sym (ap (λ (o : Option (List ℕ)). or_else o (nearest_from out target (suc k) n x y)) nothing) ∙ h)))

  nearest_from_none : (k n x y : ℕ) → nearest_from out target k n x y ≡ none → (j : ℕ) → k ≤ j → j < k + n → first_chain j x y ≡ none
  unfolding nearest_from first_chain
  nearest_from_none k zero x y h j low high = absurd (omega arith)
  nearest_from_none k (suc n) x y h j low high =
      by_option (first_candidate (chains out target k x y))
      (λ r here. some_none (ap (λ (o : Option (List ℕ)). or_else o (nearest_from out target (suc k) n x y)) here) h)
      (λ nothing. by_test (eqb j k) (λ q. ap (λ (i : ℕ). first_candidate (chains out target i x y)) (eqb-true j k q) ∙ nothing)
      (λ q. let other = eqb-false j k q in
      nearest_from_none (suc k) n x y (sym (ap (λ (o : Option (List ℕ)). or_else o (nearest_from out target (suc k) n x y)) nothing) ∙ h) j (omega arith) (omega arith)))

  -- the first chain of a length, with none of a lesser one, is what a search through more lengths gives
  nearest_from_is : (k n x y d : ℕ) (c : List ℕ) → k ≤ d → d < k + n → first_chain d x y ≡ some c
      → ((j : ℕ) → j < d → first_chain j x y ≡ none) → nearest_from out target k n x y ≡ some c
  unfolding nearest_from first_chain
  nearest_from_is k zero x y d c low high h less = absurd (omega arith)
  nearest_from_is k (suc n) x y d c low high h less =
      by_test (eqb d k)
      (λ q. ap (λ (o : Option (List ℕ)). or_else o (nearest_from out target (suc k) n x y))
      (ap (λ (i : ℕ). first_candidate (chains out target i x y)) (sym (eqb-true d k q)) ∙ h))
      (λ q. let other = eqb-false d k q in
      ap (λ (o : Option (List ℕ)). or_else o (nearest_from out target (suc k) n x y)) (less k (omega arith))
      ∙ nearest_from_is (suc k) n x y d c (omega arith) (omega arith) h less)

  -- the first chain of a length, with none of a lesser one, is the nearest
  pub nearest_is : (n x y d : ℕ) (c : List ℕ) → d < n → first_chain d x y ≡ some c → ((j : ℕ) → j < d → first_chain j x y ≡ none) → nearest out target n x y ≡ some c
  unfolding nearest
  nearest_is n x y d c low h less = nearest_from_is 0 n x y d c zero-le (omega arith) h less

  -- what is given is a chain
  pub nearest_chain : (n x y : ℕ) (c : List ℕ) → nearest out target n x y ≡ some c → Chain out target x c y
  unfolding nearest
  nearest_chain n x y c h = let f = nearest_from_some 0 n x y c h in (first_chain_chain f.long x y c f.given).0

  -- "No shorter chain may exist."
  pub nearest_shortest : (n x y : ℕ) (c other : List ℕ) → nearest out target n x y ≡ some c → Chain out target x other y → length c ≤ length other
  unfolding nearest
  nearest_shortest n x y c other h chain =
      let f = nearest_from_some 0 n x y c h in
      let long = (first_chain_chain f.long x y c f.given).1 in
      ⊎_elim (λ low. absurd (first_chain_none (length other) x y other (f.none_less (length other) zero-le low) chain refl)) (λ high. omega arith)
      (below_or_not (length other) f.long)

  -- "Among equal lengths take the chain whose first edge stands earliest in the out-list, then its second, and so on."
  pub nearest_first : (n x y : ℕ) (c other : List ℕ) → nearest out target n x y ≡ some c → Chain out target x other y → length other ≡ length c
      → (c ≡ other) ⊎ Before out target x c other
  unfolding nearest
  nearest_first n x y c other h chain same =
      let f = nearest_from_some 0 n x y c h in
      first_chain_before f.long x y c other f.given chain (same ∙ (first_chain_chain f.long x y c f.given).1)

  -- ---- any chain can be cut to one that comes to no lot twice

  -- the lots that a chain comes to
  abbrev pub visits : ℕ → List ℕ → List ℕ
  visits x c = x ∷ map target c

  pub record Simple (x y : ℕ) : Type 0 where
    pub edges : List ℕ
    pub is_chain : Chain out target x edges y
    pub once : distinct (visits x edges) ≡ true

  -- a chain that comes to no lot twice, from where it comes to x on
  cut : (x z y : ℕ) (c : List ℕ) → Chain out target z c y → distinct (visits z c) ≡ true → member x (visits z c) ≡ true → Simple x y
  unfolding member distinct
  cut x z y [] chain once m =
      by_test (eqb x z) (λ q. record { edges = []; is_chain = eqb-true x z q ∙ chain; once = refl }) (λ q. true_false (or_other m q) refl)
  cut x z y (e ∷ c) chain once m =
      by_test (eqb x z)
      (λ q. let same = sym (eqb-true x z q) in record {
        edges = e ∷ c;
        is_chain = subst (λ (w : ℕ). Chain out target w (e ∷ c) y) same chain;
        once = subst (λ (w : ℕ). distinct (visits w (e ∷ c)) ≡ true) same once;
      })
      (λ q. cut x (target e) y c chain.1 (distinct_tail z (visits (target e) c) once) (or_other m q))

  pub simple : (x y : ℕ) (c : List ℕ) → Chain out target x c y → Simple x y
  unfolding distinct member
  simple x y [] chain = record { edges = []; is_chain = chain; once = refl }
  simple x y (e ∷ c) chain =
      let rest = simple (target e) y c chain.1 in
      by_test (member x (visits (target e) rest.edges))
      (λ m. cut x (target e) y rest.edges rest.is_chain rest.once m)
      (λ m. record { edges = e ∷ rest.edges; is_chain = (chain.0, rest.is_chain); once = both_true (ap not m) rest.once })

  -- every edge of an out-list leads to a lot below n
  abbrev pub Within : ℕ → Type 0
  Within n = (x e : ℕ) → member e (out x) ≡ true → target e < n

  visits_below : (n x y : ℕ) (c : List ℕ) → Within n → x < n → Chain out target x c y → (z : ℕ) → member z (visits x c) ≡ true → z < n
  unfolding member
  visits_below n x y [] within low chain z m = by_test (eqb z x) (λ q. let same = eqb-true z x q in omega arith) (λ q. true_false (or_other m q) refl)
  visits_below n x y (e ∷ c) within low chain z m =
      by_test (eqb z x) (λ q. let same = eqb-true z x q in omega arith)
      (λ q. visits_below n (target e) y c within (within x e chain.0) chain.1 z (or_other m q))

  -- so it has fewer edges than there are lots
  pub simple_short : (n x y : ℕ) → Within n → x < n → (s : Simple x y) → length s.edges < n
  simple_short n x y within low s =
      let few = distinct_within (visits x s.edges) (from 0 n) s.once
      (λ z m. member_below z n ∙ lt-ltb z n (visits_below n x y s.edges within low s.is_chain z m)) in
      let many = length_from 0 n in
      let same = length-map s.edges target in
      omega arith

  -- "A chain is denied only if there is none at all."
  pub nearest_none : (n x y : ℕ) (c : List ℕ) → Within n → x < n → nearest out target n x y ≡ none → Chain out target x c y → ⊥
  unfolding nearest
  nearest_none n x y c within low h chain =
      let s = simple x y c chain in
      first_chain_none (length s.edges) x y s.edges
      (nearest_from_none 0 n x y h (length s.edges) zero-le (let short = simple_short n x y within low s in omega arith)) s.is_chain refl

  -- ---- the request's sentences determine the nearest chain

  pub before_one_way : (x : ℕ) (c d : List ℕ) → Before out target x c d → Before out target x d c → ⊥
  before_one_way x [] d h k = h
  before_one_way x (e ∷ c) [] h k = h
  before_one_way x (e ∷ c) (a ∷ d) h k =
      ⊎_elim
      (λ low. ⊎_elim (λ back. omega arith) (λ same. let q : position a (out x) ≡ position e (out x) = ap (λ (z : ℕ). position z (out x)) same.0 in omega arith) k)
      (λ same. ⊎_elim
      (λ back. let q : position e (out x) ≡ position a (out x) = ap (λ (z : ℕ). position z (out x)) same.0 in omega arith)
      (λ again. before_one_way (target e) c d same.1 (subst (λ (z : ℕ). Before out target (target z) d c) (sym same.0) again.1)) k)
      h

  -- A chain with none shorter, that stands before every other one of its length.
  pub record First (x y : ℕ) (c : List ℕ) : Type 0 where
    pub is_chain : Chain out target x c y
    pub shortest : (other : List ℕ) → Chain out target x other y → length c ≤ length other
    pub first : (other : List ℕ) → Chain out target x other y → length other ≡ length c → (c ≡ other) ⊎ Before out target x c other

  -- what is given is such a chain
  pub nearest_is_first : (n x y : ℕ) (c : List ℕ) → nearest out target n x y ≡ some c → First x y c
  nearest_is_first n x y c h = record {
    is_chain = nearest_chain n x y c h;
    shortest = λ other k. nearest_shortest n x y c other h k;
    first = λ other k. nearest_first n x y c other h k;
  }

  -- there is only one
  pub first_unique : (x y : ℕ) (c d : List ℕ) → First x y c → First x y d → c ≡ d
  first_unique x y c d a b =
      let there = a.shortest d b.is_chain in
      let back = b.shortest c a.is_chain in
      ⊎_elim (λ q. q) (λ before. ⊎_elim (λ q. sym q) (λ after. absurd (before_one_way x c d before after)) (b.first c a.is_chain (omega arith)))
      (a.first d b.is_chain (omega arith))

  -- and it is given wherever there is any
  pub first_nearest : (n x y : ℕ) (c : List ℕ) → Within n → x < n → First x y c → nearest out target n x y ≡ some c
  first_nearest n x y c within low f =
      by_option (nearest out target n x y) (λ d given. given ∙ ap {B = Option (List ℕ)} some (first_unique x y d c (nearest_is_first n x y d given) f))
      (λ nothing. absurd (nearest_none n x y c within low nothing f.is_chain))
