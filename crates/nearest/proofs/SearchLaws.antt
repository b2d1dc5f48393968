-- Laws of the search on lists: how it starts, each way through a turn, and what its words are once it stops.
use Rattle.std.specs.Prelude.{ℕ, suc, ◌+◌, ◌≤◌, ◌<◌, ◌≡◌, refl, Bool, true, false, ◌||◌, ◌⊎◌, List, [], ◌∷◌, ◌++◌, length, get_or, set, eqb}
use Rattle.plain.specs.Library.{sym, ap, ◌∙◌, subst, inl, inr, ⊎_elim, length-append, length-set, get_or-append, get_or-set_same, get_or-set_other, arith, eqb-true, eqb-false, eq-eqb, lt-ltb}
use Prim.Native.Nat.{zero-le}
use native.Mathlib.Nat.{suc_inj}
use lib.Seq.{get_or-append_seam}
use Rattle.plain.specs.Lists.{member, distinct, from}
use Rattle.plain.proofs.Laws.Booleans.{by_test, true_false, below_or_not, or_other, refuted, or_true, or_false}
use Rattle.plain.proofs.Laws.ListLaws.{member_first, member_append, member_at, distinct_within, length_from, member_below}
use Rattle.plain.proofs.Laws.Deleting.{distinct_snoc}
use Rattle.nearest.specs.Chains.{position, Chain}
use Rattle.nearest.specs.Laws.Chains.{position_first, position_later}
use Rattle.nearest.specs.Search.{Network, Consistent, Distance, Search}

-- ---- positions

pub position_below : (e : ℕ) (es : List ℕ) → member e es ≡ true → position e es < length es
unfolding member
position_below e [] m = true_false m refl
position_below e (a ∷ es) m =
    by_test (eqb e a)
    (λ q. let here : position e (a ∷ es) ≡ 0 = ap (λ (z : ℕ). position z (a ∷ es)) (eqb-true e a q) ∙ position_first a es in omega arith)
    (λ q. let here = position_later e a es q in let rest = position_below e es (or_other m q) in omega arith)

pub get_or_position : (e : ℕ) (es : List ℕ) → member e es ≡ true → get_or es (position e es) 0 ≡ e
unfolding member position
get_or_position e [] m = true_false m refl
get_or_position e (a ∷ es) m = by_test (eqb e a) (λ q. rw q (sym (eqb-true e a q))) (λ q. rw q (get_or_position e es (or_other m q)))

-- a member of a list with one more
pub member_snoc : (x : ℕ) (xs : List ℕ) (y : ℕ) → member x (xs ++ (y ∷ [])) ≡ (member x xs || eqb x y)
unfolding member
member_snoc x xs y = member_append x xs (y ∷ []) ∙ ap (λ (b : Bool). member x xs || b) (or_false (eqb x y))

pub member_snoc_old : (x : ℕ) (xs : List ℕ) (y : ℕ) → member x xs ≡ true → member x (xs ++ (y ∷ [])) ≡ true
member_snoc_old x xs y m = member_snoc x xs y ∙ ap (λ (b : Bool). b || eqb x y) m

pub member_snoc_new : (xs : List ℕ) (y : ℕ) → member y (xs ++ (y ∷ [])) ≡ true
member_snoc_new xs y = member_snoc y xs y ∙ ap (λ (b : Bool). member y xs || b) (eq-eqb y y refl) ∙ or_true (member y xs)

-- a member of a list with one more was one, or is that one
pub member_snoc_cases : (x : ℕ) (xs : List ℕ) (y : ℕ) → member x (xs ++ (y ∷ [])) ≡ true → (member x xs ≡ true) ⊎ (x ≡ y)
member_snoc_cases x xs y m = by_test (member x xs) inl (λ q. inr (eqb-true x y (or_other (sym (member_snoc x xs y) ∙ m) q)))

-- ---- distances

module _ (out : ℕ → List ℕ) (target : ℕ → ℕ) where
  pub distance_unique : {y x d k : ℕ} → Distance out target y x d → Distance out target y x k → d ≡ k
  distance_unique a b =
      let there = a.least b.way b.is_chain in
      let back = b.least a.way a.is_chain in
      let la = a.long in
      let lb = b.long in
      omega arith

  -- the lot itself is no edge away
  pub distance_self : (y : ℕ) → Distance out target y y 0
  distance_self y = record { way = []; is_chain = refl; long = refl; least = λ c chain. zero-le }

  -- from x over an edge to where there are d edges less one left
  pub distance_step : {y x d : ℕ} (e : ℕ) (c : List ℕ) → Distance out target y x (suc d) → member e (out x) ≡ true → Chain out target (target e) c y → length c ≡ d
      → Distance out target y (target e) d
  distance_step e c far m chain long = record {
    way = c;
    is_chain = chain;
    long = long;
    least = λ other k. let more = far.least (e ∷ other) (m, k) in omega arith;
  }

-- ---- the search

module _ (t : Network) where
  -- start: all words 0, but for y's
  pub search_start : (y : ℕ) (zeros : List ℕ) → ((x : ℕ) → get_or zeros x 0 ≡ 0) → y < length zeros → Search t y (set zeros y 1) (y ∷ []) 0 []
  unfolding member distinct
  search_start y zeros clear low = record {
    head_within = zero-le;
    goal_seen = member_first y [];
    seen = λ x m. let same : x ≡ y = eqb-true x y (sym (or_false (eqb x y)) ∙ m) in (
      0,
      ap (λ (z : ℕ). get_or (set zeros y 1) z 0) same ∙ get_or-set_same zeros y 1 0 low,
      subst (λ (z : ℕ). Distance t.out t.target y z 0) (sym same) (distance_self t.out t.target y),
    );
    unseen = λ x m. get_or-set_other zeros y x 1 0 (eqb-false x y (sym (or_false (eqb x y)) ∙ m)) ∙ clear x;
    below = λ x m. let same = eqb-true x y (sym (or_false (eqb x y)) ∙ m) in let long = length-set zeros y 1 in omega arith;
    once = refl;
    ascends = λ i j h k. let zj : j ≡ 0 = omega arith in let zi : i ≡ 0 = omega arith in
        let same : get_or (set zeros y 1) (get_or (y ∷ []) i 0) 0 ≡ get_or (set zeros y 1) (get_or (y ∷ []) j 0) 0 = ap (λ (n : ℕ). get_or (set zeros y 1) (get_or (y ∷ []) n 0) 0) (zi ∙ sym zj) in
        omega arith;
    narrow = λ j h k. let zj : j ≡ 0 = omega arith in
        let same : get_or (set zeros y 1) (get_or (y ∷ []) j 0) 0 ≡ get_or (set zeros y 1) y 0 = ap (λ (n : ℕ). get_or (set zeros y 1) (get_or (y ∷ []) n 0) 0) zj in
        omega arith;
    finished = λ i e h m. absurd (omega arith);
    partly = λ e m. true_false m refl;
  }

module _ {t : Network} (consistent : Consistent t) {y : ℕ} {dist order : List ℕ} {head : ℕ} {past : List ℕ} (s : Search t y dist order head past) where
  -- a lot with a word has been seen
  pub word_seen : (x d : ℕ) → get_or dist x 0 ≡ suc d → member x order ≡ true
  word_seen x d w = by_test (member x order) (λ m. m) (λ m. let z = s.unseen x m in absurd (omega arith))

  -- and its word is its distance
  pub word_distance : (x d : ℕ) → get_or dist x 0 ≡ suc d → Distance t.out t.target y x d
  word_distance x d w =
      let k = s.seen x (word_seen x d w) in
      subst (λ (n : ℕ). Distance t.out t.target y x n) (suc_inj (sym k.1 ∙ w)) k.2

  -- a lot without one has not
  pub word_unseen : (x : ℕ) → get_or dist x 0 ≡ 0 → member x order ≡ false
  word_unseen x w = refuted (member x order) (λ m. let k = s.seen x m in let q = k.1 in omega arith)

  -- the lot at the head has been seen
  pub head_seen : head < length order → member (get_or order head 0) order ≡ true
  head_seen more = member_at order head 0 more

  -- every lot that is no farther away than the one at the head has been seen
  pub complete : (c : List ℕ) (x far : ℕ) → head < length order → get_or dist (get_or order head 0) 0 ≡ suc far → Chain t.out t.target x c y → length c ≤ far
      → member x order ≡ true
  complete [] x far more h chain short = subst (λ (z : ℕ). member z order ≡ true) (sym chain) s.goal_seen
  complete (e ∷ c) x far more h chain short =
      let u = t.target e in
      let m : member u order ≡ true = complete c u far more h chain.1 (omega arith) in
      let at = get_or_position u order m in
      ⊎_elim
      (λ low. subst (λ (z : ℕ). member z order ≡ true) (consistent.out_source x e chain.0)
      (s.finished (position u order) e low (subst (λ (z : ℕ). member e (t.ins z) ≡ true) (sym at) (consistent.out_in x e chain.0))))
      (λ high.
      let up = s.ascends head (position u order) high (position_below u order m) in
      let word : get_or dist (get_or order (position u order) 0) 0 ≡ get_or dist u 0 = ap (λ (z : ℕ). get_or dist z 0) at in
      let k = s.seen u m in
      let kw = k.1 in
      let low = k.2.least c chain.1 in
      absurd (omega arith))
      (below_or_not (position u order) head)

  -- once all that were seen are finished, every lot with a chain to y has been seen
  pub exhausted : (c : List ℕ) (x : ℕ) → length order ≤ head → Chain t.out t.target x c y → member x order ≡ true
  exhausted [] x all chain = subst (λ (z : ℕ). member z order ≡ true) (sym chain) s.goal_seen
  exhausted (e ∷ c) x all chain =
      let u = t.target e in
      let m = exhausted c u all chain.1 in
      let at = get_or_position u order m in
      let low = position_below u order m in
      subst (λ (z : ℕ). member z order ≡ true) (consistent.out_source x e chain.0)
      (s.finished (position u order) e (omega arith) (subst (λ (z : ℕ). member e (t.ins z) ≡ true) (sym at) (consistent.out_in x e chain.0)))

  -- a turn over an edge whose source has been seen
  pub search_known : (e : ℕ) → (get_or dist (t.source e) 0 ≡ 0 → ⊥) → Search t y dist order head (past ++ (e ∷ []))
  search_known e known = record {
    head_within = s.head_within;
    goal_seen = s.goal_seen;
    seen = s.seen;
    unseen = s.unseen;
    below = s.below;
    once = s.once;
    ascends = s.ascends;
    narrow = s.narrow;
    finished = s.finished;
    partly = λ k m. ⊎_elim (s.partly k)
        (λ q. subst (λ (z : ℕ). member (t.source z) order ≡ true) (sym q) (by_test (member (t.source e) order) (λ m. m) (λ m. absurd (known (s.unseen (t.source e) m)))))
        (member_snoc_cases k past e m);
  }

  -- the head's in-list is done: the next lot
  pub search_next : head < length order → ((e : ℕ) → member e (t.ins (get_or order head 0)) ≡ true → member e past ≡ true) → Search t y dist order (suc head) []
  unfolding member
  search_next more all = record {
    head_within = more;
    goal_seen = s.goal_seen;
    seen = s.seen;
    unseen = s.unseen;
    below = s.below;
    once = s.once;
    ascends = s.ascends;
    narrow = λ j h k. let here = s.narrow j more k in let up = s.ascends head (suc head) (omega arith) h in omega arith;
    finished = λ i e h m. ⊎_elim (λ low. s.finished i e low m)
        (λ high. let same : i ≡ head = omega arith in s.partly e (all e (subst (λ (n : ℕ). member e (t.ins (get_or order n 0)) ≡ true) same m)))
        (below_or_not i head);
    partly = λ e m. true_false m refl;
  }

  -- a lot not yet seen has room in the queue: it has as many words as there are lots
  pub queue_room : (x : ℕ) → x < length dist → member x order ≡ false → length order < length dist
  queue_room x low new =
      let few = distinct_within (order ++ (x ∷ [])) (from 0 (length dist)) (distinct_snoc order x s.once new)
      (λ z m. member_below z (length dist)
      ∙ lt-ltb z (length dist) (⊎_elim (s.below z) (λ q. subst (λ (w : ℕ). w < length dist) (sym q) low) (member_snoc_cases z order x m))) in
      let long = length-append order (x ∷ []) in
      let many = length_from 0 (length dist) in
      omega arith

  -- ---- a turn over an edge whose source has not been seen: it gets the next distance and goes to the end of the queue
  module _ (more : head < length order) (e : ℕ) (here : member e (t.ins (get_or order head 0)) ≡ true) (new : get_or dist (t.source e) 0 ≡ 0) (low : t.source e < length dist) where
    abbrev z : ℕ
    z = get_or order head 0

    abbrev x : ℕ
    x = t.source e

    abbrev dist' : List ℕ
    dist' = set dist (t.source e) (get_or dist (get_or order head 0) 0 + 1)

    abbrev order' : List ℕ
    order' = order ++ (t.source e ∷ [])

    fresh : member x order ≡ false
    fresh = word_unseen x new

    other : (w : ℕ) → member w order ≡ true → get_or dist' w 0 ≡ get_or dist w 0
    other w m = get_or-set_other dist x w (get_or dist z 0 + 1) 0 (λ q. true_false m (subst (λ (v : ℕ). member v order ≡ false) (sym q) fresh))

    label_old : (i : ℕ) → i < length order → get_or dist' (get_or order' i 0) 0 ≡ get_or dist (get_or order i 0) 0
    label_old i h = ap (λ (v : ℕ). get_or dist' v 0) (get_or-append order (x ∷ []) 0 i h) ∙ other (get_or order i 0) (member_at order i 0 h)

    label_new : (i : ℕ) → i ≡ length order → get_or dist' (get_or order' i 0) 0 ≡ get_or dist z 0 + 1
    label_new i h =
        ap (λ (n : ℕ). get_or dist' (get_or order' n 0) 0) h ∙ ap (λ (v : ℕ). get_or dist' v 0) (get_or-append_seam order x [] 0)
        ∙ get_or-set_same dist x (get_or dist z 0 + 1) 0 low

    long : length order' ≡ length order + 1
    long = length-append order (x ∷ [])

    new_distance : (far : ℕ) → get_or dist z 0 ≡ suc far → Distance t.out t.target y z far → Distance t.out t.target y x (suc far)
    new_distance far w near = record {
      way = e ∷ near.way;
      is_chain = (consistent.in_out z e here, subst (λ (v : ℕ). Chain t.out t.target v near.way y) (sym (consistent.in_target z e here)) near.is_chain);
      long = ap suc near.long;
      least = λ c chain. ⊎_elim (λ short. true_false (complete c x far more w chain (omega arith)) fresh) (λ far. far) (below_or_not (length c) (suc far));
    }

    seen' : (v : ℕ) → member v order' ≡ true → (d : ℕ) × (get_or dist' v 0 ≡ suc d) × Distance t.out t.target y v d
    seen' v m =
        ⊎_elim (λ old. let k = s.seen v old in (k.0, other v old ∙ k.1, k.2))
        (λ q. let k = s.seen z (head_seen more) in
        let word : get_or dist' x 0 ≡ suc (suc k.0) = get_or-set_same dist x (get_or dist z 0 + 1) 0 low ∙ (let kw = k.1 in omega arith) in
        (suc k.0, ap (λ (u : ℕ). get_or dist' u 0) q ∙ word, subst (λ (u : ℕ). Distance t.out t.target y u (suc k.0)) (sym q) (new_distance k.0 k.1 k.2)))
        (member_snoc_cases v order x m)

    pub search_new : Search t y dist' order' head (past ++ (e ∷ []))
    search_new = record {
      head_within = let h = s.head_within in let l = long in omega arith;
      goal_seen = member_snoc_old y order x s.goal_seen;
      seen = seen';
      unseen = λ v m.
          let not-old : member v order ≡ false = refuted (member v order) (λ k. true_false (member_snoc_old v order x k) m) in
          get_or-set_other dist x v (get_or dist z 0 + 1) 0 (λ q. true_false (member_snoc_new order x) (subst (λ (u : ℕ). member u order' ≡ false) q m)) ∙ s.unseen v not-old;
      below = λ v m. let l = length-set dist x (get_or dist z 0 + 1) in
          ⊎_elim (λ old. let h = s.below v old in omega arith) (λ q. omega arith) (member_snoc_cases v order x m);
      once = distinct_snoc order x s.once fresh;
      ascends = λ i j h k. let l = long in
          ⊎_elim (λ old. let a = label_old i (omega arith) in let b = label_old j old in let up = s.ascends i j h old in omega arith)
          (λ end. let b = label_new j (omega arith) in
          ⊎_elim (λ old. let a = label_old i old in let up = s.narrow i more old in omega arith) (λ last. let a = label_new i (omega arith) in omega arith)
          (below_or_not i (length order)))
          (below_or_not j (length order));
      narrow = λ j h k. let l = long in let b = label_old head more in
          ⊎_elim (λ old. let a = label_old j old in let up = s.narrow j more old in omega arith) (λ end. let a = label_new j (omega arith) in omega arith)
          (below_or_not j (length order));
      finished = λ i k h m. member_snoc_old (t.source k) order x
          (s.finished i k h (subst (λ (v : ℕ). member k (t.ins v) ≡ true) (get_or-append order (x ∷ []) 0 i (let w = s.head_within in omega arith)) m));
      partly = λ k m. ⊎_elim (λ old. member_snoc_old (t.source k) order x (s.partly k old))
          (λ q. subst (λ (v : ℕ). member (t.source v) order' ≡ true) (sym q) (member_snoc_new order x)) (member_snoc_cases k past e m);
    }

  -- ---- the end of the search

  -- the queue is done and the first lot has no word: there is no chain
  pub search_none : (a : ℕ) → length order ≤ head → get_or dist a 0 ≡ 0 → (c : List ℕ) → Chain t.out t.target a c y → ⊥
  search_none a all w c chain = true_false (exhausted c a all chain) (word_unseen a w)

  -- the first lot has a word: up to its distance, words are exactly distances
  pub search_words : (a d : ℕ) → get_or dist a 0 ≡ suc d → (x k : ℕ) → k < d → Distance t.out t.target y x k → get_or dist x 0 ≡ suc k
  search_words a d w x k low near =
      let found = s.seen x seen_x in
      found.1 ∙ ap suc (distance_unique t.out t.target found.2 near)
    where
      seen_x : member x order ≡ true
      seen_x =
          ⊎_elim
          (λ more.
          let m = word_seen a d w in
          let h = s.seen (get_or order head 0) (head_seen more) in
          let wide = s.narrow (position a order) more (position_below a order m) in
          let at : get_or dist (get_or order (position a order) 0) 0 ≡ get_or dist a 0 = ap (λ (v : ℕ). get_or dist v 0) (get_or_position a order m) in
          let long = near.long in
          let hw = h.1 in
          complete near.way x h.0 more h.1 near.is_chain (omega arith))
          (λ all. exhausted near.way x all near.is_chain) (below_or_not head (length order))
