-- Laws of linked lists. The relations `Line`, `Run` and `Ring` determine the list: `chain` and `ring` give it. A list depends only on the links of its own
-- entries, so it stays where other links change; and it grows at its end by one entry.
use Rattle.std.specs.Prelude.{ℕ, zero, suc, ◌+◌, ◌-◌, ◌≤◌, ◌<◌, ◌≡◌, refl, true, false, cond, ◌⊎◌, ◌≢◌, List, [], ◌∷◌, ◌++◌, length, eqb}
use Rattle.plain.specs.Library.{sym, ap, ◌∙◌, subst, inl, inr, ⊎_elim, length-append, lt_of_lt_of_le, arith, eq-eqb, ne_eqb, eqb-true, eqb-false, le-leb, lt-ltb}
use Rattle.std.proofs.Common.{zero-le, not-suc-le-zero, le_of_suc-le-suc, le_trans, le_refl, sub-one}
use Rattle.plain.specs.Numbers.{NONE, LIMIT}
use Rattle.plain.specs.Lists.{member, distinct, from}
use Rattle.plain.proofs.Laws.Booleans.{by_test, true_false, both_true, refuted, or_true, or_false}
use Rattle.plain.proofs.Laws.ListLaws.{member_first, member_later, member_append, member_from, length_from, distinct_head, distinct_tail, distinct_apart, distinct_within}
use Rattle.plain.proofs.Laws.Deleting.{distinct_snoc}
use Rattle.shape.specs.Chains.{chain, until, ring, In, Seg, Line, Run, Ring}

-- ---- members of a list with one entry more, and the pigeonhole

-- a member of the front is a member of the whole
pub in_front : (x : ℕ) (xs ys : List ℕ) → In x xs → In x (xs ++ ys)
in_front x xs ys m = rw (member_append x xs ys, m)

-- the last entry is a member
pub in_last : (e : ℕ) (xs : List ℕ) → In e (xs ++ (e ∷ []))
in_last e xs = rw (member_append e xs (e ∷ []), member_first e []) (or_true (member e xs))

-- a member is one of the front, or the last entry
pub in_snoc : (x : ℕ) (xs : List ℕ) (e : ℕ) → In x (xs ++ (e ∷ [])) → In x xs ⊎ (x ≡ e)
unfolding member
in_snoc x xs e m =
    by_test (eqb x e) (λ q. inr (eqb-true x e q)) (λ q. inl (rw (member_append x xs (e ∷ []), q, or_false (member x xs)) at m))

-- nothing is a member of the empty list
pub in_none : {P : Type 0} (x : ℕ) → In x [] → P
unfolding member
in_none x m = true_false m refl

-- different numbers from lo on that are below hi are at most hi - lo
pub distinct_range : (lo hi : ℕ) (xs : List ℕ) → distinct xs ≡ true → ((x : ℕ) → In x xs → lo ≤ x) → ((x : ℕ) → In x xs → x < hi) → length xs ≤ hi - lo
distinct_range lo hi xs once least below =
    subst (λ (n : ℕ). length xs ≤ n) (length_from lo (hi - lo)) (distinct_within xs (from lo (hi - lo)) once within)
  where
    within : (x : ℕ) → In x xs → In x (from lo (hi - lo))
    within x m =
        let low = least x m in
        let high = below x m in
        member_from x lo (hi - lo) ∙ both_true (le-leb lo x low) (lt-ltb x (lo + (hi - lo)) (omega arith))

-- ---- segments

-- one segment after another
pub seg_append : (link : ℕ → ℕ) (e : ℕ) (xs : List ℕ) (q : ℕ) (ys : List ℕ) (r : ℕ) → Seg link e xs q → Seg link q ys r → Seg link e (xs ++ ys) r
seg_append link e [] q ys r s t = subst (λ (z : ℕ). Seg link z ys r) (sym s) t
seg_append link e (x ∷ xs) q ys r s t = (s.0, seg_append link (link x) xs q ys r s.1 t)

-- a segment asks only the links of its own entries
pub seg_agree : (nx mx : ℕ → ℕ) (e : ℕ) (xs : List ℕ) (q : ℕ) → ((x : ℕ) → In x xs → mx x ≡ nx x) → Seg nx e xs q → Seg mx e xs q
seg_agree nx mx e [] q h s = s
seg_agree nx mx e (x ∷ xs) q h s = (
  s.0,
  subst (λ (z : ℕ). Seg mx z xs q) (sym (h x (member_first x xs))) (seg_agree nx mx (nx x) xs q (λ y m. h y (member_later y x xs m)) s.1),
)

-- ---- lines

-- one entry
pub line_one : (link : ℕ → ℕ) {lo hi : ℕ} (e : ℕ) → lo ≤ e → e < hi → Line link lo hi e e (e ∷ [])
unfolding distinct member
line_one link {lo} {hi} e low high =
    record {
      front = [];
      ends = refl;
      visits = refl;
      once = refl;
      least = λ x m. rw (only x m) low;
      below = λ x m. rw (only x m) high;
    }
  where
    only : (x : ℕ) → In x (e ∷ []) → x ≡ e
    only x m = ⊎_elim (in_none x) (λ q. q) (in_snoc x [] e m)

-- the last entry is a member
pub line_last : {link : ℕ → ℕ} {lo hi f t : ℕ} {xs : List ℕ} → Line link lo hi f t xs → In t xs
line_last {t = t} w = rw w.ends (in_last t w.front)

-- a line asks only the links of its own entries
pub line_agree : {nx : ℕ → ℕ} (mx : ℕ → ℕ) {lo hi f t : ℕ} {xs : List ℕ} → ((x : ℕ) → In x xs → mx x ≡ nx x) → Line nx lo hi f t xs
    → Line mx lo hi f t xs
line_agree {nx} mx {f = f} {t = t} h w =
    record {
      front = w.front;
      ends = w.ends;
      visits = seg_agree nx mx f w.front t (λ x m. h x (rw w.ends (in_front x w.front (t ∷ []) m))) w.visits;
      once = w.once;
      least = w.least;
      below = w.below;
    }

-- wider bounds
pub line_wider : {link : ℕ → ℕ} {lo lo' hi hi' f t : ℕ} {xs : List ℕ} → lo' ≤ lo → hi ≤ hi' → Line link lo hi f t xs → Line link lo' hi' f t xs
line_wider low high w =
    record {
      front = w.front;
      ends = w.ends;
      visits = w.visits;
      once = w.once;
      least = λ x m. le_trans low (w.least x m);
      below = λ x m. lt_of_lt_of_le (w.below x m) high;
    }

-- as many entries as the bounds allow
pub line_short : {link : ℕ → ℕ} {lo hi f t : ℕ} {xs : List ℕ} → Line link lo hi f t xs → length xs ≤ hi - lo
line_short {lo = lo} {hi = hi} {xs = xs} w = distinct_range lo hi xs w.once w.least w.below

-- one more entry, to which the last one now points
pub line_more : {nx : ℕ → ℕ} (mx : ℕ → ℕ) {lo hi f t : ℕ} {xs : List ℕ} (e : ℕ) → lo ≤ e → e < hi → member e xs ≡ false → mx t ≡ e
    → ((x : ℕ) → In x xs → x ≢ t → mx x ≡ nx x) → Line nx lo hi f t xs → Line mx lo hi f e (xs ++ (e ∷ []))
line_more {nx} mx {lo} {hi} {f} {t} {xs} e low high new last other w =
    record {
      front = xs;
      ends = refl;
      visits = rw w.ends (seg_append mx f w.front t (t ∷ []) e (seg_agree nx mx f w.front t before w.visits) (refl, last));
      once = distinct_snoc xs e w.once new;
      least = λ x m. ⊎_elim (w.least x) (λ q. rw q low) (in_snoc x xs e m);
      below = λ x m. ⊎_elim (w.below x) (λ q. rw q high) (in_snoc x xs e m);
    }
  where
    once : distinct (w.front ++ (t ∷ [])) ≡ true
    once = rw w.ends at w.once

    before : (x : ℕ) → In x w.front → mx x ≡ nx x
    before x m =
        other x (rw w.ends (in_front x w.front (t ∷ []) m))
        (λ q. true_false (member_first t []) (ap (λ (z : ℕ). member z (t ∷ [])) (sym q) ∙ distinct_apart w.front (t ∷ []) once x m))

-- where the first entry is the last, it is the only one
pub line_stop : {link : ℕ → ℕ} {lo hi f t : ℕ} {xs : List ℕ} → f ≡ t → Line link lo hi f t xs → xs ≡ t ∷ []
line_stop {link} {lo} {hi} {f} {t} {xs} q w = go w.front w.ends w.visits
  where
    go : (front : List ℕ) → xs ≡ front ++ (t ∷ []) → Seg link f front t → xs ≡ t ∷ []
    go [] p s = p
    go (y ∷ ys) p s =
        true_false (in_last t ys) (ap (λ (z : ℕ). member z (ys ++ (t ∷ []))) (sym q ∙ s.0) ∙ distinct_head y (ys ++ (t ∷ [])) (rw p at w.once))

-- otherwise a line from the next entry follows it
pub line_step : {link : ℕ → ℕ} {lo hi f t : ℕ} {xs : List ℕ} → f ≢ t → Line link lo hi f t xs
    → (rest : List ℕ) × (xs ≡ f ∷ rest) × Line link lo hi (link f) t rest
line_step {link} {lo} {hi} {f} {t} {xs} ne w = go w.front w.ends w.visits
  where
    go : (front : List ℕ) → xs ≡ front ++ (t ∷ []) → Seg link f front t → (rest : List ℕ) × (xs ≡ f ∷ rest) × Line link lo hi (link f) t rest
    go [] p s = absurd (ne s)
    go (y ∷ ys) p s =
        let rest = ys ++ (t ∷ []) in (
          rest,
          p ∙ ap (λ (z : ℕ). z ∷ rest) (sym s.0),
          record {
            front = ys;
            ends = refl;
            visits = subst (λ (z : ℕ). Seg link (link z) ys t) (sym s.0) s.1;
            once = distinct_tail y rest (rw p at w.once);
            least = λ x m. w.least x (rw p (member_later x y rest m));
            below = λ x m. w.below x (rw p (member_later x y rest m));
          },
        )

-- the first entry is a member
pub line_first : {link : ℕ → ℕ} {lo hi f t : ℕ} {xs : List ℕ} → Line link lo hi f t xs → In f xs
line_first {link} {lo} {hi} {f} {t} {xs} w =
    by_test (eqb f t) (λ q. subst (λ (z : ℕ). In z xs) (sym (eqb-true f t q)) (line_last w))
    (λ q. let next = line_step (eqb-false f t q) w in rw next.1 (member_first f next.0))

-- ---- chains

-- the chain of no entries
pub chain_none : (link : ℕ → ℕ) (n e : ℕ) → n ≡ 0 → chain link n e ≡ []
unfolding chain
chain_none link n e h = rw h

-- a chain of some entries: the first, and the chain from the next one on
pub chain_some : (link : ℕ → ℕ) (n e : ℕ) → 0 < n → chain link n e ≡ e ∷ chain link (n - 1) (link e)
unfolding chain
chain_some link zero e h = absurd (not-suc-le-zero h)
chain_some link (suc n) e h = rw (sub-one (suc n))

-- a chain has as many entries as were asked for
pub chain_length : (link : ℕ → ℕ) (n e : ℕ) → length (chain link n e) ≡ n
unfolding chain
chain_length link zero e = refl
chain_length link (suc n) e = ap suc (chain_length link n (link e))

-- a chain asks only the links of its own entries
pub chain_agree : (nx mx : ℕ → ℕ) (n e : ℕ) → ((x : ℕ) → In x (chain nx n e) → mx x ≡ nx x) → chain mx n e ≡ chain nx n e
unfolding chain
chain_agree nx mx zero e h = refl
chain_agree nx mx (suc n) e h =
    let rest = chain nx n (nx e) in
    rw (h e (member_first e rest)) (ap (λ (l : List ℕ). e ∷ l) (chain_agree nx mx n (nx e) (λ x m. h x (member_later x e rest m))))

-- a segment and the entry to which it leads are a chain
chain_seg : (link : ℕ → ℕ) (e : ℕ) (ys : List ℕ) (t : ℕ) → Seg link e ys t → chain link (length (ys ++ (t ∷ []))) e ≡ ys ++ (t ∷ [])
unfolding chain
chain_seg link e [] t s = rw s
chain_seg link e (y ∷ ys) t s = rw s.0 (ap (λ (l : List ℕ). y ∷ l) (chain_seg link (link y) ys t s.1))

-- a line is the chain of its length from its first entry on
pub line_is : {link : ℕ → ℕ} {lo hi f t : ℕ} {xs : List ℕ} → Line link lo hi f t xs → chain link (length xs) f ≡ xs
line_is {link} {f = f} {t = t} w = rw w.ends (chain_seg link f w.front t w.visits)

-- ---- runs

module _ {link : ℕ → ℕ} {hi f t n : ℕ} {xs : List ℕ} where
  -- the chain of n entries from f on is the run
  pub run_is : Run link hi f t n xs → chain link n f ≡ xs
  unfolding chain
  run_is r = rw r.counted (⊎_elim (λ q. rw q) line_is r.line)

  -- each entry is below the bound
  pub run_below : Run link hi f t n xs → (x : ℕ) → In x xs → x < hi
  run_below r x m = ⊎_elim (λ q. in_none x (rw q at m)) (λ w. w.below x m) r.line

  -- no entry is twice in a run
  pub run_once : Run link hi f t n xs → distinct xs ≡ true
  unfolding distinct
  run_once r = ⊎_elim (λ q. rw q) (λ w. w.once) r.line

  -- so a run is no longer than the bound
  pub run_short : Run link hi f t n xs → n ≤ hi
  run_short r =
      let few = distinct_range 0 hi xs (run_once r) (λ x m. zero-le) (run_below r) in
      omega (arith, r.counted)

  -- a run of no entries
  pub run_empty : n ≡ 0 → Run link hi f t n xs → xs ≡ []
  run_empty none r = sym (run_is r) ∙ chain_none link n f none

  -- a run of some entries is a line
  pub run_line : n ≢ 0 → Run link hi f t n xs → Line link 0 hi f t xs
  run_line some r = ⊎_elim (λ q. absurd (some (r.counted ∙ ap length q))) (λ w. w) r.line

  -- a run asks only the links of its own entries
  pub run_agree : (mx : ℕ → ℕ) → ((x : ℕ) → In x xs → mx x ≡ link x) → Run link hi f t n xs → Run mx hi f t n xs
  run_agree mx h r = record { counted = r.counted; line = ⊎_elim (λ q. inl q) (λ w. inr (line_agree mx h w)) r.line }

  -- a higher bound
  pub run_wider : {hi' : ℕ} → hi ≤ hi' → Run link hi f t n xs → Run link hi' f t n xs
  run_wider high r = record { counted = r.counted; line = ⊎_elim (λ q. inl q) (λ w. inr (line_wider zero-le high w)) r.line }

-- ---- rings

-- a segment up to the last entry, where there is room for all
pub until_is : (link : ℕ → ℕ) (last n e : ℕ) (ys : List ℕ) → Seg link e ys last → member last ys ≡ false → length ys < n
    → until link last n e ≡ ys ++ (last ∷ [])
unfolding until
until_is link last zero e ys s new h = absurd (not-suc-le-zero h)
until_is link last (suc n) e [] s new h = rw (eq-eqb e last s, s)
until_is link last (suc n) e (y ∷ ys) s new h =
    rw (s.0, ne_eqb y last (λ q. true_false (member_first y ys) (ap (λ (z : ℕ). member z (y ∷ ys)) q ∙ new)))
    (ap (λ (l : List ℕ). y ∷ l) (until_is link last n (link y) ys s.1 (absent new) (le_of_suc-le-suc h)))
  where
    absent : member last (y ∷ ys) ≡ false → member last ys ≡ false
    absent k = by_test (member last ys) (λ m. true_false (member_later last y ys m) k) (λ m. m)

-- the function reads the links of its own entries alone, whatever they are
pub until_agree : (nx mx : ℕ → ℕ) (last n e : ℕ) → ((x : ℕ) → In x (until nx last n e) → mx x ≡ nx x) → until mx last n e ≡ until nx last n e
unfolding until
until_agree nx mx last zero e h = refl
until_agree nx mx last (suc n) e h =
    rw (h e (member_first e (cond (eqb e last) [] (until nx last n (nx e)))))
    (by_test (eqb e last) (λ q. rw q)
    (λ q. rw q (ap (λ (l : List ℕ). e ∷ l) (until_agree nx mx last n (nx e) (λ x m. h x (rw q (member_later x e (until nx last n (nx e)) m)))))))

-- the last entry of a ring that is not empty is a number below the bound, so it is not NONE
ring_some : {link : ℕ → ℕ} {lo hi l : ℕ} {xs : List ℕ} → hi ≤ LIMIT → Line link lo hi (link l) l xs → l ≢ NONE
ring_some small w q = let high = w.below _ (line_last w) in omega arith

module _ {link : ℕ → ℕ} {lo hi l : ℕ} {xs : List ℕ} where
  -- the function gives the ring
  pub ring_is : hi ≤ LIMIT → Ring link lo hi l xs → ring link (hi - lo) l ≡ xs
  unfolding ring
  ring_is small (inl w) = rw (eq-eqb l NONE w.0, w.1)
  ring_is small (inr w) =
      let once : distinct (w.front ++ (l ∷ [])) ≡ true = rw w.ends at w.once in
      let short = line_short w in
      let room : length w.front < hi - lo = omega (arith, simp length-append at (ap length w.ends)) in
      rw (ne_eqb l NONE (ring_some small w), w.ends)
      (until_is link l (hi - lo) (link l) w.front w.visits (refuted (member l w.front) (λ m. true_false (member_first l []) (distinct_apart w.front (l ∷ []) once l m))) room)

  -- the last entry is in the ring
  pub ring_last : l ≢ NONE → Ring link lo hi l xs → In l xs
  ring_last some (inl w) = absurd (some w.0)
  ring_last some (inr w) = line_last w

  -- a ring with a last entry is a line
  pub ring_line : l ≢ NONE → Ring link lo hi l xs → Line link lo hi (link l) l xs
  ring_line some (inl w) = absurd (some w.0)
  ring_line some (inr w) = w

  -- each entry is below the bound
  pub ring_below : Ring link lo hi l xs → (x : ℕ) → In x xs → x < hi
  ring_below (inl w) x m = in_none x (rw w.1 at m)
  ring_below (inr w) x m = w.below x m

  -- and not below the least
  pub ring_least : Ring link lo hi l xs → (x : ℕ) → In x xs → lo ≤ x
  ring_least (inl w) x m = in_none x (rw w.1 at m)
  ring_least (inr w) x m = w.least x m

  -- NONE is the last entry of the empty ring
  pub ring_none : hi ≤ LIMIT → l ≡ NONE → Ring link lo hi l xs → xs ≡ []
  ring_none small none (inl w) = w.1
  ring_none small none (inr w) = absurd (ring_some small w none)

  -- no entry is twice in a ring
  pub ring_once : Ring link lo hi l xs → distinct xs ≡ true
  unfolding distinct
  ring_once (inl w) = rw w.1
  ring_once (inr w) = w.once

  -- so a ring is no longer than its bounds allow
  pub ring_short : Ring link lo hi l xs → length xs ≤ hi - lo
  ring_short r = distinct_range lo hi xs (ring_once r) (ring_least r) (ring_below r)

  -- a higher bound
  pub ring_wider : {hi' : ℕ} → hi ≤ hi' → Ring link lo hi l xs → Ring link lo hi' l xs
  ring_wider high (inl w) = inl w
  ring_wider high (inr w) = inr (line_wider (le_refl lo) high w)

  -- a ring asks only the links of its own entries
  pub ring_agree : (mx : ℕ → ℕ) → ((x : ℕ) → In x xs → mx x ≡ link x) → Ring link lo hi l xs → Ring mx lo hi l xs
  ring_agree mx h (inl w) = inl w
  ring_agree mx h (inr w) = inr (rw (h l (line_last w)) (line_agree mx h w))

  -- one more entry, below a bound that may have risen: it points to the first, and the old last entry to it
  pub ring_more : (mx : ℕ → ℕ) {hi' : ℕ} (e : ℕ) → l ≢ NONE → hi ≤ hi' → lo ≤ e → e < hi' → member e xs ≡ false → mx e ≡ link l → mx l ≡ e
      → ((x : ℕ) → In x xs → x ≢ l → mx x ≡ link x) → Ring link lo hi l xs → Ring mx lo hi' e (xs ++ (e ∷ []))
  ring_more mx e some rise low high new first last other (inl w) = absurd (some w.0)
  ring_more mx e some rise low high new first last other (inr w) = inr (rw first (line_more mx e low high new last other (line_wider (le_refl lo) rise w)))

-- the first entry of a ring points to itself
pub ring_first : (link : ℕ → ℕ) {lo hi : ℕ} (e : ℕ) → lo ≤ e → e < hi → link e ≡ e → Ring link lo hi e (e ∷ [])
ring_first link e low high self = inr (rw self (line_one link e low high))
