-- General laws of the functions on lists that the definitions use: elements, members, filters and counts, lists without repeats and the pigeonhole,
-- consecutive numbers, lists of lists.
use Rattle.std.specs.Prelude.{ℕ, zero, suc, ◌+◌, ◌≤◌, ◌<◌, ◌≡◌, refl, Bool, true, false, cond, ◌&&◌, ◌||◌, not, List, [], ◌∷◌, ◌++◌, map, length, get_or, replicate, eqb, leb, ltb}
use Rattle.plain.specs.Library.{sym, ap, ap₂, ◌∙◌, subst, map-map, arith, eqb-true, eqb-false, eq-eqb, ne_eqb, leb-true, le-leb, lt-leb, lt-ltb, ltb-true, not-true}
use Prim.Native.Nat.{zero-le, suc-le-suc}
use Rattle.std.proofs.Common.{not-suc-le-zero, le_of_suc-le-suc, map-id}
use Rattle.std.proofs.Math.Bool.{or_assoc, or-true, and-true, and-false}
use Rattle.std.proofs.Math.Dec.{eqb-zero-suc}
use Rattle.plain.specs.Lists.{member, without, distinct, from, keep, all, count, joined}
use Rattle.plain.proofs.Laws.Booleans.{by_test, true_false, refuted, and_left, and_right, both_true, or_other, leb_same, eqb_same}

-- ---- elements and maps

module _ {A : Type 0} where
  -- within the list, the element does not depend on what stands past its end
  pub get_d_default : (xs : List A) (i : ℕ) (c d : A) → i < length xs → get_or xs i c ≡ get_or xs i d
  get_d_default [] i c d h = absurd (not-suc-le-zero h)
  get_d_default (x ∷ xs) zero c d h = refl
  get_d_default (x ∷ xs) (suc i) c d h = get_d_default xs i c d (le_of_suc-le-suc h)

module _ {A B : Type 0} where
  -- an element of a map is the function's value there
  pub get_d_map : (f : A → B) (xs : List A) (i : ℕ) (c : A) (d : B) → i < length xs → get_or (map f xs) i d ≡ f (get_or xs i c)
  get_d_map f [] i c d h = absurd (not-suc-le-zero h)
  get_d_map f (x ∷ xs) zero c d h = refl
  get_d_map f (x ∷ xs) (suc i) c d h = get_d_map f xs i c d (le_of_suc-le-suc h)

  -- what is true of all values, and of what stands past the end, is true of the elements of a map
  pub get_or_map_each : (P : B → Type 0) (f : A → B) (xs : List A) (d : B) → P d → ((x : A) → P (f x)) → (i : ℕ) → P (get_or (map f xs) i d)
  get_or_map_each P f [] d past each i = past
  get_or_map_each P f (x ∷ xs) d past each zero = each x
  get_or_map_each P f (x ∷ xs) d past each (suc i) = get_or_map_each P f xs d past each i

  -- a map to one value repeats it
  pub map_replicate : (f : A → B) (b : B) (xs : List A) → ((x : A) → f x ≡ b) → map f xs ≡ replicate (length xs) b
  map_replicate f b [] each = refl
  map_replicate f b (x ∷ xs) each = ap₂ {B = List B} (λ y ys. y ∷ ys) (each x) (map_replicate f b xs each)

-- ---- members

-- the first entry is a member
pub member_first : (x : ℕ) (xs : List ℕ) → member x (x ∷ xs) ≡ true
unfolding member
member_first x xs = rw (eq-eqb x x refl)

-- a member of the rest is a member
pub member_later : (e x : ℕ) (xs : List ℕ) → member e xs ≡ true → member e (x ∷ xs) ≡ true
unfolding member
member_later e x xs h = rw h (or-true (eqb e x))

-- each element is a member
pub member_at : (xs : List ℕ) (i d : ℕ) → i < length xs → member (get_or xs i d) xs ≡ true
member_at [] i d h = absurd (not-suc-le-zero h)
member_at (x ∷ xs) zero d h = member_first x xs
member_at (x ∷ xs) (suc i) d h = member_later (get_or xs i d) x xs (member_at xs i d (le_of_suc-le-suc h))

-- a member of two lists, one after the other, is a member of one of them
pub member_append : (e : ℕ) (xs ys : List ℕ) → member e (xs ++ ys) ≡ (member e xs || member e ys)
unfolding member
member_append e [] ys = refl
member_append e (x ∷ xs) ys = rw (member_append e xs ys) (sym (or_assoc (eqb e x) (member e xs) (member e ys)))

-- a number's value is a member of a map exactly where the number is a member, if no other member has that value
pub member_map : (f : ℕ → ℕ) (e : ℕ) (xs : List ℕ) → ((x : ℕ) → member x xs ≡ true → f e ≡ f x → e ≡ x) → member (f e) (map f xs) ≡ member e xs
unfolding member
member_map f e [] only = refl
member_map f e (x ∷ xs) only =
    ap₂ ◌||◌ (eqb_same (f e) (f x) e x (only x (member_first x xs)) (ap f)) (member_map f e xs (λ y h. only y (member_later y x xs h)))

-- a member's value is a member of the map
pub member_mapped : (f : ℕ → ℕ) (e : ℕ) (xs : List ℕ) → member e xs ≡ true → member (f e) (map f xs) ≡ true
unfolding member
member_mapped f e [] h = h
member_mapped f e (x ∷ xs) h =
    by_test (eqb e x) (λ q. rw (eq-eqb (f e) (f x) (ap f (eqb-true e x q))))
    (λ q. member_later (f e) (f x) (map f xs) (member_mapped f e xs (or_other h q)))

-- a member of a map is the value at some member
pub member_source : (f : ℕ → ℕ) (e : ℕ) (xs : List ℕ) → member e (map f xs) ≡ true → (x : ℕ) × (member x xs ≡ true) × (f x ≡ e)
unfolding member
member_source f e [] h = true_false h refl
member_source f e (x ∷ xs) h =
    by_test (eqb e (f x)) (λ q. (x, member_first x xs, sym (eqb-true e (f x) q)))
    (λ q. let found = member_source f e xs (or_other h q) in (found.0, member_later found.0 x xs found.1, found.2))

-- of the numbers one higher, none is 0
pub member_zero_suc : (xs : List ℕ) → member zero (map suc xs) ≡ false
unfolding member
member_zero_suc [] = refl
member_zero_suc (x ∷ xs) = rw eqb-zero-suc (member_zero_suc xs)

-- maps that agree at the members are equal
pub map_same : {A : Type 0} (f g : ℕ → A) (xs : List ℕ) → ((x : ℕ) → member x xs ≡ true → f x ≡ g x) → map f xs ≡ map g xs
map_same f g [] agree = refl
map_same {A = A} f g (x ∷ xs) agree =
    ap₂ {B = List A} (λ y ys. y ∷ ys) (agree x (member_first x xs)) (map_same f g xs (λ y h. agree y (member_later y x xs h)))

-- a map that leaves the members as they are leaves the list as it is
pub map_unchanged : (f : ℕ → ℕ) (xs : List ℕ) → ((x : ℕ) → member x xs ≡ true → f x ≡ x) → map f xs ≡ xs
map_unchanged f xs fixed = map_same f (λ x. x) xs fixed ∙ map-id xs

-- all pass where each member does
pub all_of : (test : ℕ → Bool) (xs : List ℕ) → ((x : ℕ) → member x xs ≡ true → test x ≡ true) → all test xs ≡ true
unfolding all
all_of test [] each = refl
all_of test (x ∷ xs) each = both_true (each x (member_first x xs)) (all_of test xs (λ y h. each y (member_later y x xs h)))

-- where all pass, each member does
pub all_member : (test : ℕ → Bool) (xs : List ℕ) → all test xs ≡ true → (x : ℕ) → member x xs ≡ true → test x ≡ true
unfolding all member
all_member test [] h x k = true_false k refl
all_member test (y ∷ ys) h x k =
    by_test (eqb x y) (λ q. ap test (eqb-true x y q) ∙ and_left (test y) (all test ys) h)
    (λ q. all_member test ys (and_right (test y) (all test ys) h) x (or_other k q))

-- all pass a test where what stands at each place does
pub all_places : {A : Type 0} (test : A → Bool) (xs : List A) (d : A) → ((i : ℕ) → i < length xs → test (get_or xs i d) ≡ true) → all test xs ≡ true
unfolding all
all_places test [] d each = refl
all_places test (x ∷ xs) d each = both_true (each 0 (omega arith)) (all_places test xs d (λ i h. each (suc i) (omega arith)))

-- and the other way round
pub all_at : {A : Type 0} (test : A → Bool) (xs : List A) (d : A) → all test xs ≡ true → (i : ℕ) → i < length xs → test (get_or xs i d) ≡ true
unfolding all
all_at test [] d h i l = absurd (omega arith)
all_at test (x ∷ xs) d h zero l = and_left (test x) (all test xs) h
all_at test (x ∷ xs) d h (suc i) l = all_at test xs d (and_right (test x) (all test xs) h) i (omega arith)

-- ---- filters and counts

-- the members of a filter are the members that pass
pub member_keep : (test : ℕ → Bool) (e : ℕ) (xs : List ℕ) → member e (keep test xs) ≡ (member e xs && test e)
unfolding member keep
member_keep test e [] = refl
member_keep test e (x ∷ xs) =
    let rest = member_keep test e xs in
    by_test (eqb e x) (λ q. let same = ap test (eqb-true e x q) in
    by_test (test x) (λ t. rw (t, q) (sym (same ∙ t))) (λ t. rw (t, q, rest, same ∙ t) (and-false (member e xs))))
    (λ q. by_test (test x) (λ t. rw (t, q) rest) (λ t. rw (t, q) rest))

module _ {A : Type 0} where
  -- as many pass as a filter keeps
  pub length_keep : (test : A → Bool) (xs : List A) → length (keep test xs) ≡ count test xs
  unfolding keep count
  length_keep test [] = refl
  length_keep test (x ∷ xs) =
      let rest = length_keep test xs in
      by_test (test x) (λ t. rw t (omega arith)) (λ t. rw t (omega arith))

  -- no more pass than there are
  pub count_length : (test : A → Bool) (xs : List A) → count test xs ≤ length xs
  unfolding count
  count_length test [] = zero-le
  count_length test (x ∷ xs) =
      let rest = count_length test xs in
      by_test (test x) (λ t. rw t (omega arith)) (λ t. rw t (omega arith))

  -- a count of two lists is the sum of the counts
  pub count_append : (test : A → Bool) (xs ys : List A) → count test (xs ++ ys) ≡ count test xs + count test ys
  unfolding count
  count_append test [] ys = omega arith
  count_append test (x ∷ xs) ys = let rest = count_append test xs ys in omega arith

module _ {A B : Type 0} where
  -- a count in a map
  pub count_map : (test : B → Bool) (f : A → B) (xs : List A) → count test (map f xs) ≡ count (λ x. test (f x)) xs
  unfolding count
  count_map test f [] = refl
  count_map test f (x ∷ xs) = ap (λ (n : ℕ). cond (test (f x)) 1 0 + n) (count_map test f xs)

-- ---- deleting

-- deleting x is keeping what is not x
pub without_keep : (x : ℕ) (xs : List ℕ) → without x xs ≡ keep (λ y. not (eqb x y)) xs
unfolding without keep
without_keep x [] = refl
without_keep x (y ∷ ys) =
    let rest = without_keep x ys in
    by_test (eqb x y) (λ q. rw q rest) (λ q. rw q (ap (λ (l : List ℕ). y ∷ l) rest))

-- the members of a list without x are the others than x
pub member_without : (e x : ℕ) (xs : List ℕ) → member e (without x xs) ≡ (member e xs && not (eqb x e))
member_without e x xs = ap (member e) (without_keep x xs) ∙ member_keep (λ y. not (eqb x y)) e xs

-- where x is no member, there is nothing to delete
pub without_absent : (x : ℕ) (xs : List ℕ) → member x xs ≡ false → without x xs ≡ xs
unfolding member without
without_absent x [] h = refl
without_absent x (y ∷ ys) h =
    by_test (eqb x y) (λ q. true_false (rw q at (sym h)) refl) (λ q. rw q (ap (λ (l : List ℕ). y ∷ l) (without_absent x ys (rw q at h))))

-- deleting leaves no more entries
pub length_without : (x : ℕ) (xs : List ℕ) → length (without x xs) ≤ length xs
length_without x xs =
    let kept = ap length (without_keep x xs) ∙ length_keep (λ y. not (eqb x y)) xs in
    let few = count_length (λ y. not (eqb x y)) xs in
    omega arith

-- and fewer where there is one to delete
pub length_without_member : (x : ℕ) (xs : List ℕ) → member x xs ≡ true → length (without x xs) < length xs
unfolding member without
length_without_member x [] h = true_false h refl
length_without_member x (y ∷ ys) h =
    by_test (eqb x y) (λ q. let shorter = length_without x ys in rw q (omega arith))
    (λ q. rw q (suc-le-suc (length_without_member x ys (or_other h q))))

-- ---- lists without repeats

-- of a list without repeats, the first entry is not in the rest
pub distinct_head : (x : ℕ) (xs : List ℕ) → distinct (x ∷ xs) ≡ true → member x xs ≡ false
unfolding distinct
distinct_head x xs once = not-true (member x xs) (and_left (not (member x xs)) (distinct xs) once)

-- and the rest has no repeats
pub distinct_tail : (x : ℕ) (xs : List ℕ) → distinct (x ∷ xs) ≡ true → distinct xs ≡ true
unfolding distinct
distinct_tail x xs once = and_right (not (member x xs)) (distinct xs) once

-- two lists, one after the other, have no repeats if neither has, and they have no member in common
pub distinct_append : (xs ys : List ℕ) → distinct (xs ++ ys) ≡ (distinct xs && (distinct ys && all (λ e. not (member e ys)) xs))
unfolding distinct all
distinct_append [] ys = sym (and-true (distinct ys))
distinct_append (x ∷ xs) ys =
    rw (member_append x xs ys, distinct_append xs ys)
    (regroup (member x xs) (member x ys) (distinct xs) (distinct ys) (all (λ e. not (member e ys)) xs))
  where
    regroup : (a b c d e : Bool) → (not (a || b) && (c && (d && e))) ≡ (not a && c && (d && (not b && e)))
    regroup true b c d e = refl
    regroup false true true true e = refl
    regroup false true true false e = refl
    regroup false true false d e = refl
    regroup false false c d e = refl

-- so the first has no repeats where both together have none
pub distinct_left : (xs ys : List ℕ) → distinct (xs ++ ys) ≡ true → distinct xs ≡ true
distinct_left xs ys once =
    and_left (distinct xs) (distinct ys && all (λ e. not (member e ys)) xs) (sym (distinct_append xs ys) ∙ once)

-- nor has the second
pub distinct_right : (xs ys : List ℕ) → distinct (xs ++ ys) ≡ true → distinct ys ≡ true
distinct_right xs ys once =
    and_left (distinct ys) (all (λ e. not (member e ys)) xs)
    (and_right (distinct xs) (distinct ys && all (λ e. not (member e ys)) xs) (sym (distinct_append xs ys) ∙ once))

-- and what is in the first is not in the second
pub distinct_apart : (xs ys : List ℕ) → distinct (xs ++ ys) ≡ true → (e : ℕ) → member e xs ≡ true → member e ys ≡ false
distinct_apart xs ys once e h =
    not-true (member e ys) (all_member (λ e. not (member e ys)) xs
    (and_right (distinct ys) (all (λ e. not (member e ys)) xs)
    (and_right (distinct xs) (distinct ys && all (λ e. not (member e ys)) xs) (sym (distinct_append xs ys) ∙ once))) e h)

-- a filter of a list without repeats has none
pub distinct_keep : (test : ℕ → Bool) (xs : List ℕ) → distinct xs ≡ true → distinct (keep test xs) ≡ true
unfolding distinct keep
distinct_keep test [] once = refl
distinct_keep test (x ∷ xs) once =
    let rest = distinct_keep test xs (distinct_tail x xs once) in
    by_test (test x)
    (λ t. rw t (both_true (ap not (member_keep test x xs ∙ ap (λ (b : Bool). b && test x) (distinct_head x xs once))) rest))
    (λ t. rw t rest)

-- so has a list from which something is deleted
pub distinct_without : (x : ℕ) (xs : List ℕ) → distinct xs ≡ true → distinct (without x xs) ≡ true
distinct_without x xs once = ap distinct (without_keep x xs) ∙ distinct_keep (λ y. not (eqb x y)) xs once

-- a map has repeats where the list has, if no two members have the same value
pub distinct_map : (f : ℕ → ℕ) (xs : List ℕ)
    → ((x y : ℕ) → member x xs ≡ true → member y xs ≡ true → f x ≡ f y → x ≡ y) → distinct (map f xs) ≡ distinct xs
unfolding distinct
distinct_map f [] apart = refl
distinct_map f (x ∷ xs) apart =
    ap₂ (λ a b. not a && b) (member_map f x xs (λ y h. apart x y (member_first x xs) (member_later y x xs h)))
    (distinct_map f xs (λ y z h k. apart y z (member_later y x xs h) (member_later z x xs k)))

-- ---- the pigeonhole

-- where every member of xs is one of ys, and x is no member of xs, every member of xs is one of ys without x
within_without : (xs ys : List ℕ) (x : ℕ) → member x xs ≡ false → ((e : ℕ) → member e xs ≡ true → member e ys ≡ true)
    → (e : ℕ) → member e xs ≡ true → member e (without x ys) ≡ true
within_without xs ys x absent within e h =
    member_without e x ys
    ∙ both_true (within e h) (ap not (ne_eqb x e (λ q. true_false h (subst (λ (z : ℕ). member z xs ≡ false) q absent))))

-- a list without repeats is no longer than a list that has all its members
pub distinct_within : (xs ys : List ℕ) → distinct xs ≡ true → ((e : ℕ) → member e xs ≡ true → member e ys ≡ true) → length xs ≤ length ys
distinct_within [] ys once within = zero-le
distinct_within (x ∷ xs) ys once within =
    let later = within_without xs ys x (distinct_head x xs once) (λ e h. within e (member_later e x xs h)) in
    let rest = distinct_within xs (without x ys) (distinct_tail x xs once) later in
    let fewer = length_without_member x ys (within x (member_first x xs)) in
    omega arith

-- two lists without repeats that have the same members are equally long
pub distinct_length : (xs ys : List ℕ) → distinct xs ≡ true → distinct ys ≡ true → ((e : ℕ) → member e xs ≡ member e ys) → length xs ≡ length ys
distinct_length xs ys once-xs once-ys agree =
    let there = distinct_within xs ys once-xs (λ e h. sym (agree e) ∙ h) in
    let back = distinct_within ys xs once-ys (λ e h. agree e ∙ h) in
    omega arith

-- a list without repeats whose members are all in a list that is no longer has all members of that list
pub distinct_full : (xs ys : List ℕ) → distinct xs ≡ true → ((e : ℕ) → member e xs ≡ true → member e ys ≡ true) → length ys ≤ length xs
    → (e : ℕ) → member e ys ≡ true → member e xs ≡ true
distinct_full xs ys once within long e h = by_test (member e xs) (λ q. q) (λ absent. absurd (short absent))
  where
    short : member e xs ≡ false → ⊥
    short absent =
        let fits = distinct_within xs (without e ys) once (within_without xs ys e absent within) in
        let fewer = length_without_member e ys h in
        omega arith

-- ---- consecutive numbers

-- n numbers from a on are n
pub length_from : (a n : ℕ) → length (from a n) ≡ n
unfolding from
length_from a zero = refl
length_from a (suc n) = ap suc (length_from (suc a) n)

-- the numbers from the next one on are those from here on, each one higher
pub from_suc : (a n : ℕ) → from (suc a) n ≡ map suc (from a n)
unfolding from
from_suc a zero = refl
from_suc a (suc n) = ap (λ (l : List ℕ). suc a ∷ l) (from_suc (suc a) n)

-- number i of them is a + i
pub get_or_from : (a n i d : ℕ) → i < n → get_or (from a n) i d ≡ a + i
unfolding from
get_or_from a zero i d h = absurd (not-suc-le-zero h)
get_or_from a (suc n) zero d h = omega arith
get_or_from a (suc n) (suc i) d h = let rest = get_or_from (suc a) n i d (le_of_suc-le-suc h) in omega arith

-- the members are those from a on that are below a + n
pub member_from : (e a n : ℕ) → member e (from a n) ≡ (leb a e && ltb e (a + n))
unfolding from member
member_from e a zero = sym (refuted (leb a e && ltb e (a + 0)) none_between)
  where
    none_between : (leb a e && ltb e (a + 0)) ≡ true → ⊥
    none_between h =
        let low = leb-true a e (and_left (leb a e) (ltb e (a + 0)) h) in
        let high = ltb-true e (a + 0) (and_right (leb a e) (ltb e (a + 0)) h) in
        omega arith
member_from e a (suc n) =
    by_test (eqb e a)
    (λ q. let at = eqb-true e a q in rw q (sym (both_true (le-leb a e (omega arith)) (lt-ltb e (a + suc n) (omega arith)))))
    (λ q. let other = eqb-false e a q in rw (q, member_from e (suc a) n)
    (ap₂ ◌&&◌ (leb_same (suc a) e a e (λ h. omega arith) (λ h. omega arith))
    (leb_same (suc e) (suc a + n) (suc e) (a + suc n) (λ h. omega arith) (λ h. omega arith))))

-- the members of the numbers from 0 on
pub member_below : (e n : ℕ) → member e (from 0 n) ≡ ltb e n
member_below e n =
    member_from e 0 n ∙ ap₂ ◌&&◌ (le-leb 0 e zero-le) (leb_same (suc e) (0 + n) (suc e) n (λ h. omega arith) (λ h. omega arith))

-- consecutive numbers do not repeat
pub distinct_from : (a n : ℕ) → distinct (from a n) ≡ true
unfolding from distinct
distinct_from a zero = refl
distinct_from a (suc n) =
    both_true (ap not (member_from a (suc a) n ∙ ap (λ (b : Bool). b && ltb a (suc a + n)) (lt-leb (suc a) a (omega arith)))) (distinct_from (suc a) n)

module _ {A : Type 0} where
  -- a list is its elements in their order
  pub map_get_or : (xs : List A) (d : A) → map (λ i. get_or xs i d) (from 0 (length xs)) ≡ xs
  unfolding from
  map_get_or [] d = refl
  map_get_or (x ∷ xs) d =
      rw (from_suc 0 (length xs), map-map (λ i. get_or (x ∷ xs) i d) suc (from 0 (length xs))) (ap (λ (l : List A). x ∷ l) (map_get_or xs d))

  -- as many elements pass as there are indices with an element that passes
  pub count_indices : (test : A → Bool) (xs : List A) (d : A) → count test xs ≡ count (λ i. test (get_or xs i d)) (from 0 (length xs))
  count_indices test xs d = ap (count test) (sym (map_get_or xs d)) ∙ count_map test (λ i. get_or xs i d) (from 0 (length xs))

-- ---- lists of lists

-- where a list of a map of lists has a member, the index is within, and the member is one of the value there
pub member_get_or_map : (f : ℕ → List ℕ) (xs : List ℕ) (i e : ℕ) → member e (get_or (map f xs) i []) ≡ true
    → (i < length xs) × (member e (f (get_or xs i 0)) ≡ true)
unfolding member
member_get_or_map f [] i e h = true_false h refl
member_get_or_map f (x ∷ xs) zero e h = (suc-le-suc zero-le, h)
member_get_or_map f (x ∷ xs) (suc i) e h = let rest = member_get_or_map f xs i e h in (suc-le-suc rest.0, rest.1)

-- a member of a list is a member of the lists joined
pub member_joined : (e : ℕ) (ls : List (List ℕ)) (x : ℕ) → member e (get_or ls x []) ≡ true → member e (joined ls) ≡ true
unfolding joined
member_joined e [] x h = h
member_joined e (l ∷ ls) zero h = member_append e l (joined ls) ∙ rw h
member_joined e (l ∷ ls) (suc x) h = member_append e l (joined ls) ∙ rw (member_joined e ls x h) (or-true (member e l))

-- a member of the lists joined is a member of one of them
pub joined_member : (e : ℕ) (ls : List (List ℕ)) → member e (joined ls) ≡ true → (x : ℕ) × (member e (get_or ls x []) ≡ true)
unfolding joined
joined_member e [] h = (0, h)
joined_member e (l ∷ ls) h =
    by_test (member e l) (λ q. (0, q))
    (λ q. let found = joined_member e ls (or_other (sym (member_append e l (joined ls)) ∙ h) q) in (suc found.0, found.1))

-- where the lists joined have no repeats, no list has
pub distinct_at : (ls : List (List ℕ)) → distinct (joined ls) ≡ true → (x : ℕ) → distinct (get_or ls x []) ≡ true
unfolding joined distinct
distinct_at [] once x = refl
distinct_at (l ∷ ls) once zero = distinct_left l (joined ls) once
distinct_at (l ∷ ls) once (suc x) = distinct_at ls (distinct_right l (joined ls) once) x

-- the lists joined have no repeats where no list has, and every member tells, by its owner, in which list it stands
pub distinct_joined : (owner : ℕ → ℕ) (a : ℕ) (ls : List (List ℕ)) → ((x : ℕ) → distinct (get_or ls x []) ≡ true)
    → ((x e : ℕ) → member e (get_or ls x []) ≡ true → owner e ≡ a + x) → distinct (joined ls) ≡ true
unfolding joined distinct
distinct_joined owner a [] once owned = refl
distinct_joined owner a (l ∷ ls) once owned =
    let rest = distinct_joined owner (suc a) ls (λ x. once (suc x)) (λ x e h. let here = owned (suc x) e h in omega arith) in
    let apart = all_of (λ e. not (member e (joined ls))) l (λ e h. ap not (refuted (member e (joined ls)) (elsewhere e h))) in
    distinct_append l (joined ls) ∙ both_true (once 0) (both_true rest apart)
  where
    elsewhere : (e : ℕ) → member e l ≡ true → member e (joined ls) ≡ true → ⊥
    elsewhere e h k =
        let found = joined_member e ls k in
        let here = owned 0 e h in
        let there = owned (suc found.0) e found.1 in
        omega arith

-- a map over a list with one more
pub map_snoc : {A B : Type 0} (f : A → B) (l : List A) (a : A) → map f (l ++ (a ∷ [])) ≡ map f l ++ (f a ∷ [])
map_snoc f [] a = refl
map_snoc f (x ∷ l) a = rw (map_snoc f l a)

-- a list of no length
pub no_entries : (l : List ℕ) → length l ≡ 0 → l ≡ []
no_entries [] none = refl
no_entries (e ∷ l) none = absurd (omega arith)
