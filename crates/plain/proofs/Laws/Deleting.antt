-- Laws of a list after an entry is set, appended or deleted, each as one equation by cases on the index.
-- ---- one entry set, one appended
use Rattle.std.specs.Prelude.{ℕ, zero, suc, ◌<◌, ◌≡◌, refl, true, false, cond, ◌||◌, not, List, [], ◌∷◌, ◌++◌, map, length, get_or, set, eqb}
use Rattle.plain.specs.Library.{sym, ap, ◌∙◌, length-set, get_or-set_same, get_or-set_other, eq-eqb, eqb-true, eqb-false, not-true}
use Rattle.std.proofs.lemmas.Bool.{false≢true}
use Rattle.std.proofs.Math.Dec.{eqb-zero-suc, eqb-suc-zero, eqb-suc-suc}
use Rattle.plain.specs.Lists.{member, without, distinct, keep, append_at, delete_at, set_all}
use Rattle.plain.proofs.Laws.Booleans.{by_test, true_false, and_left, and_right, and_true, and_false, or_true, eqb_comm}
use Rattle.plain.proofs.Laws.ListLaws.{member_without, without_absent, distinct_append, all_of}
use Rattle.plain.specs.Laws.Deleting.{without_all}

module _ {A : Type 0} where
  pub get_d_set : (l : List A) (i j : ℕ) (a d : A) → i < length l → get_or (set l i a) j d ≡ cond (eqb j i) a (get_or l j d)
  get_d_set l i j a d h =
      by_test (eqb j i) (λ e. rw e (rw (eqb-true j i e) (get_or-set_same l i a d h))) (λ e. rw e (get_or-set_other l i j a d (eqb-false j i e)))

  pub get_or_snoc : (l : List A) (j : ℕ) (a d : A) → get_or (l ++ (a ∷ [])) j d ≡ cond (eqb j (length l)) a (get_or l j d)
  get_or_snoc [] zero a d = refl
  get_or_snoc [] (suc j) a d = rw (eqb-suc-zero j)
  get_or_snoc (x ∷ l) zero a d = rw (eqb-zero-suc (length l))
  get_or_snoc (x ∷ l) (suc j) a d = rw (eqb-suc-suc j (length l)) (get_or_snoc l j a d)

  pub map_set : {B : Type 0} (f : A → B) (l : List A) (i : ℕ) (a : A) → map f (set l i a) ≡ set (map f l) i (f a)
  map_set f [] i a = refl
  map_set f (x ∷ l) zero a = refl
  map_set f (x ∷ l) (suc i) a = rw (map_set f l i a)

-- ---- members

-- every entry passes
pub keep_all : (l : List ℕ) → keep (λ e. true) l ≡ l
unfolding keep
keep_all [] = refl
keep_all (x ∷ l) = rw (keep_all l)

keep_without : (y : ℕ) (ys l : List ℕ) → keep (λ e. not (member e ys)) (without y l) ≡ keep (λ e. not (eqb e y || member e ys)) l
unfolding keep without
keep_without y ys [] = refl
keep_without y ys (x ∷ l) =
    by_test (eqb y x) (λ q. rw (q, eqb_comm x y, q) (keep_without y ys l)) (λ q. rw (q, eqb_comm x y, q, keep_without y ys l))

-- what is deleted is no member
pub member_gone : (y : ℕ) (l : List ℕ) → member y (without y l) ≡ false
member_gone y l = rw (member_without y y l, eq-eqb y y refl, and_false (member y l))

-- deleting leaves the other members
pub member_kept : (e y : ℕ) (l : List ℕ) → eqb e y ≡ false → member e (without y l) ≡ member e l
member_kept e y l h = rw (member_without e y l, eqb_comm y e, h, and_true (member e l))

pub without_all_keeps : (ys l : List ℕ) → without_all ys l ≡ keep (λ e. not (member e ys)) l
unfolding without_all member
without_all_keeps [] l = sym (keep_all l)
without_all_keeps (y ∷ ys) l = without_all_keeps ys (without y l) ∙ keep_without y ys l

-- ---- no repeats

-- deleting a member of a list without repeats takes one entry
pub length_deleted : (y : ℕ) (l : List ℕ) → distinct l ≡ true → member y l ≡ true → suc (length (without y l)) ≡ length l
unfolding distinct member without
length_deleted y [] h m = absurd (false≢true m)
length_deleted y (x ∷ l) h m =
    by_test (eqb y x)
    (λ q. rw (q, without_absent y l (ap (λ (z : ℕ). member z l) (eqb-true y x q) ∙ not-true (member x l) (and_left (not (member x l)) (distinct l) h))))
    (λ q. rw q (ap suc (length_deleted y l (and_right (not (member x l)) (distinct l) h) (rw q at m))))

-- lists without repeats that share no entry, one after the other
pub distinct_appended : (a b : List ℕ) → distinct a ≡ true → distinct b ≡ true → ((e : ℕ) → member e a ≡ true → member e b ≡ false) → distinct (a ++ b) ≡ true
distinct_appended a b h k apart = rw (distinct_append a b, h, k) (all_of (λ e. not (member e b)) a (λ e m. rw (apart e m)))

-- one entry more
pub distinct_snoc : (a : List ℕ) (e : ℕ) → distinct a ≡ true → member e a ≡ false → distinct (a ++ (e ∷ [])) ≡ true
unfolding distinct member
distinct_snoc a e h k =
    distinct_appended a (e ∷ []) h refl
    (λ y m. by_test (eqb y e) (λ q. true_false m (ap (λ (z : ℕ). member z a) (eqb-true y e q) ∙ k)) (λ q. rw q))

-- ---- a list of lists after one of them is appended to or deleted from

pub get_or_append_at : (x z : ℕ) (more : List ℕ) (lists : List (List ℕ)) → x < length lists
    → get_or (append_at x more lists) z [] ≡ cond (eqb z x) (get_or lists x [] ++ more) (get_or lists z [])
unfolding append_at
get_or_append_at x z more lists h = get_d_set lists x z (get_or lists x [] ++ more) [] h

pub get_or_delete_at : (x y z : ℕ) (lists : List (List ℕ)) → x < length lists
    → get_or (delete_at x y lists) z [] ≡ cond (eqb z x) (without y (get_or lists x [])) (get_or lists z [])
unfolding delete_at
get_or_delete_at x y z lists h = get_d_set lists x z (without y (get_or lists x [])) [] h

pub length_append_at : (x : ℕ) (more : List ℕ) (lists : List (List ℕ)) → length (append_at x more lists) ≡ length lists
unfolding append_at
length_append_at x more lists = length-set lists x (get_or lists x [] ++ more)

pub length_delete_at : (x y : ℕ) (lists : List (List ℕ)) → length (delete_at x y lists) ≡ length lists
unfolding delete_at
length_delete_at x y lists = length-set lists x (without y (get_or lists x []))

-- ---- several places set to one value

pub length_set_all : (places : List ℕ) (v : ℕ) (l : List ℕ) → length (set_all places v l) ≡ length l
unfolding set_all
length_set_all [] v l = refl
length_set_all (i ∷ places) v l = length-set (set_all places v l) i v ∙ length_set_all places v l

pub get_or_set_all : (places : List ℕ) (v : ℕ) (l : List ℕ) (e d : ℕ) → ((i : ℕ) → member i places ≡ true → i < length l)
    → get_or (set_all places v l) e d ≡ cond (member e places) v (get_or l e d)
unfolding set_all member
get_or_set_all [] v l e d h = refl
get_or_set_all (i ∷ places) v l e d h =
    let low : i < length l = h i (rw (eq-eqb i i refl)) in
    get_d_set (set_all places v l) i e v d (rw (length_set_all places v l) low)
    ∙ by_test (eqb e i) (λ q. rw q) (λ q. rw q (get_or_set_all places v l e d (λ k m. h k (rw (m, or_true (eqb k i))))))
