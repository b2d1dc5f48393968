-- Rule 6 of an image by one pass over the joined entries: they are right exactly when they are below m, none is repeated, and their ends do not descend.
use Rattle.std.specs.Prelude.{ℕ, zero, suc, ◌≤◌, ◌<◌, ◌≡◌, refl, Bool, true, ◌&&◌, List, [], ◌∷◌, ◌++◌, map, length, take, drop, get_or, eqb, leb, ltb}
use Rattle.plain.specs.Library.{sym, ap, ◌∙◌, zero-add, arith, leb-true, le-leb, eqb-true, eqb-false, eq-eqb, ne_eqb}
use Rattle.std.proofs.Common.{le_refl}
use Rattle.std.proofs.Math.Numerals.{one-add}
use Rattle.plain.specs.Lists.{member, distinct, from, keep, all, count, joined}
use Rattle.plain.specs.Image.{cut, list_lengths, at_their_nodes, lists_right}
use Rattle.plain.proofs.Laws.Booleans.{by_test, same_truth, and_left, and_right, both_true}
use Rattle.plain.proofs.Laws.ListLaws.{member_keep, distinct_keep, length_keep, count_map, member_below, distinct_from, distinct_length, distinct_full, length_from, count_indices, all_member}
use Rattle.plain.specs.Laws.Below.{Below}
use Rattle.plain.proofs.Laws.Cutting.{joined_cut, sum_list_lengths}
use Rattle.plain.specs.Laws.Ascending.{ascending}

ascending_lower : (x y : ℕ) (l : List ℕ) → x ≤ y → ascending y l ≡ true → ascending x l ≡ true
unfolding ascending
ascending_lower x y [] h a = refl
ascending_lower x y (z ∷ l) h a =
    let low = leb-true y z (and_left (leb y z) (ascending z l) a) in
    both_true (le-leb x z (omega arith)) (and_right (leb y z) (ascending z l) a)

-- what is lower than the start is not there
none_lower : (x y : ℕ) (l : List ℕ) → x < y → ascending y l ≡ true → count (eqb x) l ≡ 0
unfolding ascending count
none_lower x y [] h a = refl
none_lower x y (z ∷ l) h a =
    let low = leb-true y z (and_left (leb y z) (ascending z l) a) in
    rw (ne_eqb x z (omega arith), none_lower x z l (omega arith) (and_right (leb y z) (ascending z l) a))

-- ---- the entries of one direction: the end of each is read from `ends`

module _ (ends : List ℕ) where
  abbrev ends_of : List ℕ → List ℕ
  ends_of entries = map (λ e. get_or ends e 0) entries

  -- lists that stand at their nodes, joined, have ends that do not descend
  ascending_list : (x : ℕ) (list rest : List ℕ) → all (λ e. eqb (get_or ends e 0) x) list ≡ true → ascending x (ends_of rest) ≡ true
      → ascending x (ends_of (list ++ rest)) ≡ true
  unfolding all ascending
  ascending_list x [] rest h a = a
  ascending_list x (e ∷ list) rest h a =
      let here : get_or ends e 0 ≡ x = eqb-true (get_or ends e 0) x (and_left (eqb (get_or ends e 0) x) (all (λ e. eqb (get_or ends e 0) x) list) h) in
      let later = ascending_list x list rest (and_right (eqb (get_or ends e 0) x) (all (λ e. eqb (get_or ends e 0) x) list) h) a in
      rw here (both_true (le-leb x x (le_refl x)) later)

  nodes_ascending : (x : ℕ) (lists : List (List ℕ)) → at_their_nodes ends x lists ≡ true → ascending x (ends_of (joined lists)) ≡ true
  unfolding at_their_nodes joined ascending
  nodes_ascending x [] h = refl
  nodes_ascending x (list ∷ lists) h =
      let here = and_left (all (λ e. eqb (get_or ends e 0) x) list) (at_their_nodes ends (suc x) lists) h in
      let later = nodes_ascending (suc x) lists (and_right (all (λ e. eqb (get_or ends e 0) x) list) (at_their_nodes ends (suc x) lists) h) in
      ascending_list x list (joined lists) here (ascending_lower x (suc x) (ends_of (joined lists)) (omega arith) later)

  -- Entries whose ends do not descend from x on, cut where x ends.
  record Cut (x c : ℕ) (entries : List ℕ) : Type 0 where
    front : all (λ e. eqb (get_or ends e 0) x) (take c entries) ≡ true
    rest : ascending (suc x) (ends_of (drop c entries)) ≡ true
    others : (y : ℕ) → x < y → count (eqb y) (ends_of (drop c entries)) ≡ count (eqb y) (ends_of entries)

  cut_at : (x : ℕ) (entries : List ℕ) → ascending x (ends_of entries) ≡ true → Cut x (count (eqb x) (ends_of entries)) entries
  unfolding ascending all count
  cut_at x [] a = record { front = refl; rest = refl; others = λ y h. refl }
  cut_at x (e ∷ entries) a =
      let end : ℕ = get_or ends e 0 in
      let low = leb-true x end (and_left (leb x end) (ascending end (ends_of entries)) a) in
      let later = and_right (leb x end) (ascending end (ends_of entries)) a in
      by_test (eqb x end)
      (λ q.
      let here : x ≡ end = eqb-true x end q in
      let c = cut_at x entries (rw (← here) at later) in
      rw (q, one-add (count (eqb x) (ends_of entries)))
      (record {
        front = both_true (eq-eqb end x (sym here)) c.front;
        rest = c.rest;
        others = λ y h. c.others y h ∙ sym (rw (ne_eqb y end (omega arith)) (zero-add (count (eqb y) (ends_of entries))));
      }))
      (λ q.
      let above : x < end = let apart = eqb-false x end q in omega arith in
      rw (q, none_lower x end (ends_of entries) above later)
      (record { front = refl; rest = both_true (le-leb (suc x) end above) later; others = λ y h. refl }))

  -- entries whose ends do not descend, cut by how often each end is among them, stand at their nodes
  ascending_nodes : (n x : ℕ) (times : ℕ → ℕ) (entries : List ℕ) → ((y : ℕ) → x ≤ y → times y ≡ count (eqb y) (ends_of entries))
      → ascending x (ends_of entries) ≡ true → at_their_nodes ends x (cut (map times (from x n)) entries) ≡ true
  unfolding at_their_nodes cut from
  ascending_nodes zero x times entries t a = refl
  ascending_nodes (suc n) x times entries t a =
      let c = cut_at x entries a in
      rw (t x (le_refl x))
      (both_true c.front
      (ascending_nodes n (suc x) times (drop (count (eqb x) (ends_of entries)) entries)
      (λ y h. t y (omega arith) ∙ sym (c.others y h)) c.rest))

  -- all m edges are among m entries without repeats: each end is among their ends as often as among all
  module _ (entries : List ℕ) (long : length entries ≡ length ends) (below : all (λ e. ltb e (length ends)) entries ≡ true) (once : distinct entries ≡ true) where
    within : (x : ℕ) → member x entries ≡ true → member x (from 0 (length ends)) ≡ true
    within x h = member_below x (length ends) ∙ all_member (λ e. ltb e (length ends)) entries below x h

    count_entries : (test : ℕ → Bool) → count test entries ≡ count test (from 0 (length ends))
    count_entries test =
        let slots : List ℕ = from 0 (length ends) in
        let enough : length slots ≤ length entries = rw (length_from 0 (length ends)) (omega arith) in
        let same : (x : ℕ) → member x entries ≡ member x slots =
        λ x. same_truth (member x entries) (member x slots) (within x) (distinct_full entries slots once within enough x) in
        sym (length_keep test entries)
        ∙ distinct_length (keep test entries) (keep test slots) (distinct_keep test entries once) (distinct_keep test slots (distinct_from 0 (length ends)))
        (λ x. member_keep test x entries ∙ ap (λ (b : Bool). b && test x) (same x) ∙ sym (member_keep test x slots))
        ∙ length_keep test slots

    count_ends : (y : ℕ) → count (eqb y) ends ≡ count (eqb y) (ends_of entries)
    count_ends y =
        count_indices (eqb y) ends 0 ∙ sym (count_entries (λ i. eqb y (get_or ends i 0))) ∙ sym (count_map (eqb y) (λ i. get_or ends i 0) entries)

-- the joined entries of one direction are right exactly when they are below m, none is repeated, and their ends do not descend
pub right_by_order : (n : ℕ) {ends : List ℕ} (entries : List ℕ) → Below n ends → length entries ≡ length ends
    → lists_right ends (cut (list_lengths n ends) entries)
    ≡ (all (λ e. ltb e (length ends)) entries && (distinct entries && ascending 0 (map (λ e. get_or ends e 0) entries)))
unfolding lists_right
right_by_order n {ends} entries b long =
    let lists : List (List ℕ) = cut (list_lengths n ends) entries in
    let back : joined lists ≡ entries = joined_cut (list_lengths n ends) entries (sum_list_lengths n b ∙ sym long) in
    rw back
    (by_test (all (λ e. ltb e (length ends)) entries)
    (λ h.
    rw h
    (by_test (distinct entries)
    (λ k.
    rw k
    (same_truth (at_their_nodes ends 0 lists) (ascending 0 (map (λ e. get_or ends e 0) entries))
    (λ r. rw back at (nodes_ascending ends 0 lists r))
    (ascending_nodes ends n 0 (λ x. count (eqb x) ends) entries (λ y l. count_ends ends entries long h k y))))
    (λ k. rw k)))
    (λ h. rw h))
