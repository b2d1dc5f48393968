-- One direction whose edges are all live: to be well formed (`Incident`) and to have an image (`Fitted`) are the same.
-- ---- rule 6 of an image, by index
use Rattle.std.specs.Prelude.{ℕ, zero, suc, ◌+◌, ◌<◌, ◌≡◌, refl, Bool, true, false, ◌&&◌, List, [], ◌∷◌, map, length, get_or, replicate, eqb, ltb}
use Rattle.plain.specs.Library.{sym, ap, ap₂, ◌∙◌, subst, map-map, length-map, length-replicate, get_or-map, zero-add, arith, eqb-true, eq-eqb, ltb-true, lt-ltb}
use Rattle.plain.specs.Lists.{member, distinct, from, keep, all, count, joined}
use Rattle.plain.specs.Plain.{Incidence}
use Rattle.plain.specs.Image.{list_lengths, at_their_nodes, lists_right}
use Rattle.plain.specs.WellFormed.{Incident, Fitted}
use Rattle.plain.proofs.Laws.Booleans.{true_false, same_truth, and_left, and_right, both_true, eqb_comm}
use Rattle.plain.proofs.Laws.ListLaws.{get_d_map, map_same, map_get_or, all_of, all_member, member_keep, distinct_keep, length_keep, count_indices, length_from, get_or_from, member_below, distinct_from, distinct_length, distinct_full, member_joined, joined_member, distinct_at, distinct_joined}
use Rattle.plain.proofs.Laws.Rank.{live_all_live}
use Rattle.plain.specs.Laws.Fitting.{Right, has_end}

-- the test passes where the entries of each list have its node for their end
pub at_their_nodes_of : (ends : List ℕ) (a : ℕ) (lists : List (List ℕ))
    → ((x e : ℕ) → member e (get_or lists x []) ≡ true → get_or ends e 0 ≡ a + x) → at_their_nodes ends a lists ≡ true
unfolding at_their_nodes
at_their_nodes_of ends a [] owned = refl
at_their_nodes_of ends a (list ∷ lists) owned =
    both_true (all_of (λ e. eqb (get_or ends e 0) a) list (λ e h. eq-eqb (get_or ends e 0) a (let here = owned 0 e h in omega arith)))
    (at_their_nodes_of ends (suc a) lists (λ x e h. let here = owned (suc x) e h in omega arith))

-- and only there
pub at_their_nodes_at : (ends : List ℕ) (a : ℕ) (lists : List (List ℕ)) → at_their_nodes ends a lists ≡ true
    → (x e : ℕ) → member e (get_or lists x []) ≡ true → get_or ends e 0 ≡ a + x
unfolding at_their_nodes member
at_their_nodes_at ends a [] right x e h = true_false h refl
at_their_nodes_at ends a (list ∷ lists) right zero e h =
    let first = and_left (all (λ e. eqb (get_or ends e 0) a) list) (at_their_nodes ends (suc a) lists) right in
    let here = eqb-true (get_or ends e 0) a (all_member (λ e. eqb (get_or ends e 0) a) list first e h) in
    omega arith
at_their_nodes_at ends a (list ∷ lists) right (suc x) e h =
    let rest = and_right (all (λ e. eqb (get_or ends e 0) a) list) (at_their_nodes ends (suc a) lists) right in
    let here = at_their_nodes_at ends (suc a) lists rest x e h in
    omega arith

-- such an edge is below the number of edges
pub has_end_below : (ends : List ℕ) (x e : ℕ) → has_end ends x e ≡ true → e < length ends
has_end_below ends x e h = ltb-true e (length ends) (and_left (ltb e (length ends)) (eqb (get_or ends e 0) x) h)

-- and its end is x
pub has_end_at : (ends : List ℕ) (x e : ℕ) → has_end ends x e ≡ true → get_or ends e 0 ≡ x
has_end_at ends x e h = eqb-true (get_or ends e 0) x (and_right (ltb e (length ends)) (eqb (get_or ends e 0) x) h)

-- rule 6 holds where each list is right
pub right_of : (ends : List ℕ) (lists : List (List ℕ)) → Right ends lists → lists_right ends lists ≡ true
unfolding lists_right
right_of ends lists r =
    both_true
    (all_of (λ e. ltb e (length ends)) (joined lists)
    (λ e h. let found = joined_member e lists h in
    lt-ltb e (length ends) (has_end_below ends found.0 e (r.at_end found.0 e found.1))))
    (both_true (distinct_joined (λ e. get_or ends e 0) 0 lists r.once owned) (at_their_nodes_of ends 0 lists owned))
  where
    owned : (x e : ℕ) → member e (get_or lists x []) ≡ true → get_or ends e 0 ≡ 0 + x
    owned x e h = has_end_at ends x e (r.at_end x e h) ∙ sym (zero-add x)

-- and only there
pub right_at : (ends : List ℕ) (lists : List (List ℕ)) → lists_right ends lists ≡ true → Right ends lists
unfolding lists_right
right_at ends lists right =
    let small = and_left (all (λ e. ltb e (length ends)) (joined lists)) (distinct (joined lists) && at_their_nodes ends 0 lists) right in
    let rest = and_right (all (λ e. ltb e (length ends)) (joined lists)) (distinct (joined lists) && at_their_nodes ends 0 lists) right in
    let owned = at_their_nodes_at ends 0 lists (and_right (distinct (joined lists)) (at_their_nodes ends 0 lists) rest) in
    record {
      once = distinct_at lists (and_left (distinct (joined lists)) (at_their_nodes ends 0 lists) rest);
      at_end = λ x e h.
          both_true (all_member (λ e. ltb e (length ends)) (joined lists) small e (member_joined e lists x h))
          (eq-eqb (get_or ends e 0) x (owned x e h ∙ zero-add x));
    }

-- ---- the edges with a node for their end

-- the edges with end x, in slot order
abbrev edges_at : List ℕ → ℕ → List ℕ
edges_at ends x = keep (λ e. eqb x (get_or ends e 0)) (from 0 (length ends))

-- as many as the image's length of list x
length_edges_at : (ends : List ℕ) (x : ℕ) → length (edges_at ends x) ≡ count (eqb x) ends
length_edges_at ends x = length_keep (λ e. eqb x (get_or ends e 0)) (from 0 (length ends)) ∙ sym (count_indices (eqb x) ends 0)

-- they are exactly the edges with end x
member_edges_at : (ends : List ℕ) (x e : ℕ) → member e (edges_at ends x) ≡ has_end ends x e
member_edges_at ends x e =
    member_keep (λ e. eqb x (get_or ends e 0)) e (from 0 (length ends)) ∙ ap₂ ◌&&◌ (member_below e (length ends)) (eqb_comm x (get_or ends e 0))

-- none stands there twice
distinct_edges_at : (ends : List ℕ) (x : ℕ) → distinct (edges_at ends x) ≡ true
distinct_edges_at ends x = distinct_keep (λ e. eqb x (get_or ends e 0)) (from 0 (length ends)) (distinct_from 0 (length ends))

-- ---- the two theorems

-- where every edge is live, the live edges with end x are the edges with end x
pub live_has_end : (ends : List ℕ) (m x e : ℕ) → length ends ≡ m → (get_or (replicate m true) e false && eqb (get_or ends e 0) x) ≡ has_end ends x e
live_has_end ends m x e long = ap (λ (live : Bool). live && eqb (get_or ends e 0) x) (live_all_live m e ∙ ap (ltb e) (sym long))

module _ {n : ℕ} {ends : List ℕ} {lists : List (List ℕ)} (f : Fitted n ends lists) where
  -- there is a list a node
  pub fitted_many : length lists ≡ n
  fitted_many =
      sym (length-map lists (λ (l : List ℕ). length l)) ∙ ap length f.lengths ∙ length-map (from 0 n) (λ x. count (eqb x) ends) ∙ length_from 0 n

  -- each as long as the ends say
  pub fitted_long : (x : ℕ) → x < n → length (get_or lists x []) ≡ count (eqb x) ends
  fitted_long x h =
      sym (get_or-map (λ (l : List ℕ). length l) lists x []) ∙ ap (λ (l : List ℕ). get_or l x 0) f.lengths
      ∙ get_d_map (λ x. count (eqb x) ends) (from 0 n) x 0 0 (subst (λ (k : ℕ). x < k) (sym (length_from 0 n)) h)
      ∙ ap (λ (k : ℕ). count (eqb k) ends) (get_or_from 0 n x 0 h ∙ zero-add x)

module _ (n m : ℕ) (i : Incidence) (long : length i.ends ≡ m) where
  -- where every edge is live, well-formed lists are fitted: each is as long as the edges' ends say
  pub incident_fitted : Incident (replicate m true) n i → Fitted n i.ends i.lists
  incident_fitted t = record {
    ends_below = λ e h. t.ends_below e (subst (λ (k : ℕ). e < k) t.ends_length h);
    lengths =
        ap (map (λ (l : List ℕ). length l)) (sym (map_get_or i.lists []))
        ∙ map-map (λ (l : List ℕ). length l) (λ x. get_or i.lists x []) (from 0 (length i.lists))
        ∙ map_same (λ x. length (get_or i.lists x [])) (λ x. count (eqb x) i.ends) (from 0 (length i.lists)) (λ x h. as_long x)
        ∙ ap (λ (k : ℕ). list_lengths k i.ends) t.lists_length;
    right = right_of i.ends i.lists (record { once = t.once; at_end = λ x e h. sym (here x e) ∙ h });
  }
    where
      here : (x e : ℕ) → member e (get_or i.lists x []) ≡ has_end i.ends x e
      here x e = t.listed x e ∙ live_has_end i.ends m x e long

      as_long : (x : ℕ) → length (get_or i.lists x []) ≡ count (eqb x) i.ends
      as_long x =
          distinct_length (get_or i.lists x []) (edges_at i.ends x) (t.once x) (distinct_edges_at i.ends x)
          (λ e. here x e ∙ sym (member_edges_at i.ends x e))
          ∙ length_edges_at i.ends x

  -- fitted lists are well formed, every edge being live: a list that is as long as the ends say has every edge with that end
  pub fitted_incident : Fitted n i.ends i.lists → Incident (replicate m true) n i
  fitted_incident f = record {
    ends_length = long ∙ sym (length-replicate m true);
    lists_length = fitted_many f;
    ends_below = λ e h. f.ends_below e (subst (λ (k : ℕ). e < k) (length-replicate m true ∙ sym long) h);
    listed = λ x e. same_truth (member e (get_or i.lists x [])) (has_end i.ends x e) (r.at_end x e) (all_there x e) ∙ sym (live_has_end i.ends m x e long);
    once = r.once;
  }
    where
      r : Right i.ends i.lists
      r = right_at i.ends i.lists f.right

      all_there : (x e : ℕ) → has_end i.ends x e ≡ true → member e (get_or i.lists x []) ≡ true
      all_there x e h =
          let at = has_end_at i.ends x e h in
          let below = f.ends_below e (has_end_below i.ends x e h) in
          let sized : length (get_or i.lists x []) ≡ length (edges_at i.ends x) = fitted_long f x (omega arith) ∙ sym (length_edges_at i.ends x) in
          distinct_full (get_or i.lists x []) (edges_at i.ends x) (r.once x)
          (λ y k. member_edges_at i.ends x y ∙ r.at_end x y k)
          (omega arith) e (member_edges_at i.ends x e ∙ h)
