-- Each operation's change to one direction keeps the direction well formed: `Incident`.
use Rattle.std.specs.Prelude.{ℕ, ◌+◌, ◌≤◌, ◌<◌, ◌≡◌, refl, Bool, true, false, cond, ◌&&◌, List, [], ◌∷◌, ◌++◌, length, get_or, set, eqb}
use Rattle.plain.specs.Library.{sym, ◌∙◌, length-set, length-append, get_or-eq_default, arith, eq-eqb, eqb-true, eqb-false}
use Rattle.std.proofs.Common.{le_refl}
use Rattle.plain.specs.Lists.{member, without, distinct, append_at, delete_at}
use Rattle.plain.specs.Plain.{Incidence, widened, attached, detached, redirected, moved}
use Rattle.plain.specs.WellFormed.{Incident}
use Rattle.plain.proofs.Laws.Booleans.{by_test, true_false, and_left, and_right, and_false, or_true, or_false, eqb_comm}
use Rattle.plain.proofs.Laws.ListLaws.{member_append, distinct_without}
use Rattle.plain.proofs.Laws.Rank.{live_below}
use Rattle.plain.proofs.Laws.Deleting.{get_d_set, get_or_snoc, member_gone, member_kept, distinct_appended, distinct_snoc, get_or_append_at, get_or_delete_at, length_append_at, length_delete_at, length_set_all, get_or_set_all}
use Rattle.plain.specs.Laws.Directions.{end_at, list_at}

-- a list of empty default with an empty list appended reads as before
get_d_default : {A : Type 0} (l : List A) (d : A) (x : ℕ) → get_or (l ++ (d ∷ [])) x d ≡ get_or l x d
get_d_default l d x =
    get_or_snoc l x d d
    ∙ by_test (eqb x (length l)) (λ h. rw h (sym (get_or-eq_default l d (let e = eqb-true x (length l) h in omega arith)))) (λ h. rw h)

-- a node more
pub widened_incident : {flags : List Bool} {n : ℕ} {i : Incidence} → Incident flags n i → Incident flags (n + 1) (widened i)
widened_incident {flags} {n} {i} h = record {
  ends_length = h.ends_length;
  lists_length = simp length-append (omega (arith, h.lists_length));
  ends_below = λ e l. omega (arith, h.ends_below e l);
  listed = λ x e. rw (get_d_default i.lists [] x) (h.listed x e);
  once = λ x. rw (get_d_default i.lists [] x) (h.once x);
}

-- past the end no flag is set
pub flag_past : (flags : List Bool) (e : ℕ) → length flags ≤ e → get_or flags e false ≡ false
flag_past flags e h = get_or-eq_default flags false h

-- a list of one entry
member_one : (e y : ℕ) → member e (y ∷ []) ≡ eqb e y
unfolding member
member_one e y = or_false (eqb e y)

-- an edge more, at a node below the bound
module _ {flags : List Bool} {n : ℕ} {i : Incidence} (x : ℕ) (low : x < n) (h : Incident flags n i) where
  pub attached_list : (z : ℕ) → get_or (attached (length flags) x i).lists z [] ≡ cond (eqb z x) (list_at i x ++ (length flags ∷ [])) (list_at i z)
  attached_list z = get_or_append_at x z (length flags ∷ []) i.lists (rw h.lists_length low)

  pub attached_end : (e : ℕ) → get_or (attached (length flags) x i).ends e 0 ≡ cond (eqb e (length flags)) x (end_at i e)
  attached_end e = rw (← h.ends_length) (get_or_snoc i.ends e x 0)

  -- the new edge is in no list yet
  pub new_edge : (z : ℕ) → member (length flags) (list_at i z) ≡ false
  new_edge z = rw (h.listed z (length flags), flag_past flags (length flags) (le_refl (length flags)))

  attached_listed : (z e : ℕ) → member e (get_or (attached (length flags) x i).lists z [])
      ≡ (get_or (flags ++ (true ∷ [])) e false && eqb (get_or (attached (length flags) x i).ends e 0) z)
  attached_listed z e =
      rw (attached_list z, attached_end e, get_or_snoc flags e true false)
      (by_test (eqb e (length flags))
      (λ p. rw (p, eqb-true e (length flags) p)
      (by_test (eqb z x) (λ q. rw (q, member_append (length flags) (list_at i x) (length flags ∷ []), new_edge x, member_one (length flags) (length flags), eq-eqb (length flags) (length flags) refl, eqb_comm x z, q))
      (λ q. rw (q, new_edge z, eqb_comm x z, q))))
      (λ p. rw p
      (by_test (eqb z x) (λ q. rw (q, member_append e (list_at i x) (length flags ∷ []), member_one e (length flags), p, or_false (member e (list_at i x)), eqb-true z x q) (h.listed x e))
      (λ q. rw q (h.listed z e)))))

  pub attached_incident : Incident (flags ++ (true ∷ [])) n (attached (length flags) x i)
  attached_incident = record {
    ends_length = simp length-append (omega (arith, h.ends_length));
    lists_length = length_append_at x (length flags ∷ []) i.lists ∙ h.lists_length;
    ends_below = λ e l. rw (attached_end e) (by_test (eqb e (length flags)) (λ p. rw p low)
        (λ p. rw p (h.ends_below e (let ne = eqb-false e (length flags) p in let m = simp length-append at l in omega arith))));
    listed = attached_listed;
    once = λ z. rw (attached_list z) (by_test (eqb z x) (λ q. rw q (distinct_snoc (list_at i x) (length flags) (h.once x) (new_edge x))) (λ q. rw q (h.once z)));
  }

-- an edge removed, live or not
module _ {flags : List Bool} {n : ℕ} {i : Incidence} (e : ℕ) (low : e < length flags) (h : Incident flags n i) where
  pub detached_list : (z : ℕ) → get_or (detached e i).lists z [] ≡ cond (eqb z (end_at i e)) (without e (list_at i (end_at i e))) (list_at i z)
  detached_list z = get_or_delete_at (end_at i e) e z i.lists (rw h.lists_length (h.ends_below e low))

  -- an edge stands in no list but that of its end
  pub elsewhere : (z : ℕ) → eqb z (end_at i e) ≡ false → member e (list_at i z) ≡ false
  elsewhere z q = rw (h.listed z e, eqb_comm (end_at i e) z, q, and_false (get_or flags e false))

  detached_listed : (z k : ℕ) → member k (get_or (detached e i).lists z []) ≡ (get_or (set flags e false) k false && eqb (end_at i k) z)
  detached_listed z k =
      rw (detached_list z, get_d_set flags e k false false low)
      (by_test (eqb k e)
      (λ p. rw (p, eqb-true k e p)
      (by_test (eqb z (end_at i e)) (λ q. rw (q, member_gone e (list_at i (end_at i e)))) (λ q. rw (q, elsewhere z q))))
      (λ p. rw p
      (by_test (eqb z (end_at i e)) (λ q. rw (q, member_kept k e (list_at i (end_at i e)) p, eqb-true z (end_at i e) q) (h.listed (end_at i e) k))
      (λ q. rw q (h.listed z k)))))

  pub detached_incident : Incident (set flags e false) n (detached e i)
  detached_incident = record {
    ends_length = h.ends_length ∙ sym (length-set flags e false);
    lists_length = length_delete_at (end_at i e) e i.lists ∙ h.lists_length;
    ends_below = λ k l. h.ends_below k (rw (length-set flags e false) at l);
    listed = detached_listed;
    once = λ z. rw (detached_list z)
        (by_test (eqb z (end_at i e)) (λ q. rw q (distinct_without e (list_at i (end_at i e)) (h.once (end_at i e)))) (λ q. rw q (h.once z)));
  }

-- a live edge redirected to another node below the bound
module _ {flags : List Bool} {n : ℕ} {i : Incidence} (e new : ℕ) (live : get_or flags e false ≡ true) (low : new < n) (h : Incident flags n i)
    (other : eqb new (end_at i e) ≡ false) where
  pub redirected_list : (z : ℕ) → get_or (redirected e new i).lists z []
      ≡ cond (eqb z new) (list_at i new ++ (e ∷ [])) (cond (eqb z (end_at i e)) (without e (list_at i (end_at i e))) (list_at i z))
  unfolding redirected
  redirected_list z =
      let below : (end_at i e) < length i.lists = rw h.lists_length (h.ends_below e (live_below flags e live)) in
      get_or_append_at new z (e ∷ []) (delete_at (end_at i e) e i.lists) (rw (length_delete_at (end_at i e) e i.lists, h.lists_length) low)
      ∙ rw (get_or_delete_at (end_at i e) e new i.lists below, other, get_or_delete_at (end_at i e) e z i.lists below)

  pub redirected_end : (k : ℕ) → get_or (redirected e new i).ends k 0 ≡ cond (eqb k e) new (end_at i k)
  unfolding redirected
  redirected_end k = get_d_set i.ends e k new 0 (rw h.ends_length (live_below flags e live))

  redirected_listed : (z k : ℕ) → member k (get_or (redirected e new i).lists z []) ≡ (get_or flags k false && eqb (get_or (redirected e new i).ends k 0) z)
  redirected_listed z k =
      rw (redirected_list z, redirected_end k)
      (by_test (eqb k e)
      (λ p. rw (p, eqb-true k e p, live, eqb_comm new z)
      (by_test (eqb z new) (λ q. rw (q, member_append e (list_at i new) (e ∷ []), member_one e e, eq-eqb e e refl, or_true (member e (list_at i new))))
      (λ q. rw q (by_test (eqb z (end_at i e)) (λ r. rw (r, member_gone e (list_at i (end_at i e)))) (λ r. rw (r, elsewhere e (live_below flags e live) h z r))))))
      (λ p. rw p
      (by_test (eqb z new) (λ q. rw (q, member_append k (list_at i new) (e ∷ []), member_one k e, p, or_false (member k (list_at i new)), eqb-true z new q) (h.listed new k))
      (λ q. rw q (by_test (eqb z (end_at i e)) (λ r. rw (r, member_kept k e (list_at i (end_at i e)) p, eqb-true z (end_at i e) r) (h.listed (end_at i e) k)) (λ r. rw r (h.listed z k)))))))

  pub redirected_incident : Incident flags n (redirected e new i)
  unfolding redirected
  redirected_incident = record {
    ends_length = length-set i.ends e new ∙ h.ends_length;
    lists_length = length_append_at new (e ∷ []) (delete_at (end_at i e) e i.lists) ∙ length_delete_at (end_at i e) e i.lists ∙ h.lists_length;
    ends_below = λ k l. rw (redirected_end k) (by_test (eqb k e) (λ p. rw p low) (λ p. rw p (h.ends_below k l)));
    listed = redirected_listed;
    once = λ z. rw (redirected_list z)
        (by_test (eqb z new) (λ q. rw q (distinct_snoc (list_at i new) e (h.once new) (elsewhere e (live_below flags e live) h new other)))
        (λ q. rw q (by_test (eqb z (end_at i e)) (λ r. rw r (distinct_without e (list_at i (end_at i e)) (h.once (end_at i e)))) (λ r. rw r (h.once z)))));
  }

-- a node's whole list moved to another node
module _ {flags : List Bool} {n : ℕ} {i : Incidence} (old new : ℕ) (low-old : old < n) (low : new < n) (h : Incident flags n i) (other : eqb new old ≡ false) where
  pub moved_list : (z : ℕ) → get_or (moved old new i).lists z [] ≡ cond (eqb z old) [] (cond (eqb z new) (list_at i new ++ (list_at i old)) (list_at i z))
  unfolding moved
  moved_list z =
      get_d_set (append_at new (list_at i old) i.lists) old z [] [] (rw (length_append_at new (list_at i old) i.lists, h.lists_length) low-old)
      ∙ rw (get_or_append_at new z (list_at i old) i.lists (rw h.lists_length low))

  pub moved_end : (k : ℕ) → get_or (moved old new i).ends k 0 ≡ cond (member k (list_at i old)) new (end_at i k)
  unfolding moved
  moved_end k =
      get_or_set_all (list_at i old) new i.ends k 0
      (λ e m. rw h.ends_length (live_below flags e (and_left (get_or flags e false) (eqb (end_at i e) old) (sym (h.listed old e) ∙ m))))

  -- what moves is live, and the old node is its end
  pub moving_live : (k : ℕ) → member k (list_at i old) ≡ true → get_or flags k false ≡ true
  moving_live k m = and_left (get_or flags k false) (eqb (end_at i k) old) (sym (h.listed old k) ∙ m)

  pub moving_end : (k : ℕ) → member k (list_at i old) ≡ true → end_at i k ≡ old
  moving_end k m = eqb-true (end_at i k) old (and_right (get_or flags k false) (eqb (end_at i k) old) (sym (h.listed old k) ∙ m))

  -- what moves stands in no other list
  pub moving_elsewhere : (z k : ℕ) → eqb z old ≡ false → member k (list_at i old) ≡ true → member k (list_at i z) ≡ false
  moving_elsewhere z k q m = rw (h.listed z k, moving_end k m, eqb_comm old z, q, and_false (get_or flags k false))

  moved_listed : (z k : ℕ) → member k (get_or (moved old new i).lists z []) ≡ (get_or flags k false && eqb (get_or (moved old new i).ends k 0) z)
  unfolding member
  moved_listed z k =
      rw (moved_list z, moved_end k)
      (by_test (member k (list_at i old))
      (λ m. rw (m, moving_live k m)
      (by_test (eqb z old) (λ q. rw (q, eqb-true z old q, other))
      (λ q. rw (q, eqb_comm new z) (by_test (eqb z new) (λ r. rw (r, member_append k (list_at i new) (list_at i old), m, or_true (member k (list_at i new)))) (λ r. rw (r, moving_elsewhere z k q m))))))
      (λ m. rw m
      (by_test (eqb z old) (λ q. rw (q, eqb-true z old q) (sym m ∙ h.listed old k))
      (λ q. rw q (by_test (eqb z new) (λ r. rw (r, member_append k (list_at i new) (list_at i old), m, or_false (member k (list_at i new)), eqb-true z new r) (h.listed new k)) (λ r. rw r (h.listed z k)))))))

  pub moved_incident : Incident flags n (moved old new i)
  unfolding moved distinct
  moved_incident = record {
    ends_length = length_set_all (list_at i old) new i.ends ∙ h.ends_length;
    lists_length = length-set (append_at new (list_at i old) i.lists) old [] ∙ length_append_at new (list_at i old) i.lists ∙ h.lists_length;
    ends_below = λ k l. rw (moved_end k) (by_test (member k (list_at i old)) (λ p. rw p low) (λ p. rw p (h.ends_below k l)));
    listed = moved_listed;
    once = λ z. rw (moved_list z)
        (by_test (eqb z old) (λ q. rw q)
        (λ q. rw q (by_test (eqb z new)
        (λ r. rw r (distinct_appended (list_at i new) (list_at i old) (h.once new) (h.once old)
        (λ e m. by_test (member e (list_at i old)) (λ k. true_false m (moving_elsewhere new e other k)) (λ k. k)))) (λ r. rw r (h.once z)))));
  }
