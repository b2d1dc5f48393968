-- Laws of the live entries, and of what a run takes over and sweeps: neither changes what is walked. Callers cite these and unfold neither.
use Rattle.std.specs.Prelude.{ℕ, ◌≡◌, refl, Bool, true, ◌&&◌, List, [], ◌∷◌, ◌++◌, eqb}
use Rattle.plain.specs.Library.{sym, ◌∙◌, Option, none, some, eq-eqb}
use Rattle.plain.specs.Lists.{member, without, keep}
use Rattle.plain.proofs.Laws.Booleans.{by_test, and_right}
use Rattle.plain.proofs.Laws.ListLaws.{member_keep}
use Rattle.shape.specs.Shape.{Adjacency, hiding, raw, live_in}
use Rattle.shape.specs.Chains.{In}
use Rattle.shape.specs.Steps.{live_entries, run_or_base, taken, swept, LiveOnly}

-- ---- keeping

module _ (test : ℕ → Bool) where
  pub keep_append : (a b : List ℕ) → keep test (a ++ b) ≡ keep test a ++ keep test b
  unfolding keep
  keep_append [] b = refl
  keep_append (x ∷ a) b = by_test (test x) (λ h. rw (h, keep_append a b)) (λ h. rw (h, keep_append a b))

  -- what is kept is kept again
  pub keep_again : (l : List ℕ) → keep test (keep test l) ≡ keep test l
  unfolding keep
  keep_again [] = refl
  keep_again (x ∷ l) = by_test (test x) (λ h. rw (h, h, keep_again l)) (λ h. rw (h, keep_again l))

  -- deleting before or after is the same
  pub keep_without : (e : ℕ) (l : List ℕ) → keep test (without e l) ≡ without e (keep test l)
  unfolding keep without
  keep_without e [] = refl
  keep_without e (x ∷ l) =
      by_test (test x) (λ h. by_test (eqb e x) (λ k. rw (k, h, k) (keep_without e l)) (λ k. rw (k, h, k, keep_without e l)))
      (λ h. by_test (eqb e x) (λ k. rw (k, h) (keep_without e l)) (λ k. rw (k, h) (keep_without e l)))

  pub keep_one : (e : ℕ) → test e ≡ true → keep test (e ∷ []) ≡ e ∷ []
  unfolding keep
  keep_one e h = rw h

  -- what is kept of entries that all pass is all of them
  pub keep_passing : (l : List ℕ) → ((e : ℕ) → In e l → test e ≡ true) → keep test l ≡ l
  unfolding keep member
  keep_passing [] h = refl
  keep_passing (x ∷ l) h =
      rw (h x (rw (eqb_same x)), keep_passing l (λ e m. h e (by_test (eqb e x) (λ k. rw k) (λ k. rw k m))))
    where
      eqb_same : (x : ℕ) → eqb x x ≡ true
      eqb_same x = eq-eqb x x refl

-- two tests that agree on the entries keep the same
pub keep_agree : (f g : ℕ → Bool) (l : List ℕ) → ((e : ℕ) → In e l → f e ≡ g e) → keep f l ≡ keep g l
unfolding keep member
keep_agree f g [] h = refl
keep_agree f g (x ∷ l) h =
    let rest = keep_agree f g l (λ e m. h e (by_test (eqb e x) (λ k. rw k) (λ k. rw k m))) in
    let here = h x (rw (eq-eqb x x refl)) in
    by_test (g x) (λ k. rw (here, k, rest)) (λ k. rw (here, k, rest))

-- one test after another
pub keep_both : (f g : ℕ → Bool) (l : List ℕ) → keep f (keep g l) ≡ keep (λ e. g e && f e) l
unfolding keep
keep_both f g [] = refl
keep_both f g (x ∷ l) = by_test (g x) (λ h. rw h (by_test (f x) (λ k. rw (k, keep_both f g l)) (λ k. rw (k, keep_both f g l)))) (λ h. rw (h, keep_both f g l))

-- ---- taken over and swept

module _ (flags : List Bool) where
  -- a run that takes over the ring walks as before
  pub live_taken : (a : Adjacency) → live_entries flags (taken flags a) ≡ live_entries flags (raw a)
  unfolding taken
  live_taken a = entries a.run
    where
      entries : (run : Option (List ℕ))
          → keep (live_in flags) (run_or_base flags run a.base ++ keep (live_in flags) a.ring) ≡ keep (live_in flags) (hiding run a.base ++ a.ring)
      entries none = rw (
        keep_append (live_in flags) (keep (live_in flags) a.base) (keep (live_in flags) a.ring),
        keep_again (live_in flags) a.base,
        keep_again (live_in flags) a.ring,
        keep_append (live_in flags) a.base a.ring,
      )
      entries (some run) = rw (
        keep_append (live_in flags) run (keep (live_in flags) a.ring),
        keep_again (live_in flags) a.ring,
        keep_append (live_in flags) run a.ring,
      )

  -- a swept run holds live edges only
  pub swept_live : (run : List ℕ) → LiveOnly flags (swept flags run)
  swept_live run e m = and_right (member e run) (live_in flags e) (sym (member_keep (live_in flags) e run) ∙ m)

  -- and one that holds live edges only is left
  pub swept_all : (run : List ℕ) → LiveOnly flags run → swept flags run ≡ run
  swept_all run alive = keep_passing (live_in flags) run alive

  -- a swept run that has taken over the ring walks as the node did
  pub live_edited : (a : Adjacency) → live_entries flags (swept flags (taken flags a)) ≡ live_entries flags (raw a)
  live_edited a = keep_again (live_in flags) (taken flags a) ∙ live_taken a
