-- Following a list of entries and marking each, up to the first that does not pass.
use Rattle.std.specs.Prelude.{ℕ, ◌≡◌, refl, Bool, true, false, ◌&&◌, ◌||◌, not, List, [], ◌∷◌, ◌++◌, length, eqb}
use Rattle.plain.specs.Library.{sym, ap, subst, ◌∙◌, inl, inr, ⊎_elim, not-true, not-false}
use Rattle.std.proofs.lemmas.Bool.{false≢true}
use Rattle.plain.specs.Lists.{member, distinct, all, keep}
use Rattle.plain.proofs.Laws.Booleans.{by_test, true_false, refuted, and_left, and_right, both_true, or_other, or_false, or_true}
use Rattle.plain.proofs.Laws.ListLaws.{all_of, all_member, member_append, distinct_append}
use Rattle.marks.specs.Marks.{marked, Marked, Entered, Passed, fresh, passes, Followed, Adds}
use Rattle.marks.specs.Laws.Fresh.{or_swap, passes_none, passes_fails, passes_marked, passes_more}

-- Of a list of entries the rest is still to be followed; those before are marked.
pub record Following (test : ℕ → Bool) (l seen₀ seen rest : List ℕ) : Type 0 where
  pub answers : passes test (marked seen₀) l ≡ passes test (marked seen) rest
  pub marks : (i : ℕ) → (marked seen i || member i rest) ≡ (marked seen₀ i || member i l)
  pub long : length seen ≡ length seen₀

-- at the start
pub follow_start : (test : ℕ → Bool) (l seen : List ℕ) → Following test l seen seen l
follow_start test l seen = record { answers = refl; marks = λ i. refl; long = refl }

module _ {test : ℕ → Bool} {l seen₀ seen rest : List ℕ} (f : Following test l seen₀ seen rest) where
  -- at the end the last test decides
  pub follow_done : (final : Bool) → rest ≡ [] → Followed test final l seen₀ final seen
  unfolding member
  follow_done final q = record {
    answers = rw (f.answers ∙ ap (passes test (marked seen)) q ∙ passes_none test (marked seen));
    marks = λ _ i. sym (or_false (marked seen i)) ∙ ap (λ (r : List ℕ). marked seen i || member i r) (sym q) ∙ f.marks i;
  }

  module _ {e : ℕ} {later : List ℕ} (q : rest ≡ e ∷ later) (final : Bool) where
    -- what the entry and those after it decide
    at_entry : passes test (marked seen₀) l ≡ passes test (marked seen) (e ∷ later)
    at_entry = f.answers ∙ ap (passes test (marked seen)) q

    -- an entry that does not pass
    fails : (exit : List ℕ) → passes test (marked seen) (e ∷ later) ≡ false → Followed test final l seen₀ false exit
    fails exit h = record { answers = rw (at_entry ∙ h); marks = λ q. absurd (false≢true q) }

    -- the entry fails
    pub follow_fails : (exit : List ℕ) → test e ≡ false → Followed test final l seen₀ false exit
    follow_fails exit h = fails exit (passes_fails test (marked seen) e later h)

    -- the entry is marked already
    pub follow_marked : {exit : List ℕ} {answer : Bool} → Marked seen e answer exit → answer ≡ false → Followed test final l seen₀ false exit
    follow_marked {exit} m h = fails exit (passes_marked test (marked seen) e later (not-false (marked seen e) (sym m.answers ∙ h)))

  -- the entry passes
  pub follow_more : {e : ℕ} {later exit : List ℕ} {answer : Bool} → rest ≡ e ∷ later → test e ≡ true → Marked seen e answer exit → answer ≡ true
      → length exit ≡ length seen → Following test l seen₀ exit later
  unfolding member
  follow_more {e} {later} {exit} q h m a long = record {
    answers = f.answers ∙ ap (passes test (marked seen)) q ∙ passes_more test (marked seen) e later (marked exit) m.marks h (not-true (marked seen e) (sym m.answers ∙ a));
    marks = λ i. ap (λ (b : Bool). b || member i later) (m.marks i) ∙ sym (or_swap (eqb i e) (marked seen i) (member i later))
        ∙ ap (λ (r : List ℕ). marked seen i || member i r) (sym q) ∙ f.marks i;
    long = long ∙ f.long;
  }

-- an entry that is looked at, and marked where it passes
module _ {test : ℕ → Bool} {l seen₀ seen rest exit later : List ℕ} {e : ℕ} {answer : Bool}
    (f : Following test l seen₀ seen rest) (q : rest ≡ e ∷ later) (p : Passed (test e) seen e answer exit) where
  -- it does not pass
  pub pass_fails : (final : Bool) → answer ≡ false → Followed test final l seen₀ false exit
  pass_fails final a = by_test (test e) (λ t. follow_marked f q final (p.marking t) a) (λ t. follow_fails f q final exit t)

  -- it passes
  pub pass_more : answer ≡ true → length exit ≡ length seen → Following test l seen₀ exit later
  pass_more a long = by_test (test e) (λ t. follow_more f q t (p.marking t) a long) (λ t. absurd (false≢true (sym (p.failing t) ∙ a)))

-- passing an entry: one that is not listed, one that does not pass, and one that is marked
module _ {listed passing : Bool} {seen : List ℕ} {e : ℕ} where
  pub entered_unlisted : listed ≡ false → Entered listed passing seen e true seen
  entered_unlisted out = record {
    unlisted = λ _. (refl, refl);
    failing = λ h. absurd (false≢true (sym out ∙ h));
    marking = λ h. absurd (false≢true (sym out ∙ h));
  }

  pub entered_failing : listed ≡ true → passing ≡ false → Entered listed passing seen e false seen
  entered_failing there bad = record {
    unlisted = λ h. absurd (false≢true (sym h ∙ there));
    failing = λ _ _. refl;
    marking = λ _ h. absurd (false≢true (sym bad ∙ h));
  }

  pub entered_marking : {answer : Bool} {exit : List ℕ} → listed ≡ true → passing ≡ true → Marked seen e answer exit → Entered listed passing seen e answer exit
  entered_marking there good m = record {
    unlisted = λ h. absurd (false≢true (sym h ∙ there));
    failing = λ _ h. absurd (false≢true (sym h ∙ good));
    marking = λ _ _. m;
  }

-- an entry of a walk, which is followed where it is listed
module _ (listed : ℕ → Bool) {test : ℕ → Bool} {l seen₀ seen rest exit : List ℕ} {e : ℕ} (later : List ℕ) {answer : Bool}
    (f : Following test l seen₀ seen rest) (q : rest ≡ keep listed (e ∷ later)) (n : Entered (listed e) (test e) seen e answer exit) where
  -- what is left where it is, and where it is not
  is_first : listed e ≡ true → rest ≡ e ∷ keep listed later
  unfolding keep
  is_first h = q ∙ rw h

  is_passed : listed e ≡ false → rest ≡ keep listed later
  unfolding keep
  is_passed h = q ∙ rw h

  -- it does not pass
  pub enter_fails : (final : Bool) → answer ≡ false → Followed test final l seen₀ false exit
  enter_fails final a =
      by_test (listed e)
      (λ h. by_test (test e) (λ t. follow_marked f (is_first h) final (n.marking h t) a) (λ t. follow_fails f (is_first h) final exit t))
      (λ h. absurd (false≢true (sym a ∙ (n.unlisted h).0)))

  -- it passes, or is not listed
  pub enter_more : answer ≡ true → length exit ≡ length seen → Following test l seen₀ exit (keep listed later)
  enter_more a long =
      by_test (listed e)
      (λ h. by_test (test e) (λ t. follow_more f (is_first h) t (n.marking h t) a long) (λ t. absurd (false≢true (sym (n.failing h t) ∙ a))))
      (λ h. subst (λ (s : List ℕ). Following test l seen₀ s (keep listed later)) (sym (n.unlisted h).1)
      (subst (λ (r : List ℕ). Following test l seen₀ seen r) (is_passed h) f))

-- ---- a list that was followed to its end

pub followed_yes : {test : ℕ → Bool} {final answer : Bool} {l entry exit : List ℕ} → Followed test final l entry answer exit → answer ≡ true → Followed test final l entry true exit
followed_yes {test} {final} {l = l} {entry} {exit} f q = subst (λ (r : Bool). Followed test final l entry r exit) q f

module _ {test : ℕ → Bool} {final : Bool} {l entry exit : List ℕ} (f : Followed test final l entry true exit) where
  -- every entry has passed
  pub followed_all : all test l ≡ true
  unfolding passes
  followed_all =
      and_left (all test l) (fresh (marked entry) l) (and_left (all test l && fresh (marked entry) l) final (sym f.answers))

  followed_fresh : fresh (marked entry) l ≡ true
  unfolding passes
  followed_fresh =
      and_right (all test l) (fresh (marked entry) l) (and_left (all test l && fresh (marked entry) l) final (sym f.answers))

  -- none came twice
  pub followed_once : distinct l ≡ true
  unfolding fresh
  followed_once = and_left (distinct l) (all (λ e. not (marked entry e)) l) followed_fresh

  -- and none was marked
  pub followed_new : (e : ℕ) → member e l ≡ true → marked entry e ≡ false
  unfolding fresh
  followed_new e m =
      not-true (marked entry e) (all_member (λ e. not (marked entry e)) l (and_right (distinct l) (all (λ e. not (marked entry e)) l) followed_fresh) e m)

  -- the last test holds
  pub followed_final : final ≡ true
  followed_final = and_right (passes test (marked entry) l) final (sym f.answers)

  -- what is marked
  pub followed_adds : Adds l entry exit
  followed_adds = record {
    marks = λ e h. by_test (marked entry e) (λ q. inl q) (λ q. inr (or_other (sym (f.marks refl e) ∙ h) q));
  }

-- one list after the other: none comes twice in both together
module _ {test : ℕ → Bool} {final last : Bool} {l m a b c : List ℕ} (f : Followed test final l a true b) (g : Followed test last m b true c) where
  pub both_once : distinct (l ++ m) ≡ true
  both_once =
      distinct_append l m
      ∙ both_true (followed_once f)
      (both_true (followed_once g)
      (all_of (λ e. not (member e m)) l
      (λ e k. ap not (refuted (member e m) (λ q. true_false (f.marks refl e ∙ ap (λ (b : Bool). marked a e || b) k ∙ or_true (marked a e)) (followed_new g e q))))))

  pub both_adds : Adds (l ++ m) a c
  both_adds = record {
    marks = λ e h. ⊎_elim
        (λ q. ⊎_elim (λ k. inl k) (λ k. inr (member_append e l m ∙ ap (λ (b : Bool). b || member e m) k)) ((followed_adds f).marks e q))
        (λ q. inr (member_append e l m ∙ ap (λ (b : Bool). member e l || b) q ∙ or_true (member e l))) ((followed_adds g).marks e h);
  }

-- adding nothing
pub adds_none : (entry : List ℕ) → Adds [] entry entry
adds_none entry = record { marks = λ e h. inl h }
