-- Laws of edges made dead: none, some and then more, only the live ones of them, and both walks of a node.
use Rattle.std.specs.Prelude.{ℕ, zero, suc, ◌+◌, ◌≡◌, refl, Bool, true, false, cond, ◌&&◌, ◌||◌, not, List, [], ◌∷◌, ◌++◌, get_or, set, eqb}
use Rattle.plain.specs.Library.{sym, ◌∙◌, arith}
use Rattle.std.proofs.Math.Dec.{eqb-zero-suc, eqb-suc-zero, eqb-suc-suc}
use Rattle.plain.specs.Lists.{member, keep}
use Rattle.plain.proofs.Laws.Booleans.{by_test, true_false, and_left, and_true, and_false}
use Rattle.plain.proofs.Laws.ListLaws.{member_append, member_keep}
use Rattle.liveness.specs.Flags.{live_flags}
use Rattle.shape.specs.Shape.{Adjacency, raw, live_in, walk_of}
use Rattle.shape.proofs.Laws.Chains.{in_front}
use Rattle.shape.proofs.Laws.Keeping.{in_second}
use Rattle.shape.proofs.Laws.Taking.{keep_append}
use Rattle.adjacency.specs.Clear.{Retired}

-- ---- flags

-- a flag after one was cleared, in range or not
pub get_or_cleared : (flags : List Bool) (e k : ℕ) → get_or (set flags e false) k false ≡ (get_or flags k false && not (eqb k e))
get_or_cleared [] e k = refl
get_or_cleared (flag ∷ flags) zero zero = sym (and_false flag)
get_or_cleared (flag ∷ flags) zero (suc k) = rw (eqb-suc-zero k) (sym (and_true (get_or flags k false)))
get_or_cleared (flag ∷ flags) (suc e) zero = rw (eqb-zero-suc e) (sym (and_true flag))
get_or_cleared (flag ∷ flags) (suc e) (suc k) = rw (eqb-suc-suc k e) (get_or_cleared flags e k)

-- what is live and not among the live ones of a list is what is live and not in the list
live_gone : (test : ℕ → Bool) (l : List ℕ) (k : ℕ) → (test k && not (member k (keep test l))) ≡ (test k && not (member k l))
live_gone test l k =
    rw (member_keep test k l) (by_test (test k) (λ q. rw (q, and_true (member k l))) (λ q. rw q))

-- ---- edges made dead

-- none
pub retired_none : (slots : ℕ) (words : List ℕ) → Retired slots [] words words 0
unfolding member
retired_none slots words = record {
  flags = λ k. sym (and_true (get_or (live_flags words slots) k false));
  counted = omega arith;
  packs = λ p. p;
  others = λ i off. refl;
  long = refl;
}

-- some, and then more
pub retired_then : {slots n m : ℕ} {es fs entry mid exit : List ℕ} → Retired slots es entry mid n → Retired slots fs mid exit m
    → Retired slots (es ++ fs) entry exit (n + m)
retired_then {slots} {es = es} {fs = fs} {entry = entry} a b = record {
  flags = λ k. b.flags k ∙ rw (a.flags k, member_append k es fs) (gone (get_or (live_flags entry slots) k false) (member k es) (member k fs));
  counted = let first = a.counted in let second = b.counted in omega arith;
  packs = λ p. b.packs (a.packs p);
  others = λ i off.
      b.others i (λ e m live. off e (in_second e es fs m) (and_left (get_or (live_flags entry slots) e false) (not (member e es)) (sym (a.flags e) ∙ live)))
      ∙ a.others i (λ e m. off e (in_front e es fs m));
  long = b.long ∙ a.long;
}
  where
    gone : (live x y : Bool) → ((live && not x) && not y) ≡ (live && not (x || y))
    gone false x y = refl
    gone true true y = refl
    gone true false y = refl

module _ {slots n : ℕ} {entry exit : List ℕ} where
  -- others that leave the same live
  retired_same : {es fs : List ℕ}
      → ((k : ℕ) → (get_or (live_flags entry slots) k false && not (member k es)) ≡ (get_or (live_flags entry slots) k false && not (member k fs)))
      → Retired slots es entry exit n → Retired slots fs entry exit n
  retired_same {es} {fs} same a = record {
    flags = λ k. a.flags k ∙ same k;
    counted = a.counted;
    packs = a.packs;
    others = λ i off. a.others i (λ e m live. off e (too e m live) live);
    long = a.long;
  }
    where
      -- a live one is in both or in neither
      too : (e : ℕ) → member e es ≡ true → get_or (live_flags entry slots) e false ≡ true → member e fs ≡ true
      too e m live = by_test (member e fs) (λ t. t) (λ t. true_false {b = false} (rw (m, live, t) at (same e)) refl)

  -- to make a list dead is to make the live ones of it dead
  retired_live : (l : List ℕ) → Retired slots l entry exit n → Retired slots (keep (live_in (live_flags entry slots)) l) entry exit n
  retired_live l = retired_same (λ k. sym (live_gone (live_in (live_flags entry slots)) l k))

  -- so to make the entries of a live node dead, and none of a removed one, is to make the walk dead
  pub retired_walk : (live : Bool) (a : Adjacency) → Retired slots (cond live (raw a) []) entry exit n
      → Retired slots (walk_of (live_flags entry slots) live a) entry exit n
  retired_walk true a gone = retired_live (raw a) gone
  retired_walk false a gone = gone

  -- and the other way round
  retired_raw : (live : Bool) (a : Adjacency) → Retired slots (walk_of (live_flags entry slots) live a) entry exit n
      → Retired slots (cond live (raw a) []) entry exit n
  retired_raw true a gone = retired_same (live_gone (live_in (live_flags entry slots)) (raw a)) gone
  retired_raw false a gone = gone

-- Two walks made dead, the second as it is read after the first was made dead, are both as they were at entry: what the first pass made dead is in both, or was
-- dead.
pub retired_both : {slots n m : ℕ} {entry mid exit : List ℕ} (live : Bool) (a b : Adjacency)
    → Retired slots (walk_of (live_flags entry slots) live a) entry mid n → Retired slots (walk_of (live_flags mid slots) live b) mid exit m
    → Retired slots (walk_of (live_flags entry slots) live a ++ walk_of (live_flags entry slots) live b) entry exit (n + m)
retired_both {slots} {entry = entry} true a b first second =
    rw (keep_append (live_in (live_flags entry slots)) (raw a) (raw b)) at
    (retired_live (raw a ++ raw b) (retired_then (retired_raw true a first) (retired_raw true b second)))
retired_both false a b first second = retired_then first second
