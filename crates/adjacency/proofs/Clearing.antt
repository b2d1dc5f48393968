-- The edges of a walk made dead, turn by turn; then those of a node's whole walk.
use Rattle.std.specs.Prelude.{ℕ, ◌+◌, ◌/◌, ◌≤◌, ◌≡◌, refl, Bool, true, false, cond, List, [], ◌∷◌, ◌++◌, length, get_or, eqb}
use Rattle.plain.specs.Library.{sym, ap, ◌∙◌, length-set, append_snoc, get_or-set_other, arith}
use Rattle.plain.specs.Lists.{member}
use Rattle.plain.specs.Reads.{live_count}
use Rattle.plain.proofs.Laws.Booleans.{by_test, or_false}
use Rattle.plain.proofs.Laws.ListLaws.{member_first, count_length}
use Rattle.plain.proofs.Laws.Rank.{live_count_removed}
use Rattle.liveness.specs.Flags.{live_flags}
use Rattle.liveness.specs.Laws.Flags.{length_flags}
use Rattle.liveness.specs.Calls.{Cleared}
use Rattle.adjacency.specs.Clear.{Retired}
use Rattle.adjacency.specs.Laws.Clear.{get_or_cleared, retired_none, retired_then}

-- ---- edges made dead

-- one
pub retired_one : {slots e : ℕ} {entry exit : List ℕ} {answer : Bool} → Cleared entry slots e answer exit
    → Retired slots (e ∷ []) entry exit (cond answer 1 0)
unfolding member
retired_one {slots} {e} {entry} {exit} {answer} cleared = record {
  flags = λ k. ap (λ (f : List Bool). get_or f k false) cleared.flags ∙ get_or_cleared (live_flags entry slots) e k
      ∙ rw (or_false (eqb k e));
  counted = by_test answer one_less (λ q. rw (q, cleared.keeps q) (omega arith));
  packs = cleared.packs;
  others = λ i off. by_test answer
      (λ q. ap (λ (l : List ℕ). get_or l i 0) cleared.others
      ∙ get_or-set_other entry (e / 64) i (get_or exit (e / 64) 0) 0 (off e (member_first e []) (was_live q)))
      (λ q. rw (cleared.keeps q));
  long = ap length cleared.others ∙ length-set entry (e / 64) (get_or exit (e / 64) 0);
}
  where
    was_live : answer ≡ true → get_or (live_flags entry slots) e false ≡ true
    was_live q = sym cleared.answers ∙ q

    one_less : answer ≡ true → live_count (live_flags entry slots) ≡ cond answer 1 0 + live_count (live_flags exit slots)
    one_less q = rw (q, cleared.flags) (omega (arith, live_count_removed (live_flags entry slots) e (was_live q)))

-- no more are counted than there are slots
pub retired_few : {slots n : ℕ} {es entry exit : List ℕ} → Retired slots es entry exit n → n ≤ slots
retired_few {slots} {entry = entry} a =
    omega (arith, a.counted, count_length (λ f. f) (live_flags entry slots), length_flags entry slots)

-- ---- the loop

-- Of all entries those of `past` are dead and those of `left` are still to be read; n of them were live.
pub record Clearing (all past left : List ℕ) (slots : ℕ) (live₀ live : List ℕ) (n : ℕ) : Type 0 where
  pub whole : all ≡ past ++ left
  pub retired : Retired slots past live₀ live n

-- where it starts
pub clearing_start : (all : List ℕ) (slots : ℕ) (live : List ℕ) → Clearing all [] all slots live live 0
clearing_start all slots live = record { whole = refl; retired = retired_none slots live }

module _ {all past left : List ℕ} {slots : ℕ} {live₀ live : List ℕ} {n : ℕ} (i : Clearing all past left slots live₀ live n) where
  -- past one entry more
  pub clearing_on : {e m : ℕ} {rest live' : List ℕ} → left ≡ e ∷ rest → Retired slots (e ∷ []) live live' m
      → Clearing all (past ++ (e ∷ [])) rest slots live₀ live' (n + m)
  clearing_on {e} {rest = rest} q gone = record {
    whole = i.whole ∙ rw q (sym (append_snoc past e rest));
    retired = retired_then i.retired gone;
  }
