-- The counts of `write_ranks`, turn by turn.
use Rattle.std.specs.Prelude.{ℕ, ◌+◌, ◌*◌, ◌<◌, ◌≡◌, List, set, eqb}
use Rattle.plain.specs.Library.{length-set, get_or-set_same, get_or-set_other, arith, eqb-true, eqb-false}
use Rattle.plain.specs.Memory.{live_words}
use Rattle.plain.specs.Reads.{live_count}
use Rattle.plain.proofs.Laws.Booleans.{by_test}
use Rattle.liveness.specs.Flags.{live_flags}
use Rattle.liveness.specs.Ranks.{RanksFit, RankedTo}

pub ranks_start : {words : List ℕ} {slots : ℕ} {ranks : List ℕ} → RanksFit words slots ranks → RankedTo words slots ranks 0
ranks_start pre = record { long = pre.long; few = pre.few; fits = pre.fits; holds = λ j l. absurd (omega arith) }

-- one count more
pub ranks_turn : {words : List ℕ} {slots : ℕ} {ranks : List ℕ} {i live : ℕ} → RankedTo words slots ranks i → i < live_words slots
    → live ≡ live_count (live_flags words (64 * i)) → RankedTo words slots (set ranks i live) (i + 1)
ranks_turn {ranks = ranks} {i} {live} before l is = record {
  long = before.long;
  few = before.few;
  fits = simp length-set before.fits;
  holds = λ j h. by_test (eqb j i)
      (λ q. let e = eqb-true j i q in rw (e, get_or-set_same ranks i live 0 (omega (arith, before.fits))) is)
      (λ q. let ne = eqb-false j i q in rw (get_or-set_other ranks i j live 0 ne) (before.holds j (omega arith)));
}
