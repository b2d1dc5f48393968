-- New numbers of live slots: where no slot is removed, each keeps its own.
use Rattle.std.specs.Prelude.{ℕ, zero, suc, ◌≤◌, ◌<◌, ◌≡◌, refl, Bool, true, false, List, [], ◌∷◌, length}
use Rattle.plain.specs.Library.{sym, arith}
use Rattle.plain.specs.Compaction.{rank}
use Rattle.plain.specs.Lists.{count}
use Rattle.plain.specs.Reads.{live_count}
use Rattle.plain.proofs.Laws.ListLaws.{count_length}
use Rattle.liveness.specs.Flags.{live_flags}
use Rattle.liveness.specs.Laws.Flags.{length_flags}
use Rattle.image_write.specs.Numbering.{Numbered}

-- a slot is its own rank where none is removed
own_rank : (flags : List Bool) (x : ℕ) → length flags ≤ live_count flags → x ≤ length flags → rank flags x ≡ x
unfolding count rank
own_rank flags zero full l = refl
own_rank [] (suc x) full l = absurd (omega arith)
own_rank (true ∷ flags) (suc x) full l = omega (arith, own_rank flags x (omega arith) (omega arith))
own_rank (false ∷ flags) (suc x) full l = absurd (omega (arith, count_length (λ (f : Bool). f) flags))

pub whole_number : {live : List ℕ} {slots : ℕ} {ranks : List ℕ} {all : Bool} (x : ℕ) → Numbered live slots ranks all → all ≡ true → x < slots
    → x ≡ rank (live_flags live slots) x
whole_number {live} {slots} x h set l =
    sym (own_rank (live_flags live slots) x (omega (arith, length_flags live slots, h.whole set)) (omega (arith, length_flags live slots)))
