-- The flags of one word, and how they join to the flags of all words: what counting a word at a time rests on.
use Rattle.std.specs.Prelude.{ℕ, zero, suc, ◌+◌, ◌*◌, ◌/◌, ◌%◌, ◌^◌, ◌≤◌, ◌<◌, ◌≡◌, refl, Bool, cond, List, [], ◌∷◌, ◌++◌, get_or, eqb}
use Rattle.plain.specs.Library.{sym, ap, ap₂, ◌∙◌, append-nil, append_assoc, pow_pos, add-one, arith}
use native.Mathlib.Nat.{add-zero, add-suc, pow-suc, mod-lt}
use lib.Arith.{lt-one}
use lib.Pow.{field, mod-mod-pow}
use lib.Count.{ones, ones_step}
use Rattle.plain.specs.Lists.{count}
use Rattle.plain.specs.Reads.{live_count}
use Rattle.plain.specs.Compaction.{rank}
use Rattle.liveness.specs.Flags.{bit, live_flags}
use Rattle.liveness.specs.Laws.Bits.{bit_zero, bit_suc}
use Rattle.liveness.specs.Laws.Flags.{flags_suc, flags_take, bit_of}
use Rattle.plain.proofs.Laws.ListLaws.{count_append}
use Rattle.plain.proofs.Laws.Rank.{rank_take}

-- the k lowest flags of a word
unfoldable pub word_flags : ℕ → ℕ → List Bool
word_flags zero w = []
word_flags (suc k) w = eqb (w % 2) 1 ∷ word_flags k (w / 2)

-- one flag more, at the end
word_flags_suc : (k w : ℕ) → word_flags (suc k) w ≡ word_flags k w ++ (eqb (bit w k) 1 ∷ [])
unfolding word_flags
word_flags_suc zero w = rw (bit_zero w)
word_flags_suc (suc k) w = ap (λ (l : List Bool). eqb (w % 2) 1 ∷ l) (rw (← bit_suc w k) at (word_flags_suc k (w / 2)))

-- the flags from the first slot of a word on are the word's
pub flags_block : (words : List ℕ) (i k : ℕ) → k ≤ 64 → live_flags words (64 * i + k) ≡ live_flags words (64 * i) ++ word_flags k (get_or words i 0)
flags_block words i zero h = rw (add-zero (64 * i)) (unfold word_flags in sym (append-nil (live_flags words (64 * i))))
flags_block words i (suc k) h =
    let d : (64 * i + k) / 64 ≡ i = omega arith in
    let m : (64 * i + k) % 64 ≡ k = omega arith in
    rw (add-suc (64 * i) k, flags_suc words (64 * i + k), flags_block words i k (omega arith), word_flags_suc k (get_or words i 0))
    (rw (bit_of words i (64 * i + k) d, m, append_assoc))

-- a flag counts as its bit
bit_flag : (b : ℕ) → b < 2 → cond (eqb b 1) 1 0 ≡ b
bit_flag zero h = refl
bit_flag (suc zero) h = refl
bit_flag (suc (suc b)) h = absurd (omega arith)

-- a word's live flags are counted by its set bits
pub count_word : (k w : ℕ) → w < 2 ^ k → live_count (word_flags k w) ≡ ones w
unfolding count word_flags
count_word zero w h = rw (lt-one h) (unfold ones in refl)
count_word (suc k) w h =
    ap₂ ◌+◌ (bit_flag (w % 2) (omega arith)) (count_word k (w / 2) (omega (arith, pow-suc 2 k))) ∙ sym (ones_step w)

-- the k lowest flags are those of the word's remainder
pub word_flags_rest : (k w : ℕ) → word_flags k (w % 2 ^ k) ≡ word_flags k w
unfolding word_flags
word_flags_rest zero w = refl
word_flags_rest (suc k) w =
    let low : w % 2 ^ suc k % 2 ≡ w % 2 = rw add-one at (mod-mod-pow w k 1) in
    let high : w % 2 ^ suc k / 2 ≡ w / 2 % 2 ^ k = rw add-one at (field w k 1) in
    rw (low, high, word_flags_rest k (w / 2))

-- ---- counting a word at a time

-- one word more
pub count_turn : (words : List ℕ) (i : ℕ) → get_or words i 0 < 2 ^ 64
    → live_count (live_flags words (64 * (i + 1))) ≡ live_count (live_flags words (64 * i)) + ones (get_or words i 0)
count_turn words i h =
    let e : 64 * (i + 1) ≡ 64 * i + 64 = omega arith in
    rw (e, flags_block words i 64 (omega arith), count_append (λ (f : Bool). f), count_word 64 (get_or words i 0) h)

-- the slots of the last word, where they do not fill it
pub count_rest : (words : List ℕ) (slots : ℕ)
    → live_count (live_flags words slots) ≡ live_count (live_flags words (64 * (slots / 64))) + ones (get_or words (slots / 64) 0 % 2 ^ (slots % 64))
count_rest words slots =
    let e : slots ≡ 64 * (slots / 64) + slots % 64 = omega arith in
    ap (λ (n : ℕ). live_count (live_flags words n)) e ∙ ap live_count (flags_block words (slots / 64) (slots % 64) (omega arith))
    ∙ count_append (λ f. f) (live_flags words (64 * (slots / 64))) (word_flags (slots % 64) (get_or words (slots / 64) 0))
    ∙ ap (λ (n : ℕ). live_count (live_flags words (64 * (slots / 64))) + n)
    (ap live_count (sym (word_flags_rest (slots % 64) (get_or words (slots / 64) 0)))
    ∙ count_word (slots % 64) (get_or words (slots / 64) 0 % 2 ^ (slots % 64)) (mod-lt (get_or words (slots / 64) 0) (pow_pos (slots % 64))))

-- the rank of a slot is the number of live flags of the slots before it
pub rank_flags : (words : List ℕ) (slots slot : ℕ) → slot ≤ slots → rank (live_flags words slots) slot ≡ live_count (live_flags words slot)
rank_flags words slots slot h = rank_take (live_flags words slots) slot ∙ ap live_count (flags_take words slots slot h)
