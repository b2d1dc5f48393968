-- What the functions over slots ask and promise.
use Rattle.std.specs.Prelude.{ℕ, ◌*◌, ◌+◌, ◌<◌, ◌≤◌, ◌≡◌, Bool, List, map, get_or, length}
use Rattle.plain.specs.Numbers.{NONE}
use Rattle.plain.specs.Reads.{live_count, live_slots}
use Rattle.liveness.specs.Flags.{live_flags}
use Rattle.shape.specs.Index.{Rewritten}

-- ---- what is asked

-- The slots have their liveness words and their entries of the map, and their numbers from `first` on are words.
pub record MapFits (live : List ℕ) (bound first : ℕ) (words : List ℕ) : Type 0 where
  pub there : bound ≤ 64 * length live
  pub few : first + bound ≤ NONE
  pub room : bound ≤ length words

-- The slots have their words and their liveness words, and as many are live as are counted.
pub record Keepable (words live : List ℕ) (bound count : ℕ) : Type 0 where
  pub there : bound ≤ 64 * length live
  pub room : bound ≤ length words
  pub counted : count ≡ live_count (live_flags live bound)

-- So have the edges' slots, of both weights.
pub record WeightsKeepable (lows highs live : List ℕ) (bound count : ℕ) : Type 0 where
  pub lows_keepable : Keepable lows live bound count
  pub highs_keepable : Keepable highs live bound count

-- The first words are entries of the map.
pub record Translatable (words : List ℕ) (count : ℕ) (entries : List ℕ) : Type 0 where
  pub room : count ≤ length words
  pub below : (i : ℕ) → i < count → get_or words i 0 < length entries

-- ---- what is promised

-- the word of live slot number i
abbrev pub kept_word : List ℕ → List Bool → ℕ → ℕ
kept_word words flags i = get_or words (get_or (live_slots flags) i 0) 0

-- Both weights of the live edges have moved down.
pub record WeightsKept (lows highs : List ℕ) (flags : List Bool) (lows' highs' : List ℕ) : Type 0 where
  pub lows_kept : Rewritten lows lows' 0 (live_count flags) (kept_word lows flags)
  pub highs_kept : Rewritten highs highs' 0 (live_count flags) (kept_word highs flags)

-- what the map holds at word i
abbrev pub translated_word : List ℕ → List ℕ → ℕ → ℕ
translated_word words entries i = get_or entries (get_or words i 0) 0

-- the words of the live slots, in slot order
abbrev pub live_words_of : List ℕ → List Bool → List ℕ
live_words_of words flags = map (λ x. get_or words x 0) (live_slots flags)
