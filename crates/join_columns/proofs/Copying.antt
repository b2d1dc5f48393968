-- Copying the words of live slots, one book's behind the other's, call by call.
use Rattle.std.specs.Prelude.{ℕ, ◌≤◌, ◌≡◌, Bool, List, ◌++◌, map, drop, get_or, length}
use Rattle.plain.specs.Library.{◌∙◌, ap, sym, map-map, length-map}
use Rattle.plain.specs.declared.Slots.{Slots}
use Rattle.plain.specs.Lists.{from, written}
use Rattle.plain.specs.Reads.{live_count, live_slots}
use Rattle.plain.proofs.Laws.ListLaws.{map_get_or}
use Rattle.plain.proofs.Laws.Rank.{length_live_slots}
use Rattle.liveness.specs.Flags.{live_flags}
use Rattle.shape.specs.Index.{Rewritten}
use Rattle.survivors.specs.Slots.{kept_word, live_words_of}
use Rattle.survivors.proofs.Laws.Slots.{rewritten_list, length_live_words}
use Rattle.join_columns.specs.Slots.{BothCopyable}
use Rattle.join_columns.specs.Laws.Written.{rest, with_rest, written_behind}

-- words rewritten by those of the live slots
pub copied_all : (words : List ℕ) (flags : List Bool) {entry exit : List ℕ} → live_count flags ≤ length entry
    → Rewritten entry exit 0 (live_count flags) (kept_word words flags) → exit ≡ written (live_words_of words flags) entry
copied_all words flags {entry} {exit} room r =
    let long = length_live_slots flags in
    rewritten_list r room
    ∙ ap (λ (n : ℕ). map (kept_word words flags) (from 0 n) ++ drop n entry) (sym long)
    ∙ ap (λ (l : List ℕ). l ++ drop (length (live_slots flags)) entry)
    (sym (map-map (λ x. get_or words x 0) (λ i. get_or (live_slots flags) i 0) (from 0 (length (live_slots flags)))) ∙ ap (map (λ x. get_or words x 0)) (map_get_or (live_slots flags) 0))
    ∙ ap (λ (n : ℕ). live_words_of words flags ++ drop n entry) (sym (length-map (live_slots flags) (λ x. get_or words x 0)))

module _ {out : List ℕ} {first : Slots} {words live : List ℕ} {second : Slots} {words' live' : List ℕ} (pre : BothCopyable out first words live second words' live') where
  -- the words of each
  abbrev one : List ℕ
  one = live_words_of words (live_flags live first.bound)

  abbrev two : List ℕ
  two = live_words_of words' (live_flags live' second.bound)

  long : length one ≡ first.live
  long = length_live_words words (live_flags live first.bound) ∙ sym pre.counted

  module _ {a : List ℕ} (is : a ≡ written one out) where
    pub both_copied : {part : List ℕ} → part ≡ written two (rest first.live a) → with_rest first.live a part ≡ written (one ++ two) out
    both_copied is-too = written_behind one out first.live long is two is-too
