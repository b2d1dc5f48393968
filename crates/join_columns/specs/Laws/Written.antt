-- Slices that lists were written to: one list behind another in a part of the slice, entries put through a map, and a part as a range of the whole.
use Rattle.std.specs.Prelude.{ℕ, ◌+◌, ◌-◌, ◌<◌, ◌≤◌, ◌≡◌, List, [], ◌++◌, map, drop, get_or, length, take}
use Rattle.plain.specs.Library.{◌∙◌, ap, ap₂, sym, append_assoc, append-nil, map-map, get_or-append, length-append, length-drop, length-map, take_at, arith}
use Rattle.std.proofs.Common.{drop_of_length-le, drop_at, drop-drop, get_or-append-add, get_or-drop, get_or-take, length-take-le, take_all}
use Rattle.plain.specs.Lists.{from, written}
use Rattle.plain.proofs.Laws.ListLaws.{map_get_or, member_at}
use Rattle.shape.specs.Chains.{In}
use Rattle.shape.specs.Index.{Rewritten}
use Rattle.shape.proofs.Laws.Indexing.{map_from_same}
use Rattle.survivors.specs.Slots.{Translatable, translated_word}
use Rattle.survivors.proofs.Laws.Slots.{rewritten_list}
use Rattle.join_columns.specs.Sides.{through}

-- a slice is as long as before
pub written_length : (xs entry : List ℕ) → length xs ≤ length entry → length (written xs entry) ≡ length entry
written_length xs entry room = length-append xs (drop (length xs) entry) ∙ rw (length-drop (length xs) entry) (omega arith)

-- ---- a part of a slice up to its end

-- the part that a callee is lent
abbrev pub rest : ℕ → List ℕ → List ℕ
rest k l = take (length l - k) (drop k l)

-- the slice once the callee has left the part
abbrev pub with_rest : ℕ → List ℕ → List ℕ → List ℕ
with_rest k l part = take k l ++ (part ++ drop (length l - k) (drop k l))

pub rest_whole : (k : ℕ) (l : List ℕ) → rest k l ≡ drop k l
rest_whole k l = take_all (length l - k) (drop k l) (rw (length-drop k l) (omega arith))

pub length_rest : (k : ℕ) (l : List ℕ) → length (rest k l) ≡ length l - k
length_rest k l = ap length (rest_whole k l) ∙ length-drop k l

with_rest_is : (k : ℕ) (l part : List ℕ) → with_rest k l part ≡ take k l ++ part
with_rest_is k l part =
    let none : drop (length l - k) (drop k l) ≡ [] = drop_of_length-le (drop k l) {i = length l - k} (rw (length-drop k l) (omega arith)) in
    rw (none, append-nil part)

-- ---- one list behind another

module _ (xs out : List ℕ) {first : List ℕ} (k : ℕ) (long : length xs ≡ k) (one : first ≡ written xs out) where
  rest_after : rest k first ≡ drop k out
  rest_after = rest_whole k first ∙ ap (drop k) one ∙ drop_at xs (drop (length xs) out) k long ∙ ap (λ (n : ℕ). drop n out) long

  -- there is room for as many as there was behind the first list
  pub room_behind : (n : ℕ) → k + n ≤ length out → n ≤ length (rest k first)
  room_behind n room = rw (rest_after, length-drop k out) (omega arith)

  -- both lists are written
  pub written_behind : {part : List ℕ} (ys : List ℕ) → part ≡ written ys (rest k first) → with_rest k first part ≡ written (xs ++ ys) out
  written_behind {part} ys two =
      let front : take k first ≡ xs = ap (take k) one ∙ take_at xs (drop (length xs) out) k long in
      let place : k + length ys ≡ length (xs ++ ys) = sym (length-append xs ys ∙ ap (λ (n : ℕ). n + length ys) long) in
      with_rest_is k first part
      ∙ ap₂ (λ (a b : List ℕ). a ++ b) front
      (two ∙ ap (λ (l : List ℕ). written ys l) rest_after ∙ ap (λ (l : List ℕ). ys ++ l) (drop-drop (length ys) k out ∙ ap (λ (n : ℕ). drop n out) place))
      ∙ sym (append_assoc xs ys (drop (length (xs ++ ys)) out))

-- ---- entries put through a map

module _ (xs entry : List ℕ) {out : List ℕ} (n : ℕ) (long : length xs ≡ n) (room : n ≤ length entry) (is : out ≡ written xs entry) where
  entry_at : (i : ℕ) → i < n → get_or out i 0 ≡ get_or xs i 0
  entry_at i h = ap (λ (l : List ℕ). get_or l i 0) is ∙ get_or-append xs (drop (length xs) entry) 0 i (omega arith)

  out_long : length out ≡ length entry
  out_long = ap length is ∙ written_length xs entry (omega arith)

  pub through_fits : (entries : List ℕ) → ((e : ℕ) → In e xs → e < length entries) → Translatable out n entries
  through_fits entries below = record {
    room = omega (arith, out_long);
    below = λ i h. rw (entry_at i h) (below (get_or xs i 0) (member_at xs i 0 (omega arith)));
  }

  pub written_through : {out' : List ℕ} (entries : List ℕ) → Rewritten out out' 0 n (translated_word out entries) → out' ≡ written (through entries xs) entry
  written_through {out'} entries r =
      let size : length (through entries xs) ≡ n = length-map xs (λ e. get_or entries e 0) ∙ long in
      rewritten_list r (omega (arith, out_long))
      ∙ ap₂ (λ (a b : List ℕ). a ++ b)
      (map_from_same (translated_word out entries) (λ i. get_or entries (get_or xs i 0) 0) 0 n (λ i l h. ap (λ (e : ℕ). get_or entries e 0) (entry_at i (omega arith)))
      ∙ ap (λ (k : ℕ). map (λ i. get_or entries (get_or xs i 0) 0) (from 0 k)) (sym long)
      ∙ sym (map-map (λ e. get_or entries e 0) (λ i. get_or xs i 0) (from 0 (length xs)))
      ∙ ap (through entries) (map_get_or xs 0))
      (ap (drop n) is ∙ drop_at xs (drop (length xs) entry) n long ∙ ap (λ (k : ℕ). drop k entry) (long ∙ sym size))

-- ---- a part as a range of the whole

module _ (ws xs : List ℕ) {part : List ℕ} (at : ℕ) (room : at + length xs ≤ length ws) (is : part ≡ written xs (rest at ws)) where
  whole : with_rest at ws part ≡ take at ws ++ (xs ++ drop (at + length xs) ws)
  whole =
      with_rest_is at ws part
      ∙ ap (λ (l : List ℕ). take at ws ++ l)
      (is ∙ ap (λ (l : List ℕ). written xs l) (rest_whole at ws) ∙ ap (λ (l : List ℕ). xs ++ l) (drop-drop (length xs) at ws))

  front_long : length (take at ws) ≡ at
  front_long = length-take-le at ws (omega arith)

  behind : (x : ℕ) → get_or (with_rest at ws part) (at + x) 0 ≡ get_or (xs ++ drop (at + length xs) ws) x 0
  behind x =
      ap (λ (l : List ℕ). get_or l (at + x) 0) whole
      ∙ ap (λ (k : ℕ). get_or (take at ws ++ (xs ++ drop (at + length xs) ws)) (k + x) 0) (sym front_long)
      ∙ get_or-append-add (take at ws) (xs ++ drop (at + length xs) ws) x 0

  pub part_rewritten : Rewritten ws (with_rest at ws part) at (length xs) (λ i. get_or xs i 0)
  part_rewritten = record {
    long = ap length whole ∙ length-append (take at ws) (xs ++ drop (at + length xs) ws)
        ∙ rw (front_long, length-append xs (drop (at + length xs) ws), length-drop (at + length xs) ws) (omega arith);
    within = λ x h. behind x ∙ get_or-append xs (drop (at + length xs) ws) 0 x h;
    below = λ i h. ap (λ (l : List ℕ). get_or l i 0) whole
        ∙ get_or-append (take at ws) (xs ++ drop (at + length xs) ws) 0 i (omega (arith, front_long)) ∙ get_or-take at ws i 0 h;
    above = λ i h.
        let j : ℕ = i - (at + length xs) in
        let place : at + (length xs + j) ≡ i = omega arith in
        let place_in : at + length xs + j ≡ i = omega arith in
        ap (λ (k : ℕ). get_or (with_rest at ws part) k 0) (sym place) ∙ behind (length xs + j)
        ∙ get_or-append-add xs (drop (at + length xs) ws) j 0 ∙ get_or-drop (at + length xs) ws j 0 ∙ ap (λ (k : ℕ). get_or ws k 0) place_in;
  }
