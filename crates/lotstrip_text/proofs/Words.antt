-- The input's words one by one.
use Rattle.std.specs.Prelude.{ℕ, zero, suc, ◌+◌, ◌*◌, ◌/◌, ◌≤◌, ◌<◌, ◌≡◌, refl, List, [], ◌∷◌, ◌++◌, length, get_or, set, slice_index, drop}
use Rattle.std.specs.Simd.{first_chunks}
use Rattle.plain.specs.Library.{sym, ap, ◌∙◌, append_assoc, append-nil, length-append, length-drop, zero-add, arith}
use Rattle.bits.specs.Put.{Put}
use Rattle.bits.specs.Laws.Put.{put_none, put_one, put_then, put_length, put_written}
use lib.Seq.{get_or-drop, drop-drop}
use Rattle.plain.specs.Lotstrip.{words_of, word_bytes}
use Rattle.lotstrip_text.proofs.Pieces.{Next}
use Rattle.lotstrip_text.specs.Input.{word_at, WordsRead}

pub length_words : (bytes : List ℕ) → length (words_of bytes) ≡ length bytes / word_bytes
unfolding words_of
length_words [] = refl
length_words (a ∷ []) = refl
length_words (a ∷ b ∷ []) = refl
length_words (a ∷ b ∷ c ∷ []) = refl
length_words (a ∷ b ∷ c ∷ d ∷ rest) = let h = length_words rest in omega arith

words_first : (bytes : List ℕ) → word_bytes ≤ length bytes → words_of bytes ≡ word_at bytes 0 ∷ words_of (drop word_bytes bytes)
unfolding words_of
words_first [] h = absurd (omega arith)
words_first (a ∷ []) h = absurd (omega arith)
words_first (a ∷ b ∷ []) h = absurd (omega arith)
words_first (a ∷ b ∷ c ∷ []) h = absurd (omega arith)
words_first (a ∷ b ∷ c ∷ d ∷ rest) h = refl

-- word i, and the words after it
pub words_next : (bytes : List ℕ) (i : ℕ) → i < length bytes / word_bytes
    → Next (words_of (drop (word_bytes * i) bytes)) (word_at bytes (word_bytes * i) ∷ []) (words_of (drop (word_bytes * (i + 1)) bytes))
words_next bytes i h =
    let here : word_bytes * i + 0 ≡ word_bytes * i = omega arith in
    let next : word_bytes * i + word_bytes ≡ word_bytes * (i + 1) = omega arith in
    record { is = words_first (drop (word_bytes * i) bytes) (rw length-drop (omega arith)) ∙ simp (get_or-drop, drop-drop, here, next) }

-- past the last
pub words_none : (bytes : List ℕ) (i : ℕ) → length bytes / word_bytes ≤ i → words_of (drop (word_bytes * i) bytes) ≡ []
unfolding words_of
words_none bytes i h = short (drop (word_bytes * i) bytes) (rw length-drop (omega arith))
  where
    short : (l : List ℕ) → length l ≤ 3 → words_of l ≡ []
    short [] h = refl
    short (a ∷ []) h = refl
    short (a ∷ b ∷ []) h = refl
    short (a ∷ b ∷ c ∷ []) h = refl
    short (a ∷ b ∷ c ∷ d ∷ rest) h = absurd (omega arith)

-- ---- chunks of four bytes

later : (a b c d : ℕ) (rest : List ℕ) (n m : ℕ) → n ≡ m + 4 → get_or (a ∷ b ∷ c ∷ d ∷ rest) n 0 ≡ get_or rest m 0
later a b c d rest n m same =
    let four : n ≡ suc (suc (suc (suc m))) = omega (arith, same) in
    ap (λ (k : ℕ). get_or (a ∷ b ∷ c ∷ d ∷ rest) k 0) four

-- the word of four bytes, as the library makes it
abbrev pub word_made : List ℕ → ℕ
word_made four = slice_index four 0 * 16777216 + slice_index four 1 * 65536 + slice_index four 2 * 256 + slice_index four 3

-- word i is made of chunk i
pub chunk_made : (bytes : List ℕ) (count i : ℕ) → i < count → word_bytes * count ≤ length bytes
    → word_made (get_or (first_chunks word_bytes count bytes) i []) ≡ word_at bytes (word_bytes * i)
chunk_made bytes zero i l h = absurd (omega arith)
chunk_made [] (suc count) i l h = absurd (omega arith)
chunk_made (a ∷ []) (suc count) i l h = absurd (omega arith)
chunk_made (a ∷ b ∷ []) (suc count) i l h = absurd (omega arith)
chunk_made (a ∷ b ∷ c ∷ []) (suc count) i l h = absurd (omega arith)
chunk_made (a ∷ b ∷ c ∷ d ∷ rest) (suc count) zero l h = omega arith
chunk_made (a ∷ b ∷ c ∷ d ∷ rest) (suc count) (suc i) l h =
    chunk_made rest count i (omega arith) (omega arith)
    ∙ sym (rw (
      later a b c d rest (word_bytes * suc i) (word_bytes * i) (omega arith),
      later a b c d rest (word_bytes * suc i + 1) (word_bytes * i + 1) (omega arith),
      later a b c d rest (word_bytes * suc i + 2) (word_bytes * i + 2) (omega arith),
      later a b c d rest (word_bytes * suc i + 3) (word_bytes * i + 3) (omega arith),
    ))

-- ---- a loop that reads word by word

-- the first i words are at the start of the slice
pub record WordsTo (bytes s : List ℕ) (i : ℕ) (t : List ℕ) : Type 0 where
  pub past : List ℕ
  pub parts : past ++ words_of (drop (word_bytes * i) bytes) ≡ words_of bytes
  pub many : length past ≡ i
  pub put : Put s 0 past t

pub words_start : (bytes s : List ℕ) → WordsTo bytes s 0 s
words_start bytes s = record { past = []; parts = refl; many = refl; put = put_none s 0 (omega arith) }

module _ {bytes s t : List ℕ} {i : ℕ} (k : WordsTo bytes s i t) where
  module _ (l : i < length bytes / word_bytes) (room : length bytes / word_bytes ≤ length s) where
    pub word_room : i < length t
    word_room = omega (arith, put_length k.put)

    pub words_more : WordsTo bytes s (i + 1) (set t i (word_at bytes (word_bytes * i)))
    words_more =
        let next = words_next bytes i l in
        let rest = words_of (drop (word_bytes * (i + 1)) bytes) in
        record {
          past = k.past ++ (word_at bytes (word_bytes * i) ∷ []);
          parts = append_assoc k.past (word_at bytes (word_bytes * i) ∷ []) rest ∙ ap (λ (z : List ℕ). k.past ++ z) (sym next.is) ∙ k.parts;
          many = rw length-append (omega (arith, k.many));
          put = put_then k.put (put_one t i (word_at bytes (word_bytes * i)) word_room) (sym k.many ∙ sym (zero-add (length k.past)));
        }

  pub words_all : length bytes / word_bytes ≤ i → WordsRead bytes s t
  words_all h =
      let all : k.past ≡ words_of bytes = sym (append-nil k.past) ∙ ap (λ (z : List ℕ). k.past ++ z) (sym (words_none bytes i h)) ∙ k.parts in
      record { words = put_written (rw all at k.put) }
