-- The printed text piece by piece: the line of an operation, the two digits of a byte, and how long they are.
use Rattle.std.specs.Prelude.{ℕ, zero, suc, ◌+◌, ◌*◌, ◌/◌, ◌%◌, ◌≤◌, ◌<◌, ◌≡◌, refl, List, [], ◌∷◌, ◌++◌, length, get_or, drop}
use Rattle.std.specs.Simd.{first_chunks}
use Rattle.plain.specs.Library.{sym, ap, ap₂, ◌∙◌, append_assoc, length-append, length-drop, add-one, arith}
use lib.ListN.{drop_of_length-le}
use lib.Seq.{drop-cons}
use Rattle.plain.specs.Lotstrip.{decimal, answer_lines, hex_digit, hexadecimal}
use Rattle.lotstrip_text.proofs.Pieces.{Next}
use Rattle.lotstrip_text.proofs.Digits.{decimal_most}
use Rattle.lotstrip_text.specs.Lines.{numbered, line, line_room}

-- ---- the lines of a strip's answers

lines_first : (i number value : ℕ) (rest : List ℕ) → answer_lines i (number ∷ value ∷ rest) ≡ line i number value ++ answer_lines (suc i) rest
unfolding line answer_lines
lines_first i number value rest = simp append_assoc

-- the line of operation i, and the lines after it
pub lines_next : (answers : List ℕ) (i : ℕ) → 2 * i + 2 ≤ length answers
    → Next (answer_lines i (drop (2 * i) answers)) (line i (get_or answers (2 * i) 0) (get_or answers (2 * i + 1) 0)) (answer_lines (i + 1) (drop (2 * (i + 1)) answers))
lines_next answers i h =
    let odd : suc (2 * i) ≡ 2 * i + 1 = omega arith in
    let even : suc (2 * i + 1) ≡ 2 * (i + 1) = omega arith in
    let first = drop-cons answers (2 * i) 0 (omega arith) in
    let second = drop-cons answers (2 * i + 1) 0 (omega arith) ∙ ap (λ (k : ℕ). get_or answers (2 * i + 1) 0 ∷ drop k answers) even in
    record {
      is = ap (answer_lines i) (first ∙ ap (λ (l : List ℕ). get_or answers (2 * i) 0 ∷ l) (ap (λ (k : ℕ). drop k answers) odd ∙ second))
          ∙ lines_first i (get_or answers (2 * i) 0) (get_or answers (2 * i + 1) 0) (drop (2 * (i + 1)) answers)
          ∙ ap (λ (k : ℕ). line i (get_or answers (2 * i) 0) (get_or answers (2 * i + 1) 0) ++ answer_lines k (drop (2 * (i + 1)) answers)) (sym (add-one i));
    }

-- answer i is pair i
pub pair_is : (answers : List ℕ) (count i : ℕ) → i < count → 2 * count ≤ length answers → get_or (first_chunks 2 count answers) i []
    ≡ get_or answers (2 * i) 0 ∷ get_or answers (2 * i + 1) 0 ∷ []
pair_is answers zero i l h = absurd (omega arith)
pair_is [] (suc count) i l h = absurd (omega arith)
pair_is (a ∷ []) (suc count) i l h = absurd (omega arith)
pair_is (a ∷ b ∷ rest) (suc count) zero l h = refl
pair_is (a ∷ b ∷ rest) (suc count) (suc i) l h =
    let first : 2 * suc i ≡ suc (suc (2 * i)) = omega arith in
    let second : 2 * suc i + 1 ≡ suc (suc (2 * i + 1)) = omega arith in
    pair_is rest count i (omega arith) (omega arith)
    ∙ sym (ap₂ {C = List ℕ} (λ (n m : ℕ). get_or (a ∷ b ∷ rest) n 0 ∷ get_or (a ∷ b ∷ rest) m 0 ∷ []) first second)

-- past the last
pub lines_none : (answers : List ℕ) (i : ℕ) → length answers / 2 ≤ i → answer_lines i (drop (2 * i) answers) ≡ []
unfolding answer_lines
lines_none answers i h = short (drop (2 * i) answers) (rw length-drop (omega arith))
  where
    short : (l : List ℕ) → length l ≤ 1 → answer_lines i l ≡ []
    short [] h = refl
    short (a ∷ []) h = refl
    short (a ∷ b ∷ rest) h = absurd (omega arith)

-- ---- bytes

-- byte i, and the bytes after it
pub bytes_next : (bytes : List ℕ) (i : ℕ) → i < length bytes → Next (drop i bytes) (get_or bytes i 0 ∷ []) (drop (i + 1) bytes)
bytes_next bytes i h = record { is = rw (drop-cons bytes i 0 h, add-one) }

-- ---- bytes in hexadecimal

-- the digits of byte i, and those of the bytes after it
pub hex_next : (bytes : List ℕ) (i : ℕ) → i < length bytes
    → Next (hexadecimal (drop i bytes)) (hex_digit (get_or bytes i 0 / 16) ∷ hex_digit (get_or bytes i 0 % 16) ∷ []) (hexadecimal (drop (i + 1) bytes))
unfolding hexadecimal
hex_next bytes i h = record { is = rw (drop-cons bytes i 0 h, add-one) }

pub hex_none : (bytes : List ℕ) (i : ℕ) → length bytes ≤ i → hexadecimal (drop i bytes) ≡ []
unfolding hexadecimal
hex_none bytes i h = rw (drop_of_length-le bytes h)

-- ---- how long the text is

pub length_hex : (bytes : List ℕ) → length (hexadecimal bytes) ≡ 2 * length bytes
unfolding hexadecimal
length_hex [] = refl
length_hex (b ∷ bytes) = let h = length_hex bytes in omega arith

pub length_numbered : (n after : ℕ) → length (numbered n after) ≡ length (decimal n) + 1
length_numbered n after = length-append (decimal n) (after ∷ [])

pub length_line : (i number value : ℕ) → length (line i number value) ≡ length (decimal i) + length (decimal number) + length (decimal value) + 3
unfolding line
length_line i number value = simp length-append (omega arith)

line_most : (i number value : ℕ) → length (line i number value) ≤ line_room
line_most i number value = omega (arith, length_line i number value, decimal_most i, decimal_most number, decimal_most value)

pub lines_most : (i : ℕ) (answers : List ℕ) → length (answer_lines i answers) ≤ line_room * (length answers / 2)
unfolding answer_lines
lines_most i [] = omega arith
lines_most i (a ∷ []) = omega arith
lines_most i (a ∷ b ∷ rest) =
    rw (lines_first i a b rest, length-append (line i a b) (answer_lines (suc i) rest)) (omega (arith, line_most i a b, lines_most (suc i) rest))
