-- What the program prints: the pieces are those of its definition, and the text lent has room for any of it.
use Rattle.std.specs.Prelude.{ℕ, ◌+◌, ◌*◌, ◌/◌, ◌%◌, ◌≤◌, ◌<◌, ◌≡◌, List, length, take, drop}
use Rattle.plain.specs.Library.{sym, ap, subst, ◌∙◌, length-append, take_at, arith, lt-ltb, le-ltb, eq-eqb, ne_eqb}
use Rattle.plain.specs.Lists.{written}
use Rattle.plain.specs.Operations.{operation_words, operations}
use Rattle.plain.specs.Calls.{fresh_state}
use Rattle.plain.specs.Lotstrip.{lotstrip_capacities, words_of, codes, answer_lines, hexadecimal, word_bytes, operation_bytes, input_limit, lotstrip_run, lotstrip}
use Rattle.plain.proofs.Laws.Strips.{length_operations, length_answers}
use Rattle.bits.specs.Laws.Put.{put_written}
use Rattle.lotstrip_text.specs.declared.text.Text.{Text}
use Rattle.lotstrip_text.specs.Appending.{Appended}
use Rattle.lotstrip_text.proofs.Lines.{lines_most, length_hex}
use Rattle.lotstrip_text.specs.Input.{WordsRead}
use Rattle.lotstrip_text.proofs.Words.{length_words}
use Rattle.lotstrip_text.specs.Booking.{booking_answers, closing, Closing}
use Rattle.lotstrip_text.specs.Printing.{LotstripOf, Roomy, printed}
use Rattle.lotstrip_text.proofs.Pieces.{append_length}

pub length_printed : (answers bytes : List ℕ) → length (printed answers bytes) ≡ length (answer_lines 0 answers) + length (hexadecimal bytes) + 1
length_printed answers bytes = simp length-append (omega arith)

-- ---- the ways that it ends

pub told_as : {a b : Text} {text all : List ℕ} → text ≡ all → Appended a text b → Appended a all b
told_as {a} {b} is h = subst (λ (l : List ℕ). Appended a l b) is h

pub told : {input : List ℕ} {a b : Text} → a.end ≡ 0 → Appended a (lotstrip input) b → LotstripOf input a.bytes.now b.end b.bytes.now
told {input} {a} {b} empty h =
    let size : b.end ≡ length (lotstrip input) = omega (arith, h.ended, empty) in
    record {
      sized = size;
      within = omega (arith, h.put.within, append_length h, empty, size);
      shown = put_written (rw empty at h.put);
    }

module _ (input : List ℕ) where
  -- "more prints only `strip 2`"
  pub too_long : input_limit < length input → codes "strip 2\n" ≡ lotstrip input
  unfolding lotstrip
  too_long h = sym (rw (lt-ltb input_limit (length input) h))

  module _ (h : length input ≤ input_limit) where
    -- "up to there a length not a multiple of 16 prints only `strip 3`", where "`lotstrip` takes 20 bytes" now
    pub ragged : (length input % operation_bytes ≡ 0 → ⊥) → codes "strip 3\n" ≡ lotstrip input
    unfolding lotstrip
    ragged k = sym (rw (le-ltb input_limit (length input) h, ne_eqb (length input % operation_bytes) 0 k))

    pub runs : length input % operation_bytes ≡ 0 → lotstrip_run fresh_state (words_of input) ≡ lotstrip input
    unfolding lotstrip
    runs k = sym (rw (le-ltb input_limit (length input) h, eq-eqb (length input % operation_bytes) 0 k))

-- ---- a run

-- what is written to the start of a slice is the slice's first part
front : (xs entry : List ℕ) {slice : List ℕ} (n : ℕ) → slice ≡ written xs entry → length xs ≡ n → take n slice ≡ xs
front xs entry n is long = rw is (take_at xs (drop (length xs) entry) n long)

module _ {input zeros words : List ℕ} (read : WordsRead input zeros words) (whole : length input % operation_bytes ≡ 0) where
  -- the strip is the part of the words that was read
  strip_read : take (length input / word_bytes) words ≡ words_of input
  strip_read = front (words_of input) zeros (length input / word_bytes) read.words (length_words input)

  pub strip_length : length (take (length input / word_bytes) words) ≡ length input / word_bytes
  strip_length = ap length strip_read ∙ length_words input

  pub strip_whole : length (take (length input / word_bytes) words) % operation_words ≡ 0
  strip_whole = omega (arith, strip_length)

  -- two words of answer an operation
  answers_length : length (booking_answers (words_of input)) ≡ 2 * (length input / word_bytes / operation_words)
  answers_length =
      omega (
        arith,
        length_answers lotstrip_capacities fresh_state (operations (words_of input)),
        length_operations (words_of input),
        length_words input,
      )

  module _ {answers bytes answers' bytes' : List ℕ} {size : ℕ} (closed : Closing (take (length input / word_bytes) words) answers bytes answers' size bytes') where
    comes : Closing (words_of input) answers bytes answers' size bytes'
    comes = subst (λ (l : List ℕ). Closing l answers bytes answers' size bytes') strip_read closed

    -- the parts that are printed are what the strip comes to
    answers_are : take (2 * (length input / word_bytes / operation_words)) answers' ≡ booking_answers (words_of input)
    answers_are = front (booking_answers (words_of input)) answers (2 * (length input / word_bytes / operation_words)) comes.answered answers_length

    image_is : take size bytes' ≡ closing (words_of input)
    image_is = front (closing (words_of input)) bytes size comes.printed (sym comes.sized)

    pub answers_part : length (take (2 * (length input / word_bytes / operation_words)) answers') ≡ 2 * (length input / word_bytes / operation_words)
    answers_part = ap length answers_are ∙ answers_length

    pub image_part : length (take size bytes') ≡ size
    image_part = ap length image_is ∙ sym comes.sized

    pub print_room : {a : Text} → length input ≤ input_limit → Roomy a
        → a.end + length (printed (take (2 * (length input / word_bytes / operation_words)) answers') (take size bytes')) ≤ length a.bytes.now
    print_room h k =
        let booked = booking_answers (words_of input) in
        let left = closing (words_of input) in
        rw (answers_are, image_is)
        (omega (arith, k.begun, k.room, length_printed booked left, lines_most 0 booked, answers_length, length_hex left, comes.short))

    pub run_printed : {a b : Text} → Appended a (printed (take (2 * (length input / word_bytes / operation_words)) answers') (take size bytes')) b
        → Appended a (lotstrip_run fresh_state (words_of input)) b
    unfolding lotstrip_run
    run_printed h = rw (answers_are, image_is) at h
