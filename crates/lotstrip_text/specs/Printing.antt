-- What the program prints, and the room for any of it.
use Rattle.std.specs.Prelude.{ℕ, ◌+◌, ◌*◌, ◌/◌, ◌%◌, ◌≤◌, ◌≡◌, List, [], ◌∷◌, ◌++◌, length}
use Rattle.plain.specs.Lists.{written}
use Rattle.plain.specs.Lotstrip.{newline, answer_lines, hexadecimal, operation_bytes, input_limit, lotstrip}
use Rattle.lotstrip_text.specs.declared.text.Text.{Text}
use Rattle.lotstrip_text.specs.Lines.{line_room}
use Rattle.lotstrip_text.specs.Booking.{image_room}

-- What the program's function comes to: how long the text is, and the text.
pub record LotstripOf (input entry : List ℕ) (size : ℕ) (exit : List ℕ) : Type 0 where
  pub sized : size ≡ length (lotstrip input)
  pub within : size ≤ length exit
  pub shown : exit ≡ written (lotstrip input) entry

-- a line for each operation, and the image on one line
abbrev pub printed : List ℕ → List ℕ → List ℕ
printed answers bytes = answer_lines 0 answers ++ (hexadecimal bytes ++ (newline ∷ []))

-- Bytes that hold any text: a line for each operation, two digits for each byte of an image, and a newline.
abbrev pub text_room : ℕ
text_room = line_room * (input_limit / operation_bytes) + 2 * image_room + 1

-- A text with nothing in it, and room for any.
pub record Roomy (a : Text) : Type 0 where
  pub begun : a.end ≡ 0
  pub room : text_room ≤ length a.bytes.now

-- An input that is run: no longer than a strip may be, and whole operations.
pub record Runnable (input : List ℕ) (a : Text) : Type 0 where
  pub short : length input ≤ input_limit
  pub whole : length input % operation_bytes ≡ 0
  pub roomy : Roomy a
