-- The program lotstrip: from the bytes of its standard input to the whole text that it prints. Document 01, "Proof by example", M12.
use Rattle.std.specs.Prelude.{ℕ, zero, suc, ◌+◌, ◌*◌, ◌/◌, ◌%◌, cond, not, List, [], ◌∷◌, ◌++◌, length, eqb, ltb}
use Prim.Native.Char.{code}
use Prim.Native.String.{String}
use Rattle.plain.specs.Operations.{operations, operation_words}
use Rattle.plain.specs.Step.{Capacities, State, run, answers}
use Rattle.plain.specs.Compaction.{survivors}
use Rattle.plain.specs.Image.{image}
use Rattle.plain.specs.Calls.{fresh_state}

-- "(512 nodes, 1,024 edges)"
abbrev pub lotstrip_capacities : Capacities
lotstrip_capacities = record { nodes = 512; edges = 1024 }

-- "words most significant byte first"; bytes short of a whole word are left out
unfoldable pub words_of : List ℕ → List ℕ
words_of [] = []
words_of (a ∷ []) = []
words_of (a ∷ b ∷ []) = []
words_of (a ∷ b ∷ c ∷ []) = []
words_of (a ∷ b ∷ c ∷ d ∷ rest) = (((a * 256 + b) * 256 + c) * 256 + d) ∷ words_of rest

-- ---- text, as the codes of its characters

unfoldable pub codes : String → List ℕ
codes String.[] = []
codes (String.◌∷◌ c text) = code c ∷ codes text

abbrev pub space : ℕ
space = 32

abbrev pub newline : ℕ
newline = 10

-- the decimal digits of n before the text `rest`; t digits at the most
unfoldable pub digits_before : ℕ → ℕ → List ℕ → List ℕ
digits_before zero n rest = rest
digits_before (suc t) n rest = cond (ltb n 10) ((48 + n) ∷ rest) (digits_before t (n / 10) ((48 + n % 10) ∷ rest))

-- "in decimal": twenty digits hold any word of 64 bits
abbrev pub decimal : ℕ → List ℕ
decimal n = digits_before 20 n []

-- the lower-case hexadecimal digit of n below 16
abbrev pub hex_digit : ℕ → ℕ
hex_digit n = cond (ltb n 10) (48 + n) (87 + n)

-- "in lower-case hexadecimal"
unfoldable pub hexadecimal : List ℕ → List ℕ
hexadecimal [] = []
hexadecimal (b ∷ bytes) = hex_digit (b / 16) ∷ hex_digit (b % 16) ∷ hexadecimal bytes

-- "a line per operation with position from 0, number and value in decimal"
unfoldable pub answer_lines : ℕ → List ℕ → List ℕ
answer_lines i [] = []
answer_lines i (number ∷ []) = []
answer_lines i (number ∷ value ∷ rest) =
    decimal i ++ (space ∷ (decimal number ++ (space ∷ (decimal value ++ (newline ∷ answer_lines (suc i) rest)))))

-- ---- the program

-- the bytes of a word, and of one operation: "`lotstrip` takes 20 bytes"
abbrev pub word_bytes : ℕ
word_bytes = 4

abbrev pub operation_bytes : ℕ
operation_bytes = word_bytes * operation_words

-- "at most 65,536 bytes"
abbrev pub input_limit : ℕ
input_limit = 65_536

-- "It prints a line per operation .., compacts, and prints the image on one line."
unfoldable pub lotstrip_run : State → List ℕ → List ℕ
lotstrip_run s words =
    let ops = operations words in
    answer_lines 0 (answers lotstrip_capacities s ops)
    ++ (hexadecimal (image (survivors (run lotstrip_capacities s ops).lists)) ++ (newline ∷ []))

-- "at most 65,536 bytes (more prints only `strip 2`; up to there a length not a multiple of 16 prints only `strip 3`)"; since an
-- operation has 20 bytes, a multiple of 20 now
unfoldable pub lotstrip : List ℕ → List ℕ
lotstrip input =
    cond (ltb input_limit (length input)) (codes "strip 2\n")
    (cond (not (eqb (length input % operation_bytes) 0)) (codes "strip 3\n") (lotstrip_run fresh_state (words_of input)))
