-- What the reads of a slot answer by the words that they read.
use Rattle.std.specs.Prelude.{ℕ, List, get_or}
use Rattle.plain.specs.declared.Answer.{Answer}
use Rattle.plain.specs.declared.Record.{Record}
use Rattle.plain.specs.Numbers.{NONE, done}

-- a number with no value
abbrev pub refused : ℕ → Answer
refused number = record { number = number; value = NONE }

-- an edge's record by its words
abbrev pub record_words : List ℕ → List ℕ → List ℕ → List ℕ → ℕ → Record
record_words lows highs outgoing incoming e = record {
  number = done;
  value = 0;
  source = get_or outgoing e 0;
  target = get_or incoming e 0;
  payload = record { low = get_or lows e 0; high = get_or highs e 0 };
}
