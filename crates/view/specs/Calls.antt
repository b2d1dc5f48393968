-- What the public reads promise: behind the check, "words are no store | 1 | rule 1 to 7 | everything", each is its definition of crate plain, on the store's
-- plain lists.
use Rattle.std.specs.Prelude.{ℕ, ◌≡◌, List, length}
use Rattle.plain.specs.declared.Answer.{Answer}
use Rattle.plain.specs.declared.Record.{Record}
use Rattle.plain.specs.declared.Total.{Total}
use Rattle.plain.specs.Lists.{written}
use Rattle.plain.specs.Reads.{Reply, listing}
use Rattle.plain.specs.Calls.{judged, judged_reply, judged_record, judged_total}
use Rattle.shape.specs.Shape.{Words}
use Rattle.shape.specs.Rules.{broken}

-- A read that answers number and value.
pub record Answered (w : Words) (read : Words → Answer) (answer : Answer) : Type 0 where
  pub answers : answer ≡ judged (broken w) (read w)

-- A read that answers a record.
pub record Recorded (w : Words) (read : Words → Record) (answer : Record) : Type 0 where
  pub answers : answer ≡ judged_record (broken w) (read w)

-- A read that answers a total.
pub record Totalled (w : Words) (read : Words → Total) (answer : Total) : Type 0 where
  pub answers : answer ≡ judged_total (broken w) (read w)

-- A read that writes into one lent slice: what the slice holds as the call begins and as it ends. A refusal writes nothing, and words past the answer's end
-- keep their content.
pub record Replied (w : Words) (read : Words → ℕ → Reply) (entry : List ℕ) (answer : Answer) (exit : List ℕ) : Type 0 where
  pub number : answer.number ≡ (judged_reply (broken w) (read w (length entry))).number
  pub value : answer.value ≡ (judged_reply (broken w) (read w (length entry))).value
  pub writes : exit ≡ written (judged_reply (broken w) (read w (length entry))).words entry

-- A list that was written to the start of a lent slice, or had no room there.
pub record Listed (list entry : List ℕ) (answer : Answer) (exit : List ℕ) : Type 0 where
  pub number : answer.number ≡ (listing (length entry) list).number
  pub value : answer.value ≡ (listing (length entry) list).value
  pub writes : exit ≡ written (listing (length entry) list).words entry
