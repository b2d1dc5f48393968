-- What C is answered, from what a call came to.
use Rattle.std.specs.Prelude.{ℕ, Bool, cond, unwrap_or, Option, Result, Ok, Err}
use Rattle.plain.specs.declared.refusals.Refusal.{Refusal}
use Rattle.plain.specs.declared.Answer.{Answer}
use Rattle.plain.specs.declared.EdgeRecord.{EdgeRecord}
use Rattle.plain.specs.declared.Record.{Record}
use Rattle.plain.specs.declared.Sums.{Sums}
use Rattle.plain.specs.declared.Total.{Total}
use Rattle.plain.specs.Numbers.{NONE, done}
use Rattle.plain.specs.Refusals.{number_of, value_of}

-- number and value, where what is answered has a value of its own
abbrev pub answer_by : {A : Type 0} → (A → ℕ) → Result A Refusal → Answer
answer_by value_is (Ok value) = record { number = done; value = value_is value }
answer_by value_is (Err refusal) = record { number = number_of refusal; value = value_of refusal }

-- of a number
abbrev pub answer_of : Result ℕ Refusal → Answer
answer_of came = answer_by (λ n. n) came

-- of what is found: NONE where nothing is
abbrev pub found_of : Result (Option ℕ) Refusal → Answer
found_of came = answer_by (λ found. unwrap_or found NONE) came

-- "1 or 0 for a yes or no"
abbrev pub yes_no_of : Result Bool Refusal → Answer
yes_no_of came = answer_by (λ b. cond b 1 0) came

-- "else 0"
abbrev pub done_of : Result Unit Refusal → Answer
done_of came = answer_by (λ _. 0) came

-- a record: "If refused, all three are 0."
abbrev pub edge_record_of : Result EdgeRecord Refusal → Record
edge_record_of (Ok edge) = record { number = done; value = 0; source = edge.source; target = edge.target; payload = edge.payload }
edge_record_of (Err refusal) = record { number = number_of refusal; value = value_of refusal; source = 0; target = 0; payload = record { low = 0; high = 0 } }

-- a total: "with both sums 0"
abbrev pub sums_total_of : Result Sums Refusal → Total
sums_total_of (Ok sums) = record { number = done; value = 0; low = sums.low; high = sums.high }
sums_total_of (Err refusal) = record { number = number_of refusal; value = value_of refusal; low = 0; high = 0 }
