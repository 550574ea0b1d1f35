-- The doubles of a record, and the line that answers it. Definitions only.
use Rattle.std.specs.Prelude.{ℕ, ◌+◌, ◌/◌, ◌≡◌, List, ◌∷◌, ◌++◌, length, Result, Ok, Err, Float}
use Rattle.encoding.specs.Encoding.{doubles_at}
use Rattle.profile_lines.specs.Text.{ascii}
use Rattle.profile_lines.specs.Fields.{field, hex, double_width}
use Rattle.decimals.specs.Decimal.{decimal, number_width}
use Rattle.arrival.specs.Arrivals.{IsArrival}
use Rattle.arrival.specs.declared.answer.Arrival.{Arrival}
use Rattle.refusals.specs.Numbers.{refusal_number}
use Rattle.refusals.specs.declared.Refusal.{Refusal}

-- how many doubles so many bytes hold
abbrev pub count_of : List ℕ → ℕ
count_of b = length b / 8

abbrev pub doubles_of : List ℕ → List Float
doubles_of b = doubles_at b 0 (count_of b)

-- a record: how many durations and how many ends, a byte each, then the bytes of these
abbrev pub record_of : (durations ends : ℕ) → List ℕ → List ℕ
record_of durations ends bytes = durations ∷ ends ∷ bytes

-- a time with its axis, or the number of the refusal
abbrev pub text_of : Result Arrival Refusal → List ℕ
text_of (Ok x) = ascii "ok" ++ field (hex x.time) ++ field (decimal x.axis)
text_of (Err refusal) = ascii "refused" ++ field (decimal (refusal_number refusal))

abbrev pub text_width : ℕ
text_width = 2 + double_width + number_width

-- the text is the arrival of the durations and the ends, of which there is one, and a line feed
pub record Answers (durations ends text : List ℕ) : Type 0 where
  pub answer : Result Arrival Refusal
  pub is_arrival : IsArrival (doubles_of durations) (doubles_of ends) answer
  pub line : text ≡ text_of answer ++ ascii "\n"
