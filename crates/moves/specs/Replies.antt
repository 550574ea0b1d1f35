-- Which bytes answer the bytes of a record, and whether the program goes on. Definitions only.
use Rattle.std.specs.Prelude.{ℕ, Bool, true, false, List, [], Option, None, Some, Result, Ok, Err}
use Rattle.refusals.specs.declared.Refusal.{Refusal}
use Rattle.planner.specs.declared.Move.{Move}
use Rattle.block.specs.Blocks.{Answer}
use Rattle.moves.specs.Records.{answer_to}

-- the line of an answer, by one of the two forms of a line; no byte where there is none
abbrev pub line_if : (ℕ → Answer → List ℕ) → ℕ → Option Answer → List ℕ
line_if line n None = []
line_if line n (Some r) = line n r

-- what answers record number n
abbrev pub reply_of : (ℕ → Answer → List ℕ) → ℕ → Option (Result Move Refusal) → List ℕ
reply_of line n r = line_if line n (answer_to r)

-- only behind a whole record is there another
abbrev pub goes_on_after : Option (Result Move Refusal) → Bool
goes_on_after None = false
goes_on_after (Some (Err refusal)) = false
goes_on_after (Some (Ok x)) = true
