-- The line that answers a record: the status of planning, what the buffer holds then, and the status of asking it about
-- a time. Definitions only.
use Rattle.std.specs.Prelude.{ℕ, ◌+◌, ◌*◌, Bool, true, cond, ◌&&◌, List, [], ◌∷◌, ◌++◌, eqb, Float}
use Rattle.doubles.specs.Operators.{◌==ᶠ◌}
use Rattle.profile_lines.specs.Text.{ascii}
use Rattle.profile_lines.specs.Fields.{field, double_fields, double_width}
use Rattle.decimals.specs.Decimal.{decimal, decimal_width, number_width}
use Rattle.plan_buffer.specs.Buffers.{plan_status, plan_written, blocked_status}
use Rattle.buffer_test.specs.Records.{buffer_most, minus1ᶠ, move_of, buffer_of, time_of}

-- every number is still -1
unfoldable pub is_unchanged : List Float → Bool
is_unchanged [] = true
is_unchanged (x ∷ xs) = (x ==ᶠ minus1ᶠ) && is_unchanged xs

-- a plan is shown with all that the buffer holds; of a refusal, whether it wrote anything
unfoldable pub buffer_fields : ℕ → List Float → List ℕ
buffer_fields status buffer =
    cond (eqb status 0) (double_fields buffer) (cond (is_unchanged buffer) (ascii " unchanged") (ascii " changed"))

unfoldable pub answer_of : (mv buffer : List Float) → Float → List ℕ
answer_of mv buffer t =
    let after = plan_written mv buffer in
    let status = plan_status mv buffer in
    decimal status ++ buffer_fields status after ++ field (decimal (blocked_status after t)) ++ ascii "\n"

abbrev pub line_of : List ℕ → List ℕ
line_of b = answer_of (move_of b) (buffer_of b) (time_of b)

-- ---- how many bytes a buffer's fields and a line may take
abbrev pub buffer_width : ℕ
buffer_width = double_width * buffer_most

abbrev pub line_length : ℕ
line_length = decimal_width + buffer_width + number_width + 1
