-- The line that answers a record: what selection answers, and what `is_blocked` says of four times. Definitions only.
use Rattle.std.specs.Prelude.{ℕ, ◌+◌, ◌*◌, Bool, true, false, List, ◌++◌, Float, Result, Ok, Err}
use Rattle.std.specs.List.{flat_map}
use Rattle.profile_lines.specs.Text.{ascii}
use Rattle.profile_lines.specs.Fields.{field, hex, double_fields}
use Rattle.decimals.specs.Decimal.{decimal}
use Rattle.stretch_lines.specs.Kinds.{kind_of}
use Rattle.refusals.specs.declared.Refusal.{Refusal}
use Rattle.refusals.specs.Numbers.{refusal_number}
use Rattle.block.specs.Blocks.{both_ends, blocking_of, Answer, plan_in}
use Rattle.block.specs.declared.Interval.{Interval}
use Rattle.block.specs.declared.Block.{Block}
use Rattle.block_test.specs.Records.{selected_of, given_of, times_of}

-- ---- the answer of a selection

-- kind, left end, right end, and the mark of the profile beside it
unfoldable pub interval_fields : Interval → List ℕ
interval_fields i = field (kind_of i.stretch) ++ double_fields (both_ends i.stretch) ++ field (hex i.profile.pf)

-- the plan's duration, the mark of its profile, and the two stretches
unfoldable pub block_text : Block → List ℕ
block_text x =
    ascii "ok"
    ++ field (hex x.t_min)
    ++ field (hex x.p_min.pf)
    ++ interval_fields x.a
    ++ interval_fields x.b

unfoldable pub answer_text : Answer → List ℕ
answer_text (Ok b) = block_text b
answer_text (Err refusal) = ascii "refused" ++ field (decimal (refusal_number refusal))

-- ---- the answers of `is_blocked`, whose only refusal is 6
abbrev pub blocking_name : Result Bool Refusal → List ℕ
blocking_name (Ok true) = ascii "blocked"
blocking_name (Ok false) = ascii "free"
blocking_name (Err refusal) = ascii "refused 6"

-- for each of some times
abbrev pub blocking_fields : Block → List Float → List ℕ
blocking_fields x times = flat_map (λ (t : Float). field (blocking_name (blocking_of x t))) times

-- a refusal leaves the empty plan
unfoldable pub line_of : List ℕ → List ℕ
line_of b =
    answer_text (selected_of b)
    ++ blocking_fields (plan_in (selected_of b)) (times_of b)
    ++ blocking_fields (given_of b) (times_of b)
    ++ ascii "\n"

-- ---- how many bytes a stretch, an answer, what is said of a time, and a line may take
abbrev pub interval_width : ℕ
interval_width = 59

abbrev pub answer_width : ℕ
answer_width = 154

abbrev pub blocking_width : ℕ
blocking_width = 10

abbrev pub line_length : ℕ
line_length = answer_width + 2 * 4 * blocking_width + 1
