-- The lines of text for an answer: fields one space apart, a line feed at the end. Definitions only.
use Rattle.std.specs.Prelude.{ℕ, ◌+◌, List, ◌++◌, Ok, Err}
use Rattle.profile_lines.specs.Text.{ascii}
use Rattle.profile_lines.specs.Fields.{direction_name, limits_name, field, hex, double_fields, profile_fields}
use Rattle.profile_lines.specs.Fields.{double_width, direction_width, limits_width, profile_width}
use Rattle.refusals.specs.Numbers.{refusal_number}
use Rattle.block.specs.Blocks.{count_of, both_ends, ends_of, Answer}
use Rattle.block.specs.declared.Stretch.{Stretch}
use Rattle.block.specs.declared.Interval.{Interval}
use Rattle.block.specs.declared.Block.{Block}
use Rattle.decimals.specs.Decimal.{decimal, decimal_width, number_width}
use Rattle.stretch_lines.specs.Kinds.{kind_of, kind_width, both_ends_width}

-- ---- a line of `plan_moves`

-- the count of stretches and their ends
unfoldable pub stretch_fields : Stretch → Stretch → List ℕ
stretch_fields a b = field (decimal (count_of a + count_of b)) ++ double_fields (ends_of a) ++ double_fields (ends_of b)

-- ok, the plan's duration, direction, limits, and the stretches
unfoldable pub plan_fields : Block → List ℕ
plan_fields x =
    field (ascii "ok")
    ++ field (hex x.t_min)
    ++ field (direction_name x.p_min.direction)
    ++ field (limits_name x.p_min.limits)
    ++ stretch_fields x.a.stretch x.b.stretch

unfoldable pub refusal_fields : ℕ → List ℕ
refusal_fields k = field (ascii "refused") ++ field (decimal k)

-- ---- a line of `plan_full`: ok, the plan's duration, PROFILE, and for each of the two stretches its kind, left end,
-- right end, PROFILE
unfoldable pub interval_fields : Interval → List ℕ
interval_fields i = field (kind_of i.stretch) ++ double_fields (both_ends i.stretch) ++ profile_fields i.profile

unfoldable pub full_fields : Block → List ℕ
full_fields x =
    field (ascii "ok")
    ++ field (hex x.t_min)
    ++ profile_fields x.p_min
    ++ interval_fields x.a
    ++ interval_fields x.b

-- ---- the line of record number n, in the form that the fields of a plan have
unfoldable pub answer_with : (Block → List ℕ) → Answer → List ℕ
answer_with plan (Ok b) = plan b
answer_with plan (Err refusal) = refusal_fields (refusal_number refusal)

unfoldable pub line_with : (Block → List ℕ) → ℕ → Answer → List ℕ
line_with plan n x = decimal n ++ answer_with plan x ++ ascii "\n"

abbrev pub line_of : ℕ → Answer → List ℕ
line_of = line_with plan_fields

abbrev pub full_line_of : ℕ → Answer → List ℕ
full_line_of = line_with full_fields

-- the line for a refusal by its number, in either form; it may be one that no refusal has
abbrev pub refused_line : (n number : ℕ) → List ℕ
refused_line n number = decimal n ++ refusal_fields number ++ ascii "\n"

-- ---- how many bytes each may take, with the space in front; a whole line with its line feed
abbrev pub ok_width : ℕ
ok_width = 3

abbrev pub count_width : ℕ
count_width = 2

abbrev pub stretches_width : ℕ
stretches_width = count_width + both_ends_width + both_ends_width

abbrev pub plan_width : ℕ
plan_width = ok_width + double_width + direction_width + limits_width + stretches_width

abbrev pub refused_width : ℕ
refused_width = 8

abbrev pub refusal_width : ℕ
refusal_width = refused_width + number_width

abbrev pub interval_width : ℕ
interval_width = kind_width + both_ends_width + profile_width

abbrev pub full_width : ℕ
full_width = ok_width + double_width + profile_width + interval_width + interval_width

-- what a line has beside an answer: its number and a line feed
abbrev pub frame_width : ℕ
frame_width = decimal_width + 1

abbrev pub line_length : ℕ
line_length = decimal_width + plan_width + 1

abbrev pub full_line_length : ℕ
full_line_length = decimal_width + full_width + 1
