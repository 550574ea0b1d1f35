-- A plan as doubles: the lengths and places of its parts follow from the profile's layout. Definitions only.
use Rattle.std.specs.Prelude.{ℕ, ◌+◌, List, [], ◌∷◌, ◌++◌, pos, Float}
use Rattle.std.specs.Float.{binary64}
use Rattle.std.specs.Float.Ieee.{of_int}
use Rattle.profile.specs.Layout.{profile_names_length, profile_doubles, profile_doubles_length}
use Rattle.profile.specs.Names.{direction_number, limits_number, control_signs_number}
use Rattle.profile.specs.declared.Profile.{Profile}
use Rattle.block.specs.Blocks.{kind_number, left_end, right_end}
use Rattle.block.specs.declared.Stretch.{Stretch}
use Rattle.block.specs.declared.Interval.{Interval}
use Rattle.block.specs.declared.Block.{Block}

-- the number of a name, or of a kind of stretch, as a double
abbrev pub numeral : ℕ → Float
numeral n = of_int binary64 (pos n)

-- ---- a profile: its names, then its doubles; 53 in all
-- direction, limits, control signs
abbrev pub names : Profile → List Float
names q =
    numeral (direction_number q.direction)
    ∷ numeral (limits_number q.limits)
    ∷ numeral (control_signs_number q.control_signs)
    ∷ []

unfoldable pub profile_numbers : Profile → List Float
profile_numbers q = names q ++ profile_doubles q

abbrev pub profile_length : ℕ
profile_length = profile_names_length + profile_doubles_length

-- ---- a stretch: its kind and two ends, then the profile beside it; 56 in all
abbrev pub ends : Stretch → List Float
ends s = numeral (kind_number s) ∷ left_end s ∷ right_end s ∷ []

abbrev pub ends_length : ℕ
ends_length = 3

unfoldable pub interval_numbers : Interval → List Float
interval_numbers i = ends i.stretch ++ profile_numbers i.profile

abbrev pub interval_length : ℕ
interval_length = ends_length + profile_length

-- ---- a plan: its duration, its profile, and two stretches; 166 in all
unfoldable pub plan_numbers : Block → List Float
plan_numbers b = (b.t_min ∷ []) ++ profile_numbers b.p_min ++ interval_numbers b.a ++ interval_numbers b.b

-- where the parts stand: 0, 1, 54 and 110
abbrev pub duration_at : ℕ
duration_at = 0

abbrev pub profile_at : ℕ
profile_at = duration_at + 1

abbrev pub stretch_a_at : ℕ
stretch_a_at = profile_at + profile_length

abbrev pub stretch_b_at : ℕ
stretch_b_at = stretch_a_at + interval_length

abbrev pub plan_length : ℕ
plan_length = stretch_b_at + interval_length
