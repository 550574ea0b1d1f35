-- A profile as the fields of a line. Definitions only.
use Rattle.std.specs.Prelude.{ℕ, ◌+◌, ◌*◌, List, [], ◌∷◌, ◌++◌, Float}
use Rattle.std.specs.Float.{binary64}
use Rattle.std.specs.Float.Ieee.{to_bits}
use Rattle.encoding.specs.Encoding.{hex_digits}
use Rattle.profile.specs.Layout.{profile_doubles, profile_doubles_length}
use Rattle.profile.specs.declared.Profile.{Profile}
use Rattle.profile.specs.declared.Direction.{Direction}
use Rattle.profile.specs.declared.Direction.TheVariants.{UP, DOWN}
use Rattle.profile.specs.declared.ReachedLimits.{ReachedLimits}
use Rattle.profile.specs.declared.ReachedLimits.TheVariants.{Acc0Acc1Vel, Vel, Acc0, Acc1, Acc0Acc1, Acc0Vel, Acc1Vel}
use Rattle.profile.specs.declared.ReachedLimits.TheVariants.{None}
use Rattle.profile.specs.declared.ControlSigns.{ControlSigns}
use Rattle.profile.specs.declared.ControlSigns.TheVariants.{UDDU, UDUD}
use Rattle.profile_lines.specs.Text.{ascii}

abbrev pub direction_name : Direction → List ℕ
direction_name UP = ascii "UP"
direction_name DOWN = ascii "DOWN"

abbrev pub limits_name : ReachedLimits → List ℕ
limits_name Acc0Acc1Vel = ascii "Acc0Acc1Vel"
limits_name Vel = ascii "Vel"
limits_name Acc0 = ascii "Acc0"
limits_name Acc1 = ascii "Acc1"
limits_name Acc0Acc1 = ascii "Acc0Acc1"
limits_name Acc0Vel = ascii "Acc0Vel"
limits_name Acc1Vel = ascii "Acc1Vel"
limits_name None = ascii "None"

abbrev pub control_signs_name : ControlSigns → List ℕ
control_signs_name UDDU = ascii "UDDU"
control_signs_name UDUD = ascii "UDUD"

-- a field that isn't a line's first: a space in front
abbrev pub field : List ℕ → List ℕ
field text = 32 ∷ text

-- the sixteen hexadecimal digits of a double's bits; a NaN has one pattern
unfoldable pub hex : Float → List ℕ
hex x = hex_digits 16 (to_bits binary64 x)

-- doubles, each with a space in front
unfoldable pub double_fields : List Float → List ℕ
double_fields [] = []
double_fields (x ∷ xs) = field (hex x) ++ double_fields xs

-- ---- PROFILE: direction, limits, control signs, then the doubles of the profile's layout
unfoldable pub name_fields : Direction → ReachedLimits → ControlSigns → List ℕ
name_fields d l s = field (direction_name d) ++ field (limits_name l) ++ field (control_signs_name s)

unfoldable pub profile_fields : Profile → List ℕ
profile_fields q = name_fields q.direction q.limits q.control_signs ++ double_fields (profile_doubles q)

-- ---- how many bytes each may take, with the space in front
abbrev pub hex_width : ℕ
hex_width = 16

abbrev pub double_width : ℕ
double_width = 1 + hex_width

abbrev pub direction_width : ℕ
direction_width = 5

abbrev pub limits_width : ℕ
limits_width = 12

abbrev pub control_signs_width : ℕ
control_signs_width = 5

abbrev pub names_width : ℕ
names_width = direction_width + limits_width + control_signs_width

abbrev pub profile_width : ℕ
profile_width = names_width + double_width * profile_doubles_length
