-- The constants serve both directions: the square of the jerk is the same double for either sign.
use mathlib.Core.Bool.{true, false}
use mathlib.Core.Path.{◌≡◌, refl}
use lib.Ieee.{Float, nan, inf, fin, mul, neg}
use Rattle.doubles.specs.Operators.{◌*ᶠ◌, -ᶠ◌}
use Rattle.profile.specs.Limits.{swapped_limits}
use Rattle.profile.specs.declared.Start.{Start}
use Rattle.profile.specs.declared.Target.{Target}
use Rattle.profile.specs.declared.Limits.{Limits}
use Rattle.phase_times.specs.Constants.{constants_of}

pub opposite_square : (x : Float) → (-ᶠ x) *ᶠ (-ᶠ x) ≡ x *ᶠ x
unfolding mul neg
opposite_square nan = refl
opposite_square (inf true) = refl
opposite_square (inf false) = refl
opposite_square (fin true m e) = refl
opposite_square (fin false m e) = refl

pub either_direction : (start : Start) (target : Target) (m : Limits)
    → constants_of start target (swapped_limits m) ≡ constants_of start target m
unfolding constants_of swapped_limits
either_direction start target m = rw opposite_square
