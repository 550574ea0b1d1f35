-- What the bytes of a record mean: start, target, seven times, the jerk, v_max, v_min, a_max and a_min as doubles, then
-- limits, control signs and `set_limits`, a byte each. Definitions only.
use Rattle.std.specs.Prelude.{ℕ, cond, List, [], ◌∷◌, eqb, get_or}
use Rattle.doubles.specs.Constants.{0ᶠ}
use Rattle.encoding.specs.Encoding.{double_at}
use Rattle.profile.specs.Boundary.{empty_profile, boundary_set}
use Rattle.profile.specs.With.{with_times}
use Rattle.profile.specs.declared.Profile.{Profile}
use Rattle.profile.specs.declared.Start.{Start}
use Rattle.profile.specs.declared.Target.{Target}
use Rattle.profile.specs.declared.Limits.{Limits}
use Rattle.profile.specs.declared.ReachedLimits.{ReachedLimits}
use Rattle.profile.specs.declared.ReachedLimits.TheVariants.{Acc0Acc1Vel, Vel, Acc0, Acc1, Acc0Acc1, Acc0Vel, Acc1Vel}
use Rattle.profile.specs.declared.ReachedLimits.TheVariants.{None}
use Rattle.profile.specs.declared.ControlSigns.{ControlSigns}
use Rattle.profile.specs.declared.ControlSigns.TheVariants.{UDDU, UDUD}
use Rattle.profile_check.specs.Check.{Checked, checked}

-- ---- names by their numbers

unfoldable pub limits_of : ℕ → ReachedLimits
limits_of n =
    cond (eqb n 0) Acc0Acc1Vel
    (cond (eqb n 1) Vel
    (cond (eqb n 2) Acc0
    (cond (eqb n 3) Acc1
    (cond (eqb n 4) Acc0Acc1
    (cond (eqb n 5) Acc0Vel
    (cond (eqb n 6) Acc1Vel None))))))

unfoldable pub control_signs_of : ℕ → ControlSigns
control_signs_of n = cond (eqb n 0) UDDU UDUD

-- ---- the arguments of a check

unfoldable pub start_of : List ℕ → Start
start_of b = record { p0 = double_at b 0; v0 = double_at b 8; a0 = double_at b 16 }

unfoldable pub target_of : List ℕ → Target
target_of b = record { pf = double_at b 24; vf = double_at b 32; af = double_at b 40 }

-- an empty profile with the record's boundary and times
unfoldable pub profile_of : List ℕ → Profile
profile_of b =
    with_times (boundary_set empty_profile (start_of b) (target_of b))
    (double_at b 48 ∷ double_at b 56 ∷ double_at b 64 ∷ double_at b 72 ∷ double_at b 80 ∷ double_at b 88 ∷ double_at b 96 ∷ [])

-- a check reads no j_max
unfoldable pub bounds_of : List ℕ → Limits
bounds_of b =
    record {
      v_max = double_at b 112;
      v_min = double_at b 120;
      a_max = double_at b 128;
      a_min = double_at b 136;
      j_max = 0ᶠ;
    }

-- what `check` answers
unfoldable pub checked_of : List ℕ → Checked
checked_of b =
    let signs = control_signs_of (get_or b 145 0) in
    let reached = limits_of (get_or b 144 0) in
    checked (profile_of b) signs reached (eqb (get_or b 146 0) 1) (double_at b 104) (bounds_of b)
