-- The conditions by which `get_profile` chooses families and directions. Definitions only.
use Rattle.std.specs.Prelude.{Bool, cond, ◌||◌, ◌&&◌}
use Rattle.doubles.specs.Operators.{◌<ᶠ◌, ◌≤ᶠ◌, ◌==ᶠ◌}
use Rattle.doubles.specs.Constants.{0ᶠ, eps}
use Rattle.doubles.specs.Functions.{absᶠ}
use Rattle.profile.specs.Limits.{swapped_limits}
use Rattle.profile.specs.declared.Start.{Start}
use Rattle.profile.specs.declared.Target.{Target}
use Rattle.profile.specs.declared.Limits.{Limits}
use Rattle.phase_times.specs.declared.constants.Constants.{Constants}

module _ (m : Limits) where
  open m use {a_max as a-max, a_min as a-min, j_max as j-max}

  -- then only time_all_single_step is tried
  unfoldable pub has_zero_limit : Bool
  has_zero_limit = (j-max ==ᶠ 0ᶠ) || (a-max ==ᶠ 0ᶠ) || (a-min ==ᶠ 0ᶠ)

module _ (target : Target) where
  open target use {vf, af}

  unfoldable pub ends_at_rest : Bool
  ends_at_rest = (absᶠ vf <ᶠ eps) && (absᶠ af <ᶠ eps)

module _ (k : Constants) where
  open k use {pd}

  -- then the limits are first taken as given; else, also for a NaN, those for the opposite direction
  unfoldable pub points_up : Bool
  points_up = 0ᶠ ≤ᶠ pd

module _ (start : Start) (k : Constants) where
  open start use {v0, a0}
  open k use {pd}

  unfoldable pub rests_at_target : Bool
  rests_at_target = (absᶠ v0 <ᶠ eps) && (absᶠ a0 <ᶠ eps) && (absᶠ pd <ᶠ eps)

-- the limits for the direction of pf - p0
unfoldable pub towards_target : Constants → Limits → Limits
towards_target k m = cond (points_up k) m (swapped_limits m)
