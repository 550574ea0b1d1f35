-- Limits: for the opposite direction, and as the rows are held to them. Definitions only.
use Rattle.std.specs.Prelude.{cond, Float}
use Rattle.doubles.specs.Operators.{◌+ᶠ◌, ◌-ᶠ◌, -ᶠ◌, ◌<ᶠ◌}
use Rattle.doubles.specs.Constants.{0ᶠ}
use Rattle.profile.specs.Tolerances.{v_eps, a_eps}
use Rattle.profile.specs.declared.Limits.{Limits}
use Rattle.profile.specs.declared.Bounds.{Bounds}
use Rattle.profile.specs.declared.Direction.{Direction}
use Rattle.profile.specs.declared.Direction.TheVariants.{UP, DOWN}

-- for the opposite direction both pairs change places, and the jerk its sign
unfoldable pub swapped_limits : Limits → Limits
swapped_limits m =
    record {
      v_max =
          m.v_min;
      v_min = m.v_max;
      a_max = m.a_min;
      a_min = m.a_max;
      j_max = -ᶠ m.j_max;
    }

-- UP if the v_max given is above 0, else DOWN
unfoldable pub direction_of : Limits → Direction
direction_of m = cond (0ᶠ <ᶠ m.v_max) UP DOWN

-- x for UP, y for DOWN
abbrev pub up_else : Direction → Float → Float → Float
up_else UP x y = x
up_else DOWN x y = y

-- the bounds of speed and acceleration, each moved out by its tolerance
unfoldable pub bounds_of : Limits → Bounds
bounds_of m =
    let d = direction_of m in
    record {
      v_upp_lim = up_else d m.v_max m.v_min +ᶠ v_eps;
      v_low_lim = up_else d m.v_min m.v_max -ᶠ v_eps;
      a_upp_lim = up_else d m.a_max m.a_min +ᶠ a_eps;
      a_low_lim = up_else d m.a_min m.a_max -ᶠ a_eps;
    }
