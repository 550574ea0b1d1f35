-- A profile's boundary: its start, in row 0, its target, and the durations of brake and accel. And the empty profile.
-- Definitions only.
use Rattle.std.specs.Prelude.{Float, set, replicate}
use Rattle.doubles.specs.Operators.{at}
use Rattle.doubles.specs.Constants.{0ᶠ}
use Rattle.profile.specs.declared.Profile.{Profile}
use Rattle.profile.specs.declared.Start.{Start}
use Rattle.profile.specs.declared.Target.{Target}
use Rattle.profile.specs.declared.Direction.TheVariants.{UP}
use Rattle.profile.specs.declared.ControlSigns.TheVariants.{UDDU}
use Rattle.profile.specs.declared.ReachedLimits.TheVariants.{None}

abbrev pub start_of : Profile → Start
start_of q = record { p0 = at q.p 0; v0 = at q.v 0; a0 = at q.a 0 }

abbrev pub target_of : Profile → Target
target_of q = record { pf = q.pf; vf = q.vf; af = q.af }

-- q with another start, target and durations
unfoldable pub with_boundary : Profile → Start → Target → (brake accel : Float) → Profile
with_boundary q start target brake accel =
    record {
      t = q.t;
      t_sum = q.t_sum;
      j = q.j;
      a = set q.a 0 start.a0;
      v = set q.v 0 start.v0;
      p = set q.p 0 start.p0;
      brake = brake;
      accel = accel;
      pf = target.pf;
      vf = target.vf;
      af = target.af;
      limits = q.limits;
      direction = q.direction;
      control_signs = q.control_signs;
    }

-- `set_boundary`: the durations stay
abbrev pub boundary_set : Profile → Start → Target → Profile
boundary_set q start target = with_boundary q start target q.brake q.accel

-- `set_boundary_from_profile`: the durations are the other's too
abbrev pub boundary_from : Profile → Profile → Profile
boundary_from q other = with_boundary q (start_of other) (target_of other) other.brake other.accel

-- all doubles 0, UP, UDDU, limits None
unfoldable pub empty_profile : Profile
empty_profile =
    record {
      t = replicate 7 0ᶠ;
      t_sum = replicate 7 0ᶠ;
      j = replicate 7 0ᶠ;
      a = replicate 8 0ᶠ;
      v = replicate 8 0ᶠ;
      p = replicate 8 0ᶠ;
      brake = 0ᶠ;
      accel = 0ᶠ;
      pf = 0ᶠ;
      vf = 0ᶠ;
      af = 0ᶠ;
      limits = None;
      direction = UP;
      control_signs = UDDU;
    }
