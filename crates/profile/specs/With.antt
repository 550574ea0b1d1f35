-- A profile with some of its parts replaced, for definitions and examples that differ from another profile in a few.
-- Definitions only.
use Rattle.std.specs.Prelude.{List, Float}
use Rattle.profile.specs.declared.Profile.{Profile}
use Rattle.profile.specs.declared.Direction.{Direction}
use Rattle.profile.specs.declared.ControlSigns.{ControlSigns}
use Rattle.profile.specs.declared.ReachedLimits.{ReachedLimits}

-- with these phases: times, their sums, jerks
unfoldable pub with_phases : Profile → (t sums j : List Float) → Profile
with_phases q t sums j =
    record {
      t = t;
      t_sum = sums;
      j = j;
      a = q.a;
      v = q.v;
      p = q.p;
      brake = q.brake;
      accel = q.accel;
      pf = q.pf;
      vf = q.vf;
      af = q.af;
      limits = q.limits;
      direction = q.direction;
      control_signs = q.control_signs;
    }

abbrev pub with_times : Profile → List Float → Profile
with_times q t = with_phases q t q.t_sum q.j

abbrev pub with_sums : Profile → List Float → Profile
with_sums q sums = with_phases q q.t sums q.j

-- with these rows
unfoldable pub with_rows : Profile → (a v p : List Float) → Profile
with_rows q a v p =
    record {
      t = q.t;
      t_sum = q.t_sum;
      j = q.j;
      a = a;
      v = v;
      p = p;
      brake = q.brake;
      accel = q.accel;
      pf = q.pf;
      vf = q.vf;
      af = q.af;
      limits = q.limits;
      direction = q.direction;
      control_signs = q.control_signs;
    }

-- with these names
unfoldable pub with_names : Profile → ReachedLimits → Direction → ControlSigns → Profile
with_names q limits direction signs =
    record {
      t = q.t;
      t_sum = q.t_sum;
      j = q.j;
      a = q.a;
      v = q.v;
      p = q.p;
      brake = q.brake;
      accel = q.accel;
      pf = q.pf;
      vf = q.vf;
      af = q.af;
      limits = limits;
      direction = direction;
      control_signs = signs;
    }
