-- The planner's precomputed numbers. Definitions only.
use Rattle.doubles.specs.Operators.{◌-ᶠ◌, ◌*ᶠ◌}
use Rattle.profile.specs.declared.Start.{Start}
use Rattle.profile.specs.declared.Target.{Target}
use Rattle.profile.specs.declared.Limits.{Limits}
use Rattle.phase_times.specs.declared.constants.Constants.{Constants}

module _ (start : Start) (target : Target) (m : Limits) where
  open start use {p0, v0, a0}
  open target use {pf, vf, af}
  open m use {j_max as j-max}

  unfoldable pub constants_of : Constants
  constants_of =
      let a0-a0 = a0 *ᶠ a0 in
      let af-af = af *ᶠ af in
      record {
        pd = pf -ᶠ p0;
        v0_v0 = v0 *ᶠ v0;
        vf_vf = vf *ᶠ vf;
        a0_a0 = a0-a0;
        a0_p3 = a0 *ᶠ a0-a0;
        a0_p4 = a0-a0 *ᶠ a0-a0;
        af_af = af-af;
        af_p3 = af *ᶠ af-af;
        af_p4 = af-af *ᶠ af-af;
        j_max_j_max = j-max *ᶠ j-max;
      }
