-- Phase times of time_acc1_vel_two_step. Definitions only.
use Rattle.std.specs.Prelude.{List, [], ◌∷◌, Float}
use Rattle.doubles.specs.Operators.{◌+ᶠ◌, ◌-ᶠ◌, ◌*ᶠ◌, ◌/ᶠ◌, -ᶠ◌}
use Rattle.doubles.specs.Constants.{0ᶠ, 2ᶠ, 3ᶠ, 6ᶠ, 8ᶠ, 12ᶠ, 24ᶠ}
use Rattle.profile.specs.declared.Start.{Start}
use Rattle.profile.specs.declared.Target.{Target}
use Rattle.profile.specs.declared.Limits.{Limits}
use Rattle.phase_times.specs.declared.constants.Constants.{Constants}

module _ (start : Start) (target : Target) (k : Constants) (m : Limits) where
  open start use {v0, a0}
  open target use {vf, af}
  open k use {pd, vf_vf as vf-vf, j_max_j_max as j-max-j-max}
  open k use {a0_a0 as a0-a0, a0_p3 as a0-p3, af_af as af-af, af_p3 as af-p3, af_p4 as af-p4}
  open m use {v_max as v-max, a_min as a-min, j_max as j-max}

  unfoldable pub times_acc1_vel_two_step : List Float
  times_acc1_vel_two_step =
      let t2 = a0 /ᶠ j-max in
      let j-factor = 2ᶠ *ᶠ a-min *ᶠ j-max *ᶠ pd
      +ᶠ a-min *ᶠ a-min *ᶠ (vf +ᶠ v-max)
      +ᶠ j-max *ᶠ (v-max *ᶠ v-max -ᶠ vf-vf)
      +ᶠ a-min *ᶠ a0 *ᶠ (a0-a0 -ᶠ 2ᶠ *ᶠ j-max *ᶠ (v0 +ᶠ v-max)) /ᶠ j-max in
      let t3-numerator = 3ᶠ *ᶠ af-p4
      -ᶠ 8ᶠ *ᶠ a-min *ᶠ (af-p3 -ᶠ a0-p3)
      -ᶠ 24ᶠ *ᶠ a-min *ᶠ j-max *ᶠ (a0 *ᶠ v0 -ᶠ af *ᶠ vf)
      +ᶠ 6ᶠ *ᶠ af-af *ᶠ (a-min *ᶠ a-min -ᶠ 2ᶠ *ᶠ j-max *ᶠ vf)
      -ᶠ 12ᶠ *ᶠ j-max *ᶠ j-factor in
      let t3 = -ᶠ t3-numerator /ᶠ (24ᶠ *ᶠ a-min *ᶠ j-max-j-max *ᶠ v-max) in
      let t4 = -ᶠ a-min /ᶠ j-max in
      let t5 = -ᶠ (af-af /ᶠ 2ᶠ -ᶠ a-min *ᶠ a-min +ᶠ j-max *ᶠ (v-max -ᶠ vf)) /ᶠ (a-min *ᶠ j-max) in
      let t6 = t4 +ᶠ af /ᶠ j-max in
      0ᶠ ∷ 0ᶠ ∷ t2 ∷ t3 ∷ t4 ∷ t5 ∷ t6 ∷ []
