-- Phase times of the two tries of time_vel_two_step. h1 is the square root of t_acc1_radicand. Definitions only.
use Rattle.std.specs.Prelude.{List, [], ◌∷◌, Float}
use Rattle.doubles.specs.Operators.{◌+ᶠ◌, ◌-ᶠ◌, ◌*ᶠ◌, ◌/ᶠ◌, -ᶠ◌}
use Rattle.doubles.specs.Constants.{0ᶠ, 1ᶠ, 2ᶠ, 3ᶠ}
use Rattle.profile.specs.declared.Start.{Start}
use Rattle.profile.specs.declared.Target.{Target}
use Rattle.profile.specs.declared.Limits.{Limits}
use Rattle.phase_times.specs.declared.constants.Constants.{Constants}

module _ (start : Start) (target : Target) (k : Constants) (m : Limits) where
  open start use {v0, a0}
  open target use {vf, af}
  open k use {pd, a0_p3 as a0-p3, af_af as af-af, af_p3 as af-p3, j_max_j_max as j-max-j-max}
  open m use {v_max as v-max, j_max as j-max}

  -- four step, phase 0 takes the acceleration to 0
  unfoldable pub times_vel_phase0 : Float → List Float
  times_vel_phase0 h1 =
      let t0 = -ᶠ a0 /ᶠ j-max in
      let t3 = (af-p3 -ᶠ a0-p3) /ᶠ (3ᶠ *ᶠ j-max-j-max *ᶠ v-max)
      +ᶠ (a0 *ᶠ v0 -ᶠ af *ᶠ vf +ᶠ (af-af *ᶠ h1) /ᶠ 2ᶠ) /ᶠ (j-max *ᶠ v-max)
      -ᶠ (vf /ᶠ v-max +ᶠ 1ᶠ) *ᶠ h1
      +ᶠ pd /ᶠ v-max in
      let t6 = h1 +ᶠ af /ᶠ j-max in
      t0 ∷ 0ᶠ ∷ 0ᶠ ∷ t3 ∷ h1 ∷ 0ᶠ ∷ t6 ∷ []

  -- four step, phase 2 takes the acceleration to 0
  unfoldable pub times_vel_phase2 : Float → List Float
  times_vel_phase2 h1 =
      let t2 = a0 /ᶠ j-max in
      let t3 = (af-p3 -ᶠ a0-p3) /ᶠ (3ᶠ *ᶠ j-max-j-max *ᶠ v-max)
      +ᶠ (a0 *ᶠ v0 -ᶠ af *ᶠ vf +ᶠ (af-af *ᶠ h1 +ᶠ a0-p3 /ᶠ j-max) /ᶠ 2ᶠ) /ᶠ (j-max *ᶠ v-max)
      -ᶠ (v0 /ᶠ v-max +ᶠ 1ᶠ) *ᶠ a0 /ᶠ j-max
      -ᶠ (vf /ᶠ v-max +ᶠ 1ᶠ) *ᶠ h1
      +ᶠ pd /ᶠ v-max in
      let t6 = h1 +ᶠ af /ᶠ j-max in
      0ᶠ ∷ 0ᶠ ∷ t2 ∷ t3 ∷ h1 ∷ 0ᶠ ∷ t6 ∷ []
