-- Phase times of the four tries of time_all_vel, and what its square roots are taken of. Definitions only.
use Rattle.std.specs.Prelude.{List, [], ◌∷◌, Float}
use Rattle.doubles.specs.Operators.{◌+ᶠ◌, ◌-ᶠ◌, ◌*ᶠ◌, ◌/ᶠ◌, -ᶠ◌, at}
use Rattle.doubles.specs.Constants.{0ᶠ, 1ᶠ, 2ᶠ, 3ᶠ, 6ᶠ, 8ᶠ, 12ᶠ, 24ᶠ}
use Rattle.profile.specs.declared.Start.{Start}
use Rattle.profile.specs.declared.Target.{Target}
use Rattle.profile.specs.declared.Limits.{Limits}
use Rattle.phase_times.specs.declared.constants.Constants.{Constants}

module _ (start : Start) (k : Constants) (m : Limits) where
  open start use {v0}
  open k use {a0_a0 as a0-a0, j_max_j_max as j-max-j-max}
  open m use {v_max as v-max, j_max as j-max}

  -- t_acc0 is the square root of it
  unfoldable pub t_acc0_radicand : Float
  t_acc0_radicand = a0-a0 /ᶠ (2ᶠ *ᶠ j-max-j-max) +ᶠ (v-max -ᶠ v0) /ᶠ j-max

module _ (target : Target) (k : Constants) (m : Limits) where
  open target use {vf}
  open k use {af_af as af-af, j_max_j_max as j-max-j-max}
  open m use {v_max as v-max, j_max as j-max}

  -- t_acc1 is the square root of it, and so is h1 of time_vel_two_step
  unfoldable pub t_acc1_radicand : Float
  t_acc1_radicand = af-af /ᶠ (2ᶠ *ᶠ j-max-j-max) +ᶠ (v-max -ᶠ vf) /ᶠ j-max

module _ (start : Start) (target : Target) (k : Constants) (m : Limits) where
  open start use {v0, a0}
  open target use {vf, af}
  open k use {pd, v0_v0 as v0-v0, vf_vf as vf-vf, j_max_j_max as j-max-j-max}
  open k use {a0_a0 as a0-a0, a0_p3 as a0-p3, a0_p4 as a0-p4, af_af as af-af, af_p3 as af-p3, af_p4 as af-p4}
  open m use {v_max as v-max, a_max as a-max, a_min as a-min, j_max as j-max}

  unfoldable pub t3_acc0_acc1_vel : Float
  t3_acc0_acc1_vel =
      let j-factor = a-max *ᶠ a-min *ᶠ (a-max *ᶠ (v0 +ᶠ v-max) -ᶠ a-min *ᶠ (vf +ᶠ v-max) -ᶠ 2ᶠ *ᶠ j-max *ᶠ pd)
      +ᶠ (a-min -ᶠ a-max) *ᶠ j-max *ᶠ v-max *ᶠ v-max
      +ᶠ j-max *ᶠ (a-max *ᶠ vf-vf -ᶠ a-min *ᶠ v0-v0) in
      let numerator = 3ᶠ *ᶠ (a0-p4 *ᶠ a-min -ᶠ af-p4 *ᶠ a-max)
      +ᶠ 8ᶠ *ᶠ a-max *ᶠ a-min *ᶠ (af-p3 -ᶠ a0-p3 +ᶠ 3ᶠ *ᶠ j-max *ᶠ (a0 *ᶠ v0 -ᶠ af *ᶠ vf))
      +ᶠ 6ᶠ *ᶠ a0-a0 *ᶠ a-min *ᶠ (a-max *ᶠ a-max -ᶠ 2ᶠ *ᶠ j-max *ᶠ v0)
      -ᶠ 6ᶠ *ᶠ af-af *ᶠ a-max *ᶠ (a-min *ᶠ a-min -ᶠ 2ᶠ *ᶠ j-max *ᶠ vf)
      -ᶠ 12ᶠ *ᶠ j-max *ᶠ j-factor in
      numerator /ᶠ (24ᶠ *ᶠ a-max *ᶠ a-min *ᶠ j-max-j-max *ᶠ v-max)

  -- ACC0_ACC1_VEL
  unfoldable pub times_acc0_acc1_vel : List Float
  times_acc0_acc1_vel =
      let t0 = (-ᶠ a0 +ᶠ a-max) /ᶠ j-max in
      let t1 = (a0-a0 /ᶠ 2ᶠ -ᶠ a-max *ᶠ a-max -ᶠ j-max *ᶠ (v0 -ᶠ v-max)) /ᶠ (a-max *ᶠ j-max) in
      let t2 = a-max /ᶠ j-max in
      let t3 = t3_acc0_acc1_vel in
      let t4 = -ᶠ a-min /ᶠ j-max in
      let t5 = -ᶠ (af-af /ᶠ 2ᶠ -ᶠ a-min *ᶠ a-min -ᶠ j-max *ᶠ (vf -ᶠ v-max)) /ᶠ (a-min *ᶠ j-max) in
      let t6 = t4 +ᶠ af /ᶠ j-max in
      t0 ∷ t1 ∷ t2 ∷ t3 ∷ t4 ∷ t5 ∷ t6 ∷ []

  -- ACC1_VEL: phases 4 to 6 stay as the try before, ACC0_ACC1_VEL, left them
  unfoldable pub times_acc1_vel : Float → List Float → List Float
  times_acc1_vel t-acc0 acc0-acc1-vel =
      let t0 = t-acc0 -ᶠ a0 /ᶠ j-max in
      let j-factor = 2ᶠ *ᶠ a-min *ᶠ j-max *ᶠ pd
      +ᶠ a-min *ᶠ a-min *ᶠ (vf +ᶠ v-max)
      +ᶠ j-max *ᶠ (v-max *ᶠ v-max -ᶠ vf-vf)
      +ᶠ a-min *ᶠ t-acc0 *ᶠ (a0-a0 -ᶠ 2ᶠ *ᶠ j-max *ᶠ (v0 +ᶠ v-max)) in
      let t3-numerator = 3ᶠ *ᶠ af-p4
      -ᶠ 8ᶠ *ᶠ a-min *ᶠ (af-p3 -ᶠ a0-p3)
      -ᶠ 24ᶠ *ᶠ a-min *ᶠ j-max *ᶠ (a0 *ᶠ v0 -ᶠ af *ᶠ vf)
      +ᶠ 6ᶠ *ᶠ af-af *ᶠ (a-min *ᶠ a-min -ᶠ 2ᶠ *ᶠ j-max *ᶠ vf)
      -ᶠ 12ᶠ *ᶠ j-max *ᶠ j-factor in
      let t3 = -ᶠ t3-numerator /ᶠ (24ᶠ *ᶠ a-min *ᶠ j-max-j-max *ᶠ v-max) in
      t0 ∷ 0ᶠ ∷ t-acc0 ∷ t3 ∷ at acc0-acc1-vel 4 ∷ at acc0-acc1-vel 5 ∷ at acc0-acc1-vel 6 ∷ []

  -- ACC0_VEL
  unfoldable pub times_acc0_vel : Float → List Float
  times_acc0_vel t-acc1 =
      let t0 = (-ᶠ a0 +ᶠ a-max) /ᶠ j-max in
      let t1 = (a0-a0 /ᶠ 2ᶠ -ᶠ a-max *ᶠ a-max -ᶠ j-max *ᶠ (v0 -ᶠ v-max)) /ᶠ (a-max *ᶠ j-max) in
      let t2 = a-max /ᶠ j-max in
      let j-factor = -ᶠ 2ᶠ *ᶠ a-max *ᶠ j-max *ᶠ pd
      +ᶠ a-max *ᶠ a-max *ᶠ (v0 +ᶠ v-max)
      +ᶠ j-max *ᶠ (v-max *ᶠ v-max -ᶠ v0-v0)
      +ᶠ a-max *ᶠ t-acc1 *ᶠ (-ᶠ af-af +ᶠ 2ᶠ *ᶠ (vf +ᶠ v-max) *ᶠ j-max) in
      let t3-numerator = 3ᶠ *ᶠ a0-p4
      +ᶠ 8ᶠ *ᶠ a-max *ᶠ (af-p3 -ᶠ a0-p3)
      +ᶠ 24ᶠ *ᶠ a-max *ᶠ j-max *ᶠ (a0 *ᶠ v0 -ᶠ af *ᶠ vf)
      +ᶠ 6ᶠ *ᶠ a0-a0 *ᶠ (a-max *ᶠ a-max -ᶠ 2ᶠ *ᶠ j-max *ᶠ v0)
      -ᶠ 12ᶠ *ᶠ j-max *ᶠ j-factor in
      let t3 = t3-numerator /ᶠ (24ᶠ *ᶠ a-max *ᶠ j-max-j-max *ᶠ v-max) in
      let t6 = t-acc1 +ᶠ af /ᶠ j-max in
      t0 ∷ t1 ∷ t2 ∷ t3 ∷ t-acc1 ∷ 0ᶠ ∷ t6 ∷ []

  -- VEL: phases 4 to 6 stay as the try before, ACC0_VEL, left them
  unfoldable pub times_vel : Float → Float → List Float → List Float
  times_vel t-acc0 t-acc1 acc0-vel =
      let t0 = t-acc0 -ᶠ a0 /ᶠ j-max in
      let t3 = (af-p3 -ᶠ a0-p3) /ᶠ (3ᶠ *ᶠ j-max-j-max *ᶠ v-max)
      +ᶠ (a0 *ᶠ v0 -ᶠ af *ᶠ vf +ᶠ (af-af *ᶠ t-acc1 +ᶠ a0-a0 *ᶠ t-acc0) /ᶠ 2ᶠ) /ᶠ (j-max *ᶠ v-max)
      -ᶠ (v0 /ᶠ v-max +ᶠ 1ᶠ) *ᶠ t-acc0
      -ᶠ (vf /ᶠ v-max +ᶠ 1ᶠ) *ᶠ t-acc1
      +ᶠ pd /ᶠ v-max in
      t0 ∷ 0ᶠ ∷ t-acc0 ∷ t3 ∷ at acc0-vel 4 ∷ at acc0-vel 5 ∷ at acc0-vel 6 ∷ []
