-- Phase times of the four tries of time_acc0_two_step. Definitions only.
use Rattle.std.specs.Prelude.{List, [], ◌∷◌, Float}
use Rattle.doubles.specs.Operators.{◌+ᶠ◌, ◌-ᶠ◌, ◌*ᶠ◌, ◌/ᶠ◌, -ᶠ◌}
use Rattle.doubles.specs.Constants.{0ᶠ, 2ᶠ, 3ᶠ, 4ᶠ, 6ᶠ, 8ᶠ, 12ᶠ}
use Rattle.profile.specs.declared.Start.{Start}
use Rattle.profile.specs.declared.Target.{Target}
use Rattle.profile.specs.declared.Limits.{Limits}
use Rattle.phase_times.specs.declared.constants.Constants.{Constants}

module _ (start : Start) (target : Target) (k : Constants) (m : Limits) where
  open start use {v0, a0}
  open target use {vf, af}
  open k use {pd, v0_v0 as v0-v0, vf_vf as vf-vf, j_max_j_max as j-max-j-max}
  open k use {a0_a0 as a0-a0, a0_p3 as a0-p3, a0_p4 as a0-p4, af_af as af-af, af_p3 as af-p3, af_p4 as af-p4}
  open m use {a_max as a-max, a_min as a-min, j_max as j-max}

  -- two step
  unfoldable pub times_acc0_two_step : List Float
  times_acc0_two_step =
      let t1 = (af-af -ᶠ a0-a0 +ᶠ 2ᶠ *ᶠ j-max *ᶠ (vf -ᶠ v0)) /ᶠ (2ᶠ *ᶠ a0 *ᶠ j-max) in
      let t2 = (a0 -ᶠ af) /ᶠ j-max in
      0ᶠ ∷ t1 ∷ t2 ∷ 0ᶠ ∷ 0ᶠ ∷ 0ᶠ ∷ 0ᶠ ∷ []

  -- three step, removed pf
  unfoldable pub times_acc0_removed_pf : List Float
  times_acc0_removed_pf =
      let t0 = (-ᶠ a0 +ᶠ a-max) /ᶠ j-max in
      let t1 = (a0-a0 +ᶠ af-af -ᶠ 2ᶠ *ᶠ a-max *ᶠ a-max +ᶠ 2ᶠ *ᶠ j-max *ᶠ (vf -ᶠ v0)) /ᶠ (2ᶠ *ᶠ a-max *ᶠ j-max) in
      let t2 = (-ᶠ af +ᶠ a-max) /ᶠ j-max in
      t0 ∷ t1 ∷ t2 ∷ 0ᶠ ∷ 0ᶠ ∷ 0ᶠ ∷ 0ᶠ ∷ []

  unfoldable pub acc0_removed_a_max_h0 : Float
  acc0_removed_a_max_h0 = 3ᶠ *ᶠ (af-af -ᶠ a0-a0 +ᶠ 2ᶠ *ᶠ j-max *ᶠ (v0 +ᶠ vf))

  -- h1 is the square root of it, scaled
  unfoldable pub acc0_removed_a_max_radicand : Float → Float
  acc0_removed_a_max_radicand h0 =
      let h2 = a0-p3 +ᶠ 2ᶠ *ᶠ af-p3 +ᶠ 6ᶠ *ᶠ j-max-j-max *ᶠ pd +ᶠ 6ᶠ *ᶠ (af -ᶠ a0) *ᶠ j-max *ᶠ vf -ᶠ 3ᶠ *ᶠ a0 *ᶠ af-af in
      let h0-factor = a0-p4
      -ᶠ 6ᶠ *ᶠ a0-a0 *ᶠ (af-af +ᶠ 2ᶠ *ᶠ j-max *ᶠ vf)
      +ᶠ 8ᶠ *ᶠ a0 *ᶠ (af-p3 +ᶠ 3ᶠ *ᶠ j-max-j-max *ᶠ pd +ᶠ 3ᶠ *ᶠ af *ᶠ j-max *ᶠ vf)
      -ᶠ 3ᶠ *ᶠ (af-p4 +ᶠ 4ᶠ *ᶠ af-af *ᶠ j-max *ᶠ vf +ᶠ 4ᶠ *ᶠ j-max-j-max *ᶠ (vf-vf -ᶠ v0-v0)) in
      2ᶠ *ᶠ (2ᶠ *ᶠ h2 *ᶠ h2 +ᶠ h0 *ᶠ h0-factor)

  -- three step, removed a_max
  unfoldable pub times_acc0_removed_a_max : Float → Float → List Float
  times_acc0_removed_a_max h0 h1 =
      let t0-numerator = 4ᶠ *ᶠ af-p3
      +ᶠ 2ᶠ *ᶠ a0-p3
      -ᶠ 6ᶠ *ᶠ a0 *ᶠ af-af
      +ᶠ 12ᶠ *ᶠ j-max-j-max *ᶠ pd
      +ᶠ 12ᶠ *ᶠ (af -ᶠ a0) *ᶠ j-max *ᶠ vf
      +ᶠ h1 in
      let t0 = t0-numerator /ᶠ (2ᶠ *ᶠ j-max *ᶠ h0) in
      let t1 = -ᶠ h1 /ᶠ (j-max *ᶠ h0) in
      let t2-numerator = -ᶠ 4ᶠ *ᶠ a0-p3
      -ᶠ 2ᶠ *ᶠ af-p3
      +ᶠ 6ᶠ *ᶠ a0-a0 *ᶠ af
      +ᶠ 12ᶠ *ᶠ j-max-j-max *ᶠ pd
      -ᶠ 12ᶠ *ᶠ (af -ᶠ a0) *ᶠ j-max *ᶠ v0
      +ᶠ h1 in
      let t2 = t2-numerator /ᶠ (2ᶠ *ᶠ j-max *ᶠ h0) in
      t0 ∷ t1 ∷ t2 ∷ 0ᶠ ∷ 0ᶠ ∷ 0ᶠ ∷ 0ᶠ ∷ []

  -- three step, t = (a_max - a_min) / j_max
  unfoldable pub times_acc0_to_a_min : List Float
  times_acc0_to_a_min =
      let t = (a-max -ᶠ a-min) /ᶠ j-max in
      let t0 = (-ᶠ a0 +ᶠ a-max) /ᶠ j-max in
      let t1 = (a0-a0 -ᶠ af-af) /ᶠ (2ᶠ *ᶠ a-max *ᶠ j-max) +ᶠ (vf -ᶠ v0 +ᶠ j-max *ᶠ t *ᶠ t) /ᶠ a-max -ᶠ 2ᶠ *ᶠ t in
      let t6 = (af -ᶠ a-min) /ᶠ j-max in
      t0 ∷ t1 ∷ t ∷ 0ᶠ ∷ 0ᶠ ∷ 0ᶠ ∷ t6 ∷ []
